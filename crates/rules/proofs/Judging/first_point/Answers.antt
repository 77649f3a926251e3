use Rattle.std.specs.Prelude.{◌≡◌, ◌+◌, ◌<◌, ◌^◌, length}
use Rattle.std.proofs.Common.{ap, ◌∙◌, rules, arith, of_calls}
use Rattle.std.proofs.lemmas.Iterator.{YieldsList-from_map}
use Rattle.std.proofs.lemmas.Iterator.Consumers.{YieldsList-from_first, YieldsList-from_enumerate, YieldsList-at}
use Rattle.road.specs.Base.{first_that}
use Rattle.road.specs.Exact.{blank_crossfall}
use Rattle.road.specs.Rules.{point_test, point_among, first_broken}
use Rattle.road.specs.declared.Crossfall.{Crossfall}
use Rattle.road.specs.declared.Head.{Head}
use Rattle.rules.specs.declared.walks.Beside.{Beside}
use Rattle.rules.specs.Places.{few_points}
use Rattle.rules.specs.Walks.{besides, besides_left, length-besides, as_point, points-among, gives}
use Rattle.rules.proofs.Judging.first_point.Goals as goal

pub first_broken-requires-clause-can : goal.first_broken-requires-clause-can
first_broken-requires-clause-can c =
    let source = c.map-items.ensures.source in
    let left : length (besides_left c.enumerate.result.iter) ≡ length c.crossfalls-points.result.now = ap (λ (w : Beside Crossfall). length (besides_left w)) c.enumerate.ensures.source ∙ ap length c.new.ensures ∙ length-besides blank_crossfall blank_crossfall c.crossfalls-points.result.now in
    let few : c.enumerate.result.count + length (besides_left c.enumerate.result.iter) < 2 ^ 64 = omega (arith, left, c.enumerate.ensures.count, c.crossfalls-points.ensures.few) in
    search (rules, of_calls)

pub returns : goal.returns
unfolding first_broken
returns c =
    let s = c.args.self.now in
    let r = s.alignment.now in
    let points = c.crossfalls-points.result.now in
    let count = c.crossfalls-points.ensures.items in
    let beside = YieldsList-from_first {A = Crossfall × Crossfall × Crossfall} (λ x. x) besides_left {s = c.new.result} (besides blank_crossfall blank_crossfall points) c.new.ensures in
    let places : (point_test c.args.rule).places (length points) ≡ (point_test c.args.rule).places (length r.crossfalls) = rw count in
    c.first_broken.ensures (point_among r) (length r.crossfalls)
    (gives (points-among r points count s.whole c.head-ramp.result.ramp s.whole_is_total (ap (λ (h : Head). h.ramp) c.head-ramp.ensures))
    (YieldsList-from_map _ (as_point (length points) s.whole c.head-ramp.result.ramp) (YieldsList-at c.map-items.ensures.source (YieldsList-from_enumerate (YieldsList-at c.enumerate.ensures.source beside) c.enumerate.ensures.count)) c.map-items.ensures.closure (λ x t q k. search rules)))
    (rw places (few_points c.args.rule (length r.crossfalls)))
    ∙ ap (first_that (λ i. (point_test c.args.rule).broken s.limits.now (point_among r i))) places
