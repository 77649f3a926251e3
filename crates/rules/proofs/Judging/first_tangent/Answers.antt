use Rattle.std.specs.Prelude.{◌≡◌, length}
use Rattle.std.proofs.Common.{ap, ◌∙◌, rules}
use Rattle.std.proofs.lemmas.Iterator.{YieldsList-from_map}
use Rattle.std.proofs.lemmas.Iterator.Consumers.{YieldsList-from_first, YieldsList-at}
use Rattle.road.specs.Base.{first_that}
use Rattle.road.specs.Exact.{blank_tangent}
use Rattle.road.specs.Rules.{tangent_test, tangent_among, first_broken}
use Rattle.road.specs.declared.Tangent.{Tangent}
use Rattle.rules.specs.Places.{few_tangents}
use Rattle.rules.specs.Walks.{besides, besides_left, as_tangent, tangents-among, gives}
use Rattle.rules.proofs.Judging.first_tangent.Goals as goal

pub returns : goal.returns
unfolding first_broken
returns c =
    let r = c.args.self.now.alignment.now in
    let beside = YieldsList-from_first {A = Tangent × Tangent × Tangent} (λ x. x) besides_left {s = c.new.result} (besides blank_tangent blank_tangent c.tangents-tangents.result.now) c.new.ensures in
    let count = c.tangents-tangents.ensures.items in
    let places : (tangent_test c.args.rule).places (length c.tangents-tangents.result.now) ≡ (tangent_test c.args.rule).places (length r.tangents) = rw count in
    c.first_broken.ensures (tangent_among r) (length r.tangents)
    (gives (tangents-among r c.tangents-tangents.result.now count) (YieldsList-from_map _ as_tangent (YieldsList-at c.map-items.ensures.source beside) c.map-items.ensures.closure (λ x t q k. search rules)))
    (rw places (few_tangents c.args.rule (length r.tangents)))
    ∙ ap (first_that (λ i. (tangent_test c.args.rule).broken c.args.self.now.limits.now (tangent_among r i))) places
