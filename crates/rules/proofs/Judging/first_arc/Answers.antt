-- Each turn is a law of `Passing` about element i and the points j and j + 1.
use Rattle.std.specs.Prelude.{◌≡◌, ◌+◌, ◌<◌, ◌≤◌, length, get_or}
use Rattle.std.proofs.Common.{ap, ◌∙◌, arith}
use Rattle.road.specs.Exact.{blank_element, element_of, point_of}
use Rattle.road.specs.Rules.{first_broken}
use Rattle.superelevation.specs.declared.Pair.{Pair}
use Rattle.superelevation.specs.Shown.{shown_by}
use Rattle.rules.specs.Passing.{passing_start, passing_found, passing_pair, passing_element, passing_nothing}
use Rattle.rules.proofs.Judging.first_arc.Goals.{else-j-points-via-then-j-points+else-from-span, else-j-points-via-else-j-points, After-is_wrong}
use Rattle.rules.proofs.Judging.first_arc.Goals as goal

pub loop-i-init : goal.loop-i-init
loop-i-init c =
    let n = ap length c.elements-elements.ensures.items in
    (omega arith, passing_start c.args.self.now.limits.now c.args.self.now.alignment.now c.requires (omega (arith, c.elements-elements.ensures.few)))

-- the element and the points are those of the road's lists
module _ (c : After-is_wrong) where
  within : c.loop-i.i < length c.args.self.now.alignment.now.plan
  within = let n = ap length c.elements-elements.ensures.items in omega arith

  here : get_or c.elements-elements.result.now c.loop-i.i blank_element ≡ element_of c.args.self.now.alignment.now c.loop-i.i
  here = rw c.elements-elements.ensures.items

  small : (get_or c.elements-elements.result.now c.loop-i.i blank_element).length ≤ 4294967295
  small = omega arith

  near : c.pair_at-pair.result.point ≡ point_of c.args.self.now.alignment.now c.loop-i.j
  near = ap (λ (p : Pair). p.point) c.pair_at-pair.ensures ∙ rw c.crossfalls-points.ensures.items

  far : c.pair_at-pair.result.next ≡ point_of c.args.self.now.alignment.now (c.loop-i.j + 1)
  far = ap (λ (p : Pair). p.next) c.pair_at-pair.ensures ∙ rw c.crossfalls-points.ensures.items

  tested : c.is_wrong.result ≡ shown_by c.args.self.now.limits.now (get_or c.elements-elements.result.now c.loop-i.i blank_element) c.loop-i.low (c.loop-i.low + (get_or c.elements-elements.result.now c.loop-i.i blank_element).length) c.pair_at-pair.result.point c.pair_at-pair.result.next
  tested = rw c.from.ensures at c.is_wrong.ensures

pub returns-then-is_wrong : goal.returns-then-is_wrong
unfolding first_broken
returns-then-is_wrong c =
    let d = (goal.at.returns-then-is_wrong c).After-is_wrong in
    let s = c.args.self.now in
    passing_found s.limits.now s.alignment.now c.requires c.loop-i.invariant.1 (within d) (small d) (here d) (near d) (far d) (tested d) c.if-is_wrong.true

pub loop-i-preserved-then-from-span : goal.loop-i-preserved-then-from-span
loop-i-preserved-then-from-span c =
    let d = (goal.at.loop-i-preserved-then-from-span c).After-is_wrong in
    let s = c.args.self.now in
    let n = ap length c.crossfalls-points.ensures.items in
    (omega arith, passing_pair s.limits.now s.alignment.now c.requires c.loop-i.invariant.1 (within d) (small d) (here d) (near d) (far d) (tested d) c.if-is_wrong.false (omega arith) (omega (arith, c.if-from-span.true, c.from.ensures, c.from-then-j-points.ensures)))

pub loop-i-preserved : goal.loop-i-preserved
loop-i-preserved c =
    let d = (goal.at.loop-i-preserved c).After-is_wrong in
    let s = c.args.self.now in
    let n = ap length c.crossfalls-points.ensures.items in
    let beyond : c.loop-i.j + 2 < length c.crossfalls-points.result.now → c.loop-i.low + (get_or c.elements-elements.result.now c.loop-i.i blank_element).length < c.pair_at-pair.result.next.station =
    λ more. elim c.else-j-points.branch [ else-j-points-via-then-j-points+else-from-span w ↦ omega (arith, w.if-from-span.false, c.from.ensures, w.from-then-j-points.ensures) | else-j-points-via-else-j-points w ↦ absurd (omega (arith, w.if-j-points.false)) ] in
    (c.loop-i.invariant.0, rw c.from.ensures (passing_element s.limits.now s.alignment.now c.requires c.loop-i.invariant.1 (within d) (small d) (here d) (near d) (far d) (tested d) c.if-is_wrong.false (λ more. beyond (omega arith))))

pub returns : goal.returns
unfolding first_broken
returns c = let n = ap length c.elements-elements.ensures.items in passing_nothing c.loop-i.invariant.1 (omega arith)
