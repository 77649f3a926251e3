-- The element and those beside it are the road's, and their test is the rule.
use Rattle.std.specs.Prelude.{◌≡◌, refl, ℕ, suc, ◌+◌, ◌<◌, length, get_or, Option, unwrap_or}
use Rattle.std.proofs.Common.{sym, ap, ◌∙◌, arith, add-one}
use Rattle.road.specs.Exact.{blank_element, element_of}
use Rattle.road.specs.Rules.{first_arc, arc_before, road_test, first_broken}
use Rattle.road.specs.declared.Element.{Element}
use Rattle.road.specs.declared.Rule.TheVariants as rule
use Rattle.rules.specs.Search.{start, found, on, nothing}
use Rattle.rules.specs.Straights.{turned, not_turned, straight-test}
use Rattle.rules.proofs.Judging.first_straight.Goals.{then-is_arc, else-is_arc, After-is_short_straight}
use Rattle.rules.proofs.Judging.first_straight.Goals as goal

pub loop-i-init : goal.loop-i-init
unfolding first_arc
loop-i-init c = (refl, start)

module _ (c : After-is_short_straight) where
  within : c.loop-i.i < length c.args.self.now.alignment.now.plan
  within = let n = ap length c.elements-elements.ensures.items in omega arith

  here : get_or c.elements-elements.result.now c.loop-i.i blank_element ≡ element_of c.args.self.now.alignment.now c.loop-i.i
  here = rw c.elements-elements.ensures.items

  after : c.unwrap_or-after.result ≡ element_of c.args.self.now.alignment.now (suc (suc c.loop-i.i))
  after =
      let two : c.loop-i.i + 2 ≡ suc (suc c.loop-i.i) = omega arith in
      c.unwrap_or-after.ensures
      ∙ ap (λ (o : Option Element). unwrap_or o blank_element) c.copied.ensures
      ∙ c.get.ensures.lookup.4 (omega arith) blank_element
      ∙ rw (two, c.elements-elements.ensures.items)

  test : c.is_short_straight.result ≡ (road_test rule.ShortStraight).broken c.args.self.now.limits.now c.args.self.now.alignment.now c.loop-i.i
  test =
      c.is_short_straight.ensures
      ∙ straight-test c.args.self.now.limits.now c.args.self.now.alignment.now c.requires c.loop-i.i within c.loop-i.invariant.0 here (ap (λ (x : Element). x.radius) after)

pub returns-then-is_short_straight : goal.returns-then-is_short_straight
unfolding first_broken
returns-then-is_short_straight c =
    let d = (goal.at.returns-then-is_short_straight c).After-is_short_straight in
    found c.loop-i.invariant.1 (within d) (sym (test d) ∙ c.if-is_short_straight.true)

pub loop-i-preserved : goal.loop-i-preserved
loop-i-preserved c =
    let d = (goal.at.loop-i-preserved c).After-is_short_straight in
    let r = c.args.self.now.alignment.now in
    let v = c.loop-i in
    let turn : c.if-is_arc.before.radius ≡ arc_before r (suc v.i) = elim c.if-is_arc.branch [
      | then-is_arc w ↦ ap (λ (x : Element). x.radius) w.before-is ∙ turned r v.i (within d) (here d) (sym c.is_arc.ensures ∙ w.if-is_arc.true)
      | else-is_arc w ↦ ap (λ (x : Element). x.radius) w.before-is ∙ v.invariant.0 ∙ not_turned r v.i (within d) (here d) (sym c.is_arc.ensures ∙ w.if-is_arc.false)
    ] in
    (turn ∙ ap (λ (k : ℕ). arc_before r k) (sym (add-one v.i)), on v.invariant.1 (within d) (sym (test d) ∙ c.if-is_short_straight.false))

pub returns : goal.returns
unfolding first_broken
returns c = let n = ap length c.elements-elements.ensures.items in nothing c.loop-i.invariant.1 (omega arith)
