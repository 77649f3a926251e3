-- What the judge says of rules in an order: a road passes if and only if no item breaks a rule; else the first rule of the order that is broken is named, with its first item.
use Rattle.std.proofs.Math.Path.{◌≡◌, refl, ap}
use Rattle.std.proofs.Common.{sym, ◌∙◌, subst, arith, ltb-true, leb-false, eq-eqb}
use Prim.Native.Nat.{ℕ, zero, suc, ◌<◌}
use mathlib.Core.List.{List, [], ◌∷◌}
use Rattle.std.specs.Prelude.{true, false, ◌&&◌, get_or, leb, ltb, eqb, Option, None, Some}
use Rattle.std.proofs.Math.ListN.{length}
use Rattle.road.specs.Base.{first_from, first_that}
use Rattle.road.specs.File.{Road}
use Rattle.road.specs.declared.Limits.{Limits}
use Rattle.road.specs.Rules.{passes, breaks, road_test, order, first_broken, judge}
use Rattle.laws_of_search.specs.Searches.{FirstAt, first_some, first-none, first-clear, first_at_some}
use Rattle.laws_of_lists.specs.Tests.{and_no_then}
use Rattle.road.specs.declared.Rule.{Rule}
use Rattle.road.specs.declared.Rule.TheVariants as rule
use Rattle.road.specs.declared.ElementRule.TheVariants as element
use Rattle.road.specs.declared.TangentRule.TheVariants as tangent
use Rattle.road.specs.declared.PointRule.TheVariants as point

-- no item breaks a rule
abbrev pub Keeps : Rule → Limits → Road → Type 0
Keeps rule l r = (i : ℕ) → i < (road_test rule).places r → (road_test rule).broken l r i ≡ false

-- the rule at a place of an order; past its end the first of document 01
abbrev pub rule_at : List Rule → ℕ → Rule
rule_at rules k = get_or rules k (rule.Element element.PlanLength)

-- every rule before place k of an order is kept
abbrev pub KeptBefore : List Rule → ℕ → Limits → Road → Type 0
KeptBefore rules k l r = (j : ℕ) → j < k → Keeps (rule_at rules j) l r

-- the rule at a place of an order is broken, first at p, and every rule before it is kept
pub record Broken (rules : List Rule) (l : Limits) (r : Road) (n p : ℕ) : Type 0 where
  pub place : ℕ
  pub within : place < length rules
  pub number : (road_test (rule_at rules place)).number ≡ n
  pub first : FirstAt ((road_test (rule_at rules place)).broken l r) ((road_test (rule_at rules place)).places r) p
  pub before : KeptBefore rules place l r

module _ (l : Limits) (r : Road) where
  pub none_keeps : (rule : Rule) → first_broken rule l r ≡ None → Keeps rule l r
  unfolding first_broken
  none_keeps rule e = first-none ((road_test rule).broken l r) ((road_test rule).places r) e

  pub keeps_none : (rule : Rule) → Keeps rule l r → first_broken rule l r ≡ None
  unfolding first_broken
  keeps_none rule k = first-clear ((road_test rule).broken l r) ((road_test rule).places r) k

  pub judge-next : (rule : Rule) (later : List Rule) → first_broken rule l r ≡ None → judge (rule ∷ later) l r ≡ judge later l r
  unfolding judge
  judge-next rule later e = rw (e, judge)

  pub judge-stop : (rule : Rule) (later : List Rule) {i : ℕ} → first_broken rule l r ≡ Some i → judge (rule ∷ later) l r ≡ breaks (road_test rule).number i
  unfolding judge
  judge-stop rule later e = rw (e, judge)

  -- what is kept before a place of the later rules is kept before the next place
  kept_later : (rule : Rule) (later : List Rule) (k : ℕ) → Keeps rule l r → KeptBefore later k l r → KeptBefore (rule ∷ later) (suc k) l r
  kept_later rule later k first kept zero h = first
  kept_later rule later k first kept (suc j) h = kept j (omega arith)

  pub passes_kept : (rules : List Rule) → judge rules l r ≡ passes → KeptBefore rules (length rules) l r
  passes_kept [] e = λ j h. absurd (omega arith)
  passes_kept (rule ∷ later) e = go (first_broken rule l r) refl (λ f. passes_kept later f)
    where
      go : (o : Option ℕ) → first_broken rule l r ≡ o → (judge later l r ≡ passes → KeptBefore later (length later) l r) → KeptBefore (rule ∷ later) (suc (length later)) l r
      go (Some i) p ih = absurd (let h = judge-stop rule later p in cc)
      go None p ih = kept_later rule later (length later) (none_keeps rule p) (ih (sym (judge-next rule later p) ∙ e))

  pub kept-passes : (rules : List Rule) → KeptBefore rules (length rules) l r → judge rules l r ≡ passes
  unfolding judge
  kept-passes [] k = refl
  kept-passes (rule ∷ later) k = judge-next rule later (keeps_none rule (k 0 (omega arith))) ∙ kept-passes later (λ j h. k (suc j) (omega arith))

  pub judge-broken : (rules : List Rule) (n p : ℕ) → judge rules l r ≡ breaks n p → Broken rules l r n p
  unfolding judge first_broken
  judge-broken [] n p e = absurd (cc)
  judge-broken (rule ∷ later) n p e = go (first_broken rule l r) refl (λ f. judge-broken later n p f)
    where
      go : (o : Option ℕ) → first_broken rule l r ≡ o → (judge later l r ≡ breaks n p → Broken later l r n p) → Broken (rule ∷ later) l r n p
      go (Some k) q ih =
          let h = judge-stop rule later q in
          let same : k ≡ p = cc in
          record { place = 0; within = omega arith; number = cc; first = first_some ((road_test rule).broken l r) ((road_test rule).places r) p (q ∙ ap {B = Option ℕ} Some same); before = λ j u. absurd (omega arith) }
      go None q ih =
          let b = ih (sym (judge-next rule later q) ∙ e) in
          let w = b.within in
          record { place = suc b.place; within = omega arith; number = b.number; first = b.first; before = kept_later rule later b.place (none_keeps rule q) b.before }

  pub broken-judge : (rules : List Rule) (n p : ℕ) → Broken rules l r n p → judge rules l r ≡ breaks n p
  unfolding first_broken
  broken-judge rules n p b = go rules b.place b.within b.number b.first b.before
    where
      go : (rules : List Rule) (k : ℕ) → k < length rules → (road_test (rule_at rules k)).number ≡ n → FirstAt ((road_test (rule_at rules k)).broken l r) ((road_test (rule_at rules k)).places r) p → KeptBefore rules k l r → judge rules l r ≡ breaks n p
      go [] k h e f before = absurd (omega arith)
      go (rule ∷ later) zero h e f before = judge-stop rule later (first_at_some ((road_test rule).broken l r) ((road_test rule).places r) p f) ∙ ap (λ (m : ℕ). breaks m p) e
      go (rule ∷ later) (suc k) h e f before = judge-next rule later (keeps_none rule (before 0 (omega arith))) ∙ go later k (omega arith) e f (λ j u. before (suc j) (omega arith))

-- ---- the order of document 01 has every rule

-- a rule's place: the first that has its number
unfoldable pub place_of : Rule → ℕ
place_of rule = elim (first_that (λ k. eqb (road_test (rule_at order k)).number (road_test rule).number) (length order)) [ Some k ↦ k | None ↦ 0 ]

record InOrder (rule : Rule) : Type 0 where
  within : ltb (place_of rule) (length order) ≡ true
  there : rule_at order (place_of rule) ≡ rule

in_order : (rule : Rule) → InOrder rule
unfolding place_of first_that first_from
in_order (rule.Element element.PlanLength) = record { within = refl; there = refl }
in_order (rule.Element element.Kinds) = record { within = refl; there = refl }
in_order (rule.Element element.LinkedArcs) = record { within = refl; there = refl }
in_order (rule.Element element.LongStraight) = record { within = refl; there = refl }
in_order (rule.Element element.TightArc) = record { within = refl; there = refl }
in_order (rule.Element element.ShortArc) = record { within = refl; there = refl }
in_order (rule.Element element.ShortClothoid) = record { within = refl; there = refl }
in_order rule.OtherTotal = record { within = refl; there = refl }
in_order rule.ShortStraight = record { within = refl; there = refl }
in_order (rule.Tangent tangent.SteepTangent) = record { within = refl; there = refl }
in_order (rule.Tangent tangent.ShortTangent) = record { within = refl; there = refl }
in_order (rule.Tangent tangent.SharpVertex) = record { within = refl; there = refl }
in_order (rule.Point point.MisplacedPoint) = record { within = refl; there = refl }
in_order (rule.Point point.WrongCrossfall) = record { within = refl; there = refl }
in_order (rule.Point point.SteepRamp) = record { within = refl; there = refl }
in_order rule.Superelevation = record { within = refl; there = refl }

pub kept_by_name : (l : Limits) (r : Road) → KeptBefore order (length order) l r → (rule : Rule) → Keeps rule l r
kept_by_name l r kept rule = let o = in_order rule in subst (λ (x : Rule). Keeps x l r) o.there (kept (place_of rule) (ltb-true (place_of rule) (length order) o.within))

-- ---- what a rule may take from those before it

-- a rule is tried at a place of the order: every rule before that place is kept
pub record Tried (rule : Rule) (l : Limits) (r : Road) : Type 0 where
  pub place : ℕ
  pub within : place < length order
  pub here : rule_at order place ≡ rule
  pub before : KeptBefore order place l r

-- no place of the order that has the later rule's number stands at or before the earlier one's
unfoldable pub Follows : (earlier later : Rule) → Type 0
Follows earlier later = first_that (λ k. eqb (road_test (rule_at order k)).number (road_test later).number && leb k (place_of earlier)) (length order) ≡ None

pub kept-earlier : (l : Limits) (r : Road) (earlier later : Rule) → Follows earlier later → Tried later l r → Keeps earlier l r
unfolding Follows
kept-earlier l r earlier later follows t =
    let no = and_no_then _ (leb t.place (place_of earlier)) (first-none _ _ follows t.place t.within) (eq-eqb _ _ (ap (λ (x : Rule). (road_test x).number) t.here)) in
    subst (λ (x : Rule). Keeps x l r) (in_order earlier).there (t.before (place_of earlier) (leb-false t.place (place_of earlier) no))

-- the straights after the kinds, superelevation after the points
pub straight_follows : Follows (rule.Element element.Kinds) rule.ShortStraight
unfolding Follows place_of first_that first_from
straight_follows = refl

pub superelevation_follows : Follows (rule.Point point.MisplacedPoint) rule.Superelevation
unfolding Follows place_of first_that first_from
superelevation_follows = refl
