-- The loop that tries the rules in their order: before place k all are kept, and the verdict is that of the rules from there on.
use Rattle.std.specs.Prelude.{◌≡◌, List, ◌∷◌, ℕ, suc, ◌+◌, ◌<◌, ◌≤◌, drop, None, Some}
use Rattle.std.proofs.Math.Path.{refl, sym}
use Rattle.std.proofs.Common.{ap, ◌∙◌, add-one, drop-cons}
use native.Mathlib.Omega.{arith}
use Rattle.std.proofs.Math.Decide.{ℕ_discrete}
use Rattle.std.proofs.Math.ListN.{length}
use Rattle.road.specs.File.{Road}
use Rattle.road.specs.declared.Limits.{Limits}
use Rattle.road.specs.Rules.{passes, breaks, road_test, order, first_broken, judge, judged}
use Rattle.laws_of_acceptance.specs.Judging.{Keeps, rule_at, KeptBefore, Tried, none_keeps, judge-next, judge-stop}
use Rattle.road.specs.declared.Rule.{Rule}
use Rattle.road.specs.declared.Rule.TheVariants as rule
use Rattle.road.specs.declared.ElementRule.TheVariants as element

pub record Trying (l : Limits) (r : Road) (k : ℕ) : Type 0 where
  pub within : k ≤ length order
  pub kept : KeptBefore order k l r
  pub rest : judge (drop k order) l r ≡ judged l r

module _ {l : Limits} {r : Road} where
  pub trying_start : Trying l r 0
  unfolding judged
  trying_start = record { within = omega arith; kept = λ j h. absurd (omega arith); rest = refl }

  module _ {k : ℕ} (t : Trying l r k) where
    pub trying_end : length order ≤ k → passes ≡ judged l r
    unfolding judge
    trying_end h = let w = t.within in let e : k ≡ length order = omega arith in sym (ap (λ (n : ℕ). judge (drop n order) l r) e) ∙ t.rest

    module _ (h : k < length order) where
      pub tried : Tried (rule_at order k) l r
      tried = record { place = k; within = h; here = refl; before = t.kept }

      from-here : drop k order ≡ rule_at order k ∷ drop (suc k) order
      from-here = drop-cons order k (rule.Element element.PlanLength) h

      pub trying_stop : {p : ℕ} → first_broken (rule_at order k) l r ≡ Some p → breaks (road_test (rule_at order k)).number p ≡ judged l r
      trying_stop e = sym (ap (λ (x : List Rule). judge x l r) from-here ∙ judge-stop l r (rule_at order k) (drop (suc k) order) e) ∙ t.rest

      pub trying_on : first_broken (rule_at order k) l r ≡ None → Trying l r (k + 1)
      trying_on e = record {
        within = omega arith;
        kept = λ j u. go j u (ℕ_discrete j k);
        rest = ap (λ (n : ℕ). judge (drop n order) l r) (add-one k) ∙ sym (ap (λ (x : List Rule). judge x l r) from-here ∙ judge-next l r (rule_at order k) (drop (suc k) order) e) ∙ t.rest;
      }
        where
          go : (j : ℕ) → j < k + 1 → Dec (j ≡ k) → Keeps (rule_at order j) l r
          go j u (yes q) = rw q (none_keeps l r (rule_at order k) e)
          go j u (no n) = t.kept j (omega (arith, n))
