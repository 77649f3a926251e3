-- The rules of an element together: whether any of them is broken.
use Rattle.std.specs.Prelude.{◌≡◌, refl, ℕ, ◌<◌, Bool, true, false, List, [], ◌∷◌, get_or}
use Rattle.std.specs.List.{list_any}
use Rattle.std.proofs.Common.{arith}
use Rattle.std.proofs.lemmas.List.Folds.{list_any_at}
use Rattle.laws_of_lists.specs.Tests.{true_false}
use Rattle.road.specs.declared.Limits.{Limits}
use Rattle.road.specs.Rules.{element_test}
use Rattle.road.specs.declared.ElementAmong.{ElementAmong}
use Rattle.road.specs.declared.ElementRule.{ElementRule}
use Rattle.road.specs.declared.ElementRule.TheVariants as element

abbrev pub element_rules : List ElementRule
element_rules =
    element.PlanLength
    ∷ element.Kinds
    ∷ element.LinkedArcs
    ∷ element.LongStraight
    ∷ element.TightArc
    ∷ element.ShortArc
    ∷ element.ShortClothoid
    ∷ []

unfoldable pub any_broken : Limits → ElementAmong → Bool
any_broken l m = list_any (λ x. (element_test x).broken l m) element_rules

pub none-broken : (l : Limits) (m : ElementAmong) → any_broken l m ≡ false → (x : ElementRule) → (element_test x).broken l m ≡ false
unfolding any_broken
none-broken l m e x = of x
  where
    broken : ElementRule → Bool
    broken x = (element_test x).broken l m

    at : (k : ℕ) → k < 7 → broken (get_or element_rules k element.PlanLength) ≡ false
    at k h = go (broken (get_or element_rules k element.PlanLength)) refl
      where
        go : (b : Bool) → broken (get_or element_rules k element.PlanLength) ≡ b → broken (get_or element_rules k element.PlanLength) ≡ false
        go true b = absurd (true_false (any_broken l m) (list_any_at broken element_rules k element.PlanLength h b) e)
        go false b = b

    of : (x : ElementRule) → broken x ≡ false
    of element.PlanLength = at 0 (omega arith)
    of element.Kinds = at 1 (omega arith)
    of element.LinkedArcs = at 2 (omega arith)
    of element.LongStraight = at 3 (omega arith)
    of element.TightArc = at 4 (omega arith)
    of element.ShortArc = at 5 (omega arith)
    of element.ShortClothoid = at 6 (omega arith)
