-- Rule 23, in words: the arcs beside an egg, and those around a pair of clothoids.
use Rattle.std.specs.Prelude.{◌≡◌, Bool, true, false, not, ◌||◌, ℕ, suc, ◌≤◌, ltb, eqb, ℤ, nat_abs}
use Rattle.std.proofs.Common.{ltb-false, eq-eqb}
use Rattle.std.proofs.lemmas.Bool.{not-false, both_ways, or_parts}
use Rattle.road.specs.File.{Road}
use Rattle.road.specs.Limits.{limits}
use Rattle.road.specs.Exact.{element_of}
use Rattle.road.specs.Rules.{same_turn, wrong_egg, wrong_link}
use Rattle.laws_of_acceptance.specs.Judging.{Keeps}
use Rattle.laws_of_acceptance.specs.PlanOrder.{Stands}
use Rattle.laws_of_acceptance.specs.Positive.{Accepted}
use Rattle.road.specs.declared.Kind.TheVariants.{Arc, Clothoid}
use Rattle.road.specs.declared.Element.{Element}
use Rattle.road.specs.declared.Rule.TheVariants as rule
use Rattle.road.specs.declared.ElementRule.TheVariants as element

-- the radii on either side of an egg
pub record Egg (first second : ℤ) : Type 0 where
  pub turn : same_turn first second ≡ true
  pub different : nat_abs first ≡ nat_abs second → ⊥
  pub first-high : nat_abs first ≤ 1000000
  pub second-high : nat_abs second ≤ 1000000

no_four : (a b c d : Bool) → (((a || b) || c) || d) ≡ false → (a ≡ false) × (b ≡ false) × (c ≡ false) × (d ≡ false)
no_four a b c d e = let three = (or_parts ((a || b) || c) d e).0 in let two = (or_parts (a || b) c three).0 in ((or_parts a b two).0, (or_parts a b two).1, (or_parts (a || b) c three).1, (or_parts ((a || b) || c) d e).1)

right-egg : (a b : ℤ) → wrong_egg a b ≡ false → Egg a b
unfolding wrong_egg
right-egg a b h =
    let n = no_four (eqb (nat_abs a) (nat_abs b)) (not (same_turn a b)) (ltb 1000000 (nat_abs a)) (ltb 1000000 (nat_abs b)) h in
    record { turn = not-false _ n.1; different = λ e. both_ways _ n.0 (eq-eqb _ _ e); first-high = ltb-false _ _ n.2; second-high = ltb-false _ _ n.3 }

egg_of : (a b e c : Element) → b.kind ≡ Arc → e.kind ≡ Clothoid → c.kind ≡ Arc → wrong_link a b e c ≡ false → wrong_egg b.radius c.radius ≡ false
unfolding wrong_link
egg_of a b e c kb ke kc h = (or_parts (wrong_egg b.radius c.radius) false (rw (kb, ke, kc) at h)).0

pair_of : (a b e c : Element) → a.kind ≡ Arc → b.kind ≡ Clothoid → e.kind ≡ Clothoid → c.kind ≡ Arc → wrong_link a b e c ≡ false → same_turn a.radius c.radius ≡ false
unfolding wrong_link
pair_of a b e c ka kb ke kc h = rw (ka, kb, ke, kc) at h

module _ {r : Road} (A : Accepted r) where
  kept : Keeps (rule.Element element.LinkedArcs) (limits r) r
  kept = A.kept (rule.Element element.LinkedArcs)

  -- "One clothoid may stand between two arcs of the same turn and different radii"
  pub egg_arcs : (i : ℕ) → Stands r Arc i → Stands r Clothoid (suc i) → Stands r Arc (suc (suc i)) → Egg (element_of r i).radius (element_of r (suc (suc i))).radius
  egg_arcs i a c b = right-egg _ _ (egg_of _ (element_of r i) (element_of r (suc i)) (element_of r (suc (suc i))) a.is c.is b.is (kept (suc i) c.within))

  -- "Two clothoids may now follow one another between arcs of opposite turn"
  pub pair_arcs : (i : ℕ) → Stands r Arc i → Stands r Clothoid (suc i) → Stands r Clothoid (suc (suc i)) → Stands r Arc (suc (suc (suc i))) → same_turn (element_of r i).radius (element_of r (suc (suc (suc i)))).radius ≡ false
  pair_arcs i a c d b = pair_of (element_of r i) (element_of r (suc i)) (element_of r (suc (suc i))) (element_of r (suc (suc (suc i)))) a.is c.is d.is b.is (kept (suc (suc i)) d.within)
