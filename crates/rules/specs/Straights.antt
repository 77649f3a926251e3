-- Refusal 9: the arcs before and after a straight, where the plan is in its order.
use Rattle.std.specs.Prelude.{◌≡◌, refl, Bool, true, false, List, [], ◌∷◌, ℕ, zero, suc, ◌<◌, ◌≤◌, length, take, drop, get_or, ℤ, if◌then◌else◌}
use Rattle.std.proofs.Common.{sym, ap, ◌∙◌, arith, take-suc, drop-cons}
use Rattle.std.proofs.lemmas.List.{reverse-append}
use Rattle.std.proofs.Math.Decide.{dec_lt}
use Rattle.std.proofs.Math.ListN.{get_or-eq_default}
use Rattle.road.specs.File.{Road}
use Rattle.road.specs.declared.Limits.{Limits}
use Rattle.road.specs.Exact.{blank_element, element_of, is_straight, is_arc}
use Rattle.road.specs.Rules.{first_arc, arc_before, arc_after, short_straight}
use Rattle.laws_of_acceptance.specs.OfKind.{is-straight-kind}
use Rattle.laws_of_acceptance.specs.PlanOrder.{PlanOrder, BendBefore, Stands}
use Rattle.road.specs.declared.Element.{Element}
use Rattle.road.specs.declared.Kind.TheVariants.{Straight, Arc, Clothoid}

-- the arc before, one element on
arc-step : (r : Road) (i : ℕ) → i < length r.plan → arc_before r (suc i) ≡ (if is_arc (element_of r i) then (element_of r i).radius else arc_before r i)
unfolding first_arc
arc-step r i h = rw (take-suc r.plan i blank_element h, reverse-append (take i r.plan) (element_of r i ∷ []))

module _ (r : Road) (i : ℕ) (here : i < length r.plan) {e : Element} (is : e ≡ element_of r i) where
  pub turned : is_arc e ≡ true → e.radius ≡ arc_before r (suc i)
  turned t = rw is (sym (arc-step r i here ∙ rw (ap (λ (x : Element). is_arc x) (sym is) ∙ t)))

  pub not_turned : is_arc e ≡ false → arc_before r i ≡ arc_before r (suc i)
  not_turned t = sym (arc-step r i here ∙ rw (ap (λ (x : Element). is_arc x) (sym is) ∙ t))

-- a straight comes from a clothoid, and that from an arc
pub before-is : (r : Road) (i : ℕ) (b : BendBefore r i) → arc_before r (suc i) ≡ (element_of r b.place).radius
before-is r i b = sym (not_turned r i b.clothoid.within refl (rw b.clothoid.is)) ∙ ap (arc_before r) b.next ∙ sym (turned r b.place b.arc.within refl (rw b.arc.is))

drop_past : {A : Type 0} (l : List A) (i : ℕ) → length l ≤ i → drop i l ≡ []
drop_past [] zero h = refl
drop_past [] (suc i) h = refl
drop_past (a ∷ l) zero h = absurd (omega arith)
drop_past (a ∷ l) (suc i) h = drop_past l i (omega arith)

-- past the end there is no arc, and a blank element has radius 0
arc-past : (l : List Element) (i : ℕ) → length l ≤ i → first_arc (drop i l) ≡ (get_or l i blank_element).radius
unfolding first_arc
arc-past l i h = rw (drop_past l i h, get_or-eq_default l blank_element h)

arc-at : (l : List Element) (i : ℕ) → i < length l → (get_or l i blank_element).kind ≡ Arc → first_arc (drop i l) ≡ (get_or l i blank_element).radius
unfolding first_arc
arc-at l i h k = rw (drop-cons l i blank_element h) (rw k)

no_arc_at : (l : List Element) (i : ℕ) → i < length l → (get_or l i blank_element).kind ≡ Clothoid → first_arc (drop i l) ≡ first_arc (drop (suc i) l)
unfolding first_arc
no_arc_at l i h k = rw (drop-cons l i blank_element h) (rw k)

-- a straight leads into a clothoid, and that into an arc; past the last straight there is none
module _ (r : Road) (order : PlanOrder r) (i : ℕ) (straight : Stands r Straight i) where
  pub after_is : arc_after r i ≡ (element_of r (suc (suc i))).radius
  after_is = go (dec_lt (suc i) (length r.plan))
    where
      go : Dec (suc i < length r.plan) → first_arc (drop (suc i) r.plan) ≡ (element_of r (suc (suc i))).radius
      go (yes h) = let a = order.bend i straight h in no_arc_at r.plan (suc i) h (order.straight i straight h).is ∙ arc-at r.plan (suc (suc i)) a.within a.is
      go (no n) =
          let none : length r.plan ≤ suc i = omega arith in
          let past : length r.plan ≤ suc (suc i) = omega arith in
          arc-past r.plan (suc i) none ∙ rw (get_or-eq_default r.plan blank_element none, get_or-eq_default r.plan blank_element past)

pub straight-test : (l : Limits) (r : Road) → PlanOrder r → (i : ℕ) {e : Element} {before after : ℤ}
    → i < length r.plan → before ≡ arc_before r i → e ≡ element_of r i → after ≡ (element_of r (suc (suc i))).radius
    → short_straight l before e after ≡ short_straight l (arc_before r i) (element_of r i) (arc_after r i)
unfolding short_straight
straight-test l r order i {e} {before} {after} h a b c = go (is_straight (element_of r i)) refl
  where
    go : (t : Bool) → is_straight (element_of r i) ≡ t → short_straight l before e after ≡ short_straight l (arc_before r i) (element_of r i) (arc_after r i)
    go true t = rw (b, a, c, after_is r order i (record { within = h; is = is-straight-kind (element_of r i).kind t }))
    go false t = rw (b, t)
