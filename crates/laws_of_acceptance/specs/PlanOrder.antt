-- Rule 7, in words that know no count: what follows a straight and an arc of the plan. That the whole order is an allowed one is in `Kinds`.
use Rattle.std.specs.Prelude.{◌≡◌, refl, Bool, true, ℕ, zero, suc, ◌<◌, length, ltb}
use Rattle.std.proofs.Common.{ap, ⊎_elim, arith}
use Rattle.std.proofs.Math.Bool.{false}
use Rattle.std.proofs.Math.Decide.{dec_lt}
use borrow.Author.Tests.{lt-ltb, le-ltb, not-false}
use Rattle.std.proofs.lemmas.Bool.{and_parts, both_ways, or_cases}
use Rattle.road.specs.File.{Road, straight_kind, arc_kind, clothoid_kind}
use Rattle.road.specs.declared.Limits.{Limits}
use Rattle.road.specs.Exact.{element_of, is_straight, is_arc, is_clothoid}
use Rattle.road.specs.Rules.{may_follow, wrong_kind, element_before}
use Rattle.laws_of_acceptance.specs.OfKind.{is-arc-kind, is-clothoid-kind}
use Rattle.laws_of_acceptance.specs.Judging.{Keeps}
use Rattle.road.specs.declared.Kind.{Kind}
use Rattle.road.specs.declared.Kind.TheVariants.{Straight, Arc, Clothoid}
use Rattle.road.specs.declared.Element.{Element}
use Rattle.road.specs.declared.Rule.TheVariants as rule
use Rattle.road.specs.declared.ElementRule.TheVariants as element

-- element i is there, and of a kind
pub record Stands (r : Road) (kind : Kind) (i : ℕ) : Type 0 where
  pub within : i < length r.plan
  pub is : (element_of r i).kind ≡ kind

pub record PlanOrder (r : Road) : Type 0 where
  -- an arc leads into a clothoid
  pub arc : (i : ℕ) → Stands r Arc i → Stands r Clothoid (suc i)
  -- a straight that is not the last leads into a clothoid, and that into an arc
  pub straight : (i : ℕ) → Stands r Straight i → suc i < length r.plan → Stands r Clothoid (suc i)
  pub bend : (i : ℕ) → Stands r Straight i → suc i < length r.plan → Stands r Arc (suc (suc i))

-- a straight that is not the first comes from a clothoid, and that from an arc
pub record BendBefore (r : Road) (i : ℕ) : Type 0 where
  pub clothoid : Stands r Clothoid i
  pub place : ℕ
  pub next : i ≡ suc place
  pub arc : Stands r Arc place

behind-clothoid : (a b e : Element) → b.kind ≡ Clothoid → a.kind ≡ Straight → may_follow a b e ≡ true → e.kind ≡ Arc
unfolding may_follow
behind-clothoid a b e k j h = ⊎_elim (is-arc-kind e.kind) (λ q. absurd cc) (or_cases (is_arc e) false (rw (k, j) at h))

behind-other : (a b e : Element) → is_clothoid b ≡ false → may_follow a b e ≡ true → e.kind ≡ Clothoid
unfolding may_follow
behind-other a b e k h = is-clothoid-kind e.kind (rw k at h)

before-straight : (a b e : Element) → e.kind ≡ Straight → may_follow a b e ≡ true → (b.kind ≡ Clothoid) × (a.kind ≡ Arc)
unfolding may_follow
before-straight a b e k h = go (is_clothoid b) refl
  where
    go : (t : Bool) → is_clothoid b ≡ t → (b.kind ≡ Clothoid) × (a.kind ≡ Arc)
    go true t = (is-clothoid-kind b.kind t, is-arc-kind a.kind (and_parts (is_arc a) true (rw (t, k) at h)).0)
    go false t = absurd (both_ways false refl (rw (t, k) at h))

module _ (l : Limits) (r : Road) (kept : Keeps (rule.Element element.Kinds) l r) where
  follows : (i : ℕ) → suc i < length r.plan → may_follow (element_before r i) (element_of r i) (element_of r (suc i)) ≡ true
  unfolding wrong_kind
  follows i h = not-false _ (rw (lt-ltb (suc i) (length r.plan) h) at (kept (suc i) (omega arith)))

  -- the last element is a straight
  last-is : (i : ℕ) → suc i ≡ length r.plan → is_straight (element_of r i) ≡ true
  unfolding wrong_kind
  last-is i e =
      let k : wrong_kind (suc i) (length r.plan) _ (element_of r i) _ ≡ false = kept (suc i) (omega arith) in
      let n = not-false _ (rw (le-ltb (suc i) (length r.plan) (omega arith)) at k) in
      (and_parts (ltb 0 (suc i)) (is_straight (element_of r i)) n).1

  goes_on : {k : Kind} (i : ℕ) → Stands r k i → straight_kind k ≡ false → suc i < length r.plan
  goes_on i s other = go (dec_lt (suc i) (length r.plan))
    where
      go : Dec (suc i < length r.plan) → suc i < length r.plan
      go (yes h) = h
      go (no n) = let w = s.within in absurd (both_ways (is_straight (element_of r i)) (rw s.is other) (last-is i (omega (arith, n))))

  into_clothoid : {k : Kind} (i : ℕ) → Stands r k i → clothoid_kind k ≡ false → suc i < length r.plan → Stands r Clothoid (suc i)
  into_clothoid i s other h = record { within = h; is = behind-other _ (element_of r i) _ (rw s.is other) (follows i h) }

  pub bend-before : (i : ℕ) → Stands r Straight (suc i) → BendBefore r i
  bend-before i s = go i s.within (before-straight (element_before r i) (element_of r i) (element_of r (suc i)) s.is (follows i s.within))
    where
      go : (i : ℕ) → suc i < length r.plan → ((element_of r i).kind ≡ Clothoid) × ((element_before r i).kind ≡ Arc) → BendBefore r i
      go zero h k = absurd (both_ways false refl (ap arc_kind k.1))
      go (suc j) h k = record { clothoid = record { within = omega arith; is = k.0 }; place = j; next = refl; arc = record { within = omega arith; is = k.1 } }

  pub plan-order : PlanOrder r
  plan-order = record {
    arc = λ i s. into_clothoid i s refl (goes_on i s refl);
    straight = λ i s h. into_clothoid i s refl h;
    bend = λ i s h.
        let c = into_clothoid i s refl h in
        let g = goes_on (suc i) c refl in
        record { within = g; is = behind-clothoid (element_of r i) (element_of r (suc i)) _ c.is s.is (follows (suc i) g) };
  }
