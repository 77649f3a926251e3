-- Document 01, "The blade over a whole run": which curve two rows lie in, and the value of the bound.
use Rattle.std.specs.Prelude.{◌≡◌, refl, ◌↔◌, Bool, true, false, ◌&&◌, ℕ, ◌*◌, ◌-◌, ◌≤◌, ◌<◌, pos, nat_abs, Option, None, Some}
use Rattle.std.proofs.Common.{sym, ap, ap₂, ◌∙◌, arith}
use Rattle.integers.specs.Bridge.{nat, ◌⊖◌, abs!, abs?}
use Rattle.integers.specs.Fraction.{Frac, ◌÷◌, whole, ◌+ᶠ◌, ◌≈ᶠ◌}
use Rattle.integers.specs.Values.{same-value, other_way}
use Rattle.road.specs.File.{Road}
use Rattle.road.specs.Exact.{from◌to◌, vertex_count, vertex, half_length, grade_change, in_curve}
use Rattle.laws_of_search.specs.Searches.{first_some, first-none, first-clear, first_at_some}
use Rattle.std.proofs.lemmas.Bool.{and_from, and_parts, both_ways}
use Rattle.road.specs.Blade.{one_curve, sagitta, bound}
use Rattle.laws_of_acceptance.specs.Facts.{Facts}
use Rattle.laws_of_pieces.specs.Pieces.{OnCurve, on-curve, in_curve_lem, curves_apart}

-- "both are at most h from its vertex"
pub record Both (r : Road) (a b i : ℕ) : Type 0 where
  pub place : i < vertex_count r
  pub first : nat_abs (from vertex r i to a) ≤ half_length r i
  pub second : nat_abs (from vertex r i to b) ≤ half_length r i

-- ---- as the definition's test has it: a vertex with h = 0 has no curve

module _ {r : Road} {i s : ℕ} where
  pub near_on : OnCurve r i s → nat_abs (from vertex r i to s) ≤ half_length r i
  near_on c =
      let low = c.low in
      let high = c.high in
      abs! (nat s ⊖ nat (vertex r i)) (half_length r i) (omega arith) (omega arith)

  pub on_near : 0 < half_length r i → i < vertex_count r → nat_abs (from vertex r i to s) ≤ half_length r i → OnCurve r i s
  on_near l place near =
      let u = abs? (nat s ⊖ nat (vertex r i)) (half_length r i) near in
      record { place = place; long = l; low = omega arith; high = omega arith }

module _ {r : Road} {a b i : ℕ} where
  on-first : 0 < half_length r i → Both r a b i → OnCurve r i a
  on-first l h = on_near l h.place h.first

  on-second : 0 < half_length r i → Both r a b i → OnCurve r i b
  on-second l h = on_near l h.place h.second

  -- two stations are more than a vertex
  long : a < b → Both r a b i → 0 < half_length r i
  long l h =
      let u = abs? (nat a ⊖ nat (vertex r i)) (half_length r i) h.first in
      let v = abs? (nat b ⊖ nat (vertex r i)) (half_length r i) h.second in
      omega arith

-- the definition's test of curve i
abbrev test : Road → (a b : ℕ) → ℕ → Bool
test r a b i = in_curve r a i && in_curve r b i

test_yes : {r : Road} {a b i : ℕ} → 0 < half_length r i → Both r a b i → test r a b i ≡ true
test_yes {r} {a} {b} {i} l h = and_from (in_curve r a i) (in_curve r b i) (in_curve_lem (on-first l h)) (in_curve_lem (on-second l h))

module _ (r : Road) (a b i : ℕ) (place : i < vertex_count r) (e : test r a b i ≡ true) where
  tested_first : OnCurve r i a
  tested_first = on-curve r a i place (and_parts (in_curve r a i) (in_curve r b i) e).0

  tested_both : Both r a b i
  tested_both = record { place = place; first = near_on tested_first; second = near_on (on-curve r b i place (and_parts (in_curve r a i) (in_curve r b i) e).1) }

test_no : (r : Road) (a b i : ℕ) → i < vertex_count r → (0 < half_length r i → Both r a b i → ⊥) → test r a b i ≡ false
test_no r a b i h free = go (test r a b i) refl
  where
    go : (t : Bool) → test r a b i ≡ t → t ≡ false
    go true e = absurd (free (tested_first r a b i h e).long (tested_both r a b i h e))
    go false e = refl

-- ---- the curve that is named

-- the first whose h is above 0 and from whose vertex both are at most h
pub named_iff : (r : Road) (a b i : ℕ) → (one_curve r a b ≡ Some i) ↔ ((0 < half_length r i) × Both r a b i × ((j : ℕ) → j < i → 0 < half_length r j → Both r a b j → ⊥))
unfolding one_curve
named_iff r a b i = (
  λ e. let f = first_some (test r a b) (vertex_count r) i e in
      ((tested_first r a b i f.place f.bad).long, tested_both r a b i f.place f.bad, λ j l p h. both_ways (test r a b j) (f.before j l) (test_yes p h)),
  λ h. first_at_some (test r a b) (vertex_count r) i (record {
    place = h.1.place;
    bad = test_yes h.0 h.1;
    before = λ j l. let p = h.1.place in test_no r a b j (omega arith) (h.2 j l);
  }),
)

pub none_iff : (r : Road) (a b : ℕ) → (one_curve r a b ≡ None) ↔ ((i : ℕ) → 0 < half_length r i → Both r a b i → ⊥)
unfolding one_curve
none_iff r a b = (
  λ e i l h. both_ways (test r a b i) (first-none (test r a b) (vertex_count r) e i h.place) (test_yes l h),
  λ free. first-clear (test r a b) (vertex_count r) (λ i h. test_no r a b i h (free i)),
)

-- ---- neighbouring rows: a < b, so that h is above 0 where both are at most h from a vertex

-- two curves of an accepted road have no two stations in common
one_alone : {r : Road} → Facts r → (a b i j : ℕ) → a < b → i < j → Both r a b i → Both r a b j → ⊥
one_alone {r} F a b i j l k p q =
    let u = (on-second (long l p) p).high in
    let v = (on-first (long l q) q).low in
    omega (arith, curves_apart F i j k q.place)

-- "The rows lie in one vertical curve where both are at most h from its vertex": that curve is named
pub one_curve_iff : {r : Road} → Facts r → (a b i : ℕ) → a < b → (one_curve r a b ≡ Some i) ↔ Both r a b i
one_curve_iff {r} F a b i l = (λ e. ((named_iff r a b i).0 e).1, λ h. (named_iff r a b i).1 (long l h, h, λ j k p q. one_alone F a b j i l k q h))

pub no_curve_iff : (r : Road) (a b : ℕ) → a < b → (one_curve r a b ≡ None) ↔ ((i : ℕ) → Both r a b i → ⊥)
no_curve_iff r a b l = (λ e i h. (none_iff r a b).0 e i (long l h) h, λ free. (none_iff r a b).1 (λ i p h. free i h))

-- ---- the bound

-- 1 + d² × |g2 − g1| / (8 × 2h × 10⁶)
abbrev pub curve_bound : Road → (d i : ℕ) → Frac
curve_bound r d i = whole (pos 1) +ᶠ pos (d * d * nat_abs (grade_change r i)) ÷ (8 * (2 * half_length r i) * 1000000)

-- where a curve is named, and where none is
pub named_bound : (r : Road) (a b i : ℕ) → one_curve r a b ≡ Some i → bound r a b ≈ᶠ curve_bound r (b - a) i
unfolding bound
named_bound r a b i e =
    let l = ((named_iff r a b i).0 e).0 in
    let d : ℕ = b - a in
    let k : ℕ = nat_abs (grade_change r i) in
    let h : ℕ = half_length r i in
    let n : d * d * k * 1 ≡ d * d * k = omega arith in
    let m : 1 * 1000000 * (8 * (2 * h)) ≡ 8 * (2 * h) * 1000000 = omega arith in
    other_way (same-value (omega arith) (sym (ap (λ (o : Option ℕ). whole (pos 1) +ᶠ sagitta r d o) e ∙ ap₂ (λ (x y : ℕ). whole (pos 1) +ᶠ pos x ÷ y) n m)))

pub unnamed_bound : (r : Road) (a b : ℕ) → one_curve r a b ≡ None → bound r a b ≡ whole (pos 1)
unfolding bound
unnamed_bound r a b e = ap (λ (o : Option ℕ). whole (pos 1) +ᶠ sagitta r (b - a) o) e

-- in one curve, and elsewhere
pub bound_in_curve : {r : Road} → Facts r → (a b i : ℕ) → a < b → Both r a b i → bound r a b ≈ᶠ curve_bound r (b - a) i
bound_in_curve {r} F a b i l h = named_bound r a b i ((one_curve_iff F a b i l).1 h)

pub bound_elsewhere : (r : Road) (a b : ℕ) → a < b → ((i : ℕ) → Both r a b i → ⊥) → bound r a b ≡ whole (pos 1)
bound_elsewhere r a b l free = unnamed_bound r a b ((no_curve_iff r a b l).1 free)
