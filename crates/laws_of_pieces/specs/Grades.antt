-- The exact grade at a station is that of any straight part or curve that has the station.
use Rattle.std.specs.Prelude.{◌≡◌, refl, [], ◌∷◌, ℕ, suc, ◌+◌, ◌*◌, ◌≤◌, ℤ, pos, ◌+ℤ◌, ◌-ℤ◌, ◌*ℤ◌, Some}
use Rattle.std.proofs.Common.{sym, ap, arith}
use Rattle.integers.specs.Ring.{◌:+◌, ◌:-◌, ◌:*◌, #, ring, $}
use Rattle.integers.specs.Fraction.{Frac, whole, ◌≈ᶠ◌}
use Rattle.integers.specs.Values.{same-value}
use Rattle.road.specs.File.{Road}
use Rattle.road.specs.Exact.{tangent_of, total, vertex, half_length, grade_change, past, grade_by, grade}
use Rattle.laws_of_pieces.specs.Joints.{none_from, ahead_by}
use Rattle.laws_of_pieces.specs.Pieces.{OnStraight, OnCurve, Along, value-curve, value-straight}
use Rattle.laws_of_acceptance.specs.Facts.{Facts, Level}

-- the grade of tangent i, and the grade in the curve after it
abbrev pub tangent_grade : Road → ℕ → ℕ → Frac
tangent_grade r i s = whole (tangent_of r i).grade

abbrev pub curve_grade : Road → ℕ → ℕ → Frac
curve_grade r i s = grade_by r s (Some i)

flat_start : (g c u : ℤ) (h : ℕ) → u ≡ pos 0 → (g *ℤ pos (2 * h) +ℤ (c *ℤ u) *ℤ pos 1) *ℤ pos 1 ≡ g *ℤ pos (1 * (2 * h))
flat_start g c u h e = rw e (ring (g ∷ c ∷ pos h ∷ []) (($ 0 :* (# 2 :* $ 2) :+ ($ 1 :* # 0) :* # 1) :* # 1) ($ 0 :* (# 1 :* (# 2 :* $ 2))) tt)

curve-end-grade : (g g' u : ℤ) (h : ℕ) → u ≡ pos (h + h) → (g *ℤ pos (2 * h) +ℤ ((g' -ℤ g) *ℤ u) *ℤ pos 1) *ℤ pos 1 ≡ g' *ℤ pos (1 * (2 * h))
curve-end-grade g g' u h e = rw e (ring (g ∷ g' ∷ pos h ∷ []) (($ 0 :* (# 2 :* $ 2) :+ (($ 1 :- $ 0) :* ($ 2 :+ $ 2)) :* # 1) :* # 1) ($ 1 :* (# 1 :* (# 2 :* $ 2))) tt)

-- grades meet at a vertex without a curve, since it has one grade on both sides
pub grades_along : (r : Road) → Level r → Along r (grade_by r) (tangent_grade r) (curve_grade r)
grades_along r level = record {
  curved = λ i s. refl;
  straight = λ s. refl;
  straight-positive = λ i s. omega arith;
  curve-positive = λ i s h. omega arith;
  at-vertex = λ i s h z e. same-value (omega arith) (ap whole (sym (level i h z)));
  at-start = λ i s h l e. record {
    defined = omega arith;
    other-defined = omega arith;
    same = flat_start (tangent_of r i).grade (grade_change r i) (past r i s) (half_length r i) (none_from (vertex r i) (s + half_length r i) e);
  };
  at-end = λ i s h l e. record {
    defined = omega arith;
    other-defined = omega arith;
    same = curve-end-grade (tangent_of r i).grade (tangent_of r (suc i)).grade (past r i s) (half_length r i) (ahead_by (vertex r i) (s + half_length r i) (half_length r i + half_length r i) (omega arith));
  };
}

module _ {r : Road} (F : Facts r) (level : Level r) where
  pub grade-curve : (i s : ℕ) → OnCurve r i s → grade r s ≈ᶠ curve_grade r i s
  unfolding grade
  grade-curve i s c = value-curve F (grades_along r level) i s c

  pub grade-straight : (i s : ℕ) → s ≤ total r → OnStraight r i s → grade r s ≈ᶠ tangent_grade r i s
  unfolding grade
  grade-straight i s h c = value-straight F (grades_along r level) i s h c
