-- Where neighbouring definitions meet, both sides give the value there.
use Rattle.std.specs.Prelude.{◌≡◌, ℕ, suc, ◌+◌, ◌<◌, length, Option}
use Rattle.std.proofs.Common.{arith}
use Rattle.integers.specs.Fraction.{Frac, ◌≈ᶠ◌}
use Rattle.road.specs.File.{Road}
use Rattle.road.specs.Exact.{element_start, vertex_count, vertex, half_length, curve_at, tangent_height, curve_height, height, grade, point_of, Side, crossfall_by, crossfall, curvature_on, curvature}
use Rattle.laws_of_acceptance.specs.Lists.{element-step}
use Rattle.laws_of_acceptance.specs.Facts.{Facts, curve-ends}
use Rattle.laws_of_pieces.specs.Pieces.{Along, value-curve, value-straight, at-stop, at-begin}
use Rattle.laws_of_pieces.specs.Heights.{heights-along}
use Rattle.laws_of_pieces.specs.Grades.{tangent_grade, curve_grade, grades_along}
use Rattle.laws_of_pieces.specs.Crossfalls.{crossfall-between}
use Rattle.laws_of_pieces.specs.Curvatures.{curvature-on}
use Rattle.laws_of_acceptance.specs.Guaranteed.{Guaranteed}

-- a value, and what the definitions on either side give
pub record Meets (value before after : Frac) : Type 0 where
  pub first : value ≈ᶠ before
  pub second : value ≈ᶠ after

-- ---- tangents and curves, be it height or grade
module _ {r : Road} (F : Facts r) {W : ℕ → Option ℕ → Frac} {S C : ℕ → ℕ → Frac} (A : Along r W S C) (i s : ℕ) (h : i < vertex_count r) where
  -- where a curve begins
  start-meets : 0 < half_length r i → s + half_length r i ≡ vertex r i → Meets (W s (curve_at r s)) (S i s) (C i s)
  start-meets l e = record {
    first = value-straight F A i s (omega (arith, curve-ends F i h)) (at-stop F i s h e);
    second = value-curve F A i s (record { place = h; long = l; low = omega arith; high = omega arith });
  }

  -- where a curve ends
  end-meets : 0 < half_length r i → s ≡ vertex r i + half_length r i → Meets (W s (curve_at r s)) (C i s) (S (suc i) s)
  end-meets l e = record {
    first = value-curve F A i s (record { place = h; long = l; low = omega arith; high = omega arith });
    second = value-straight F A (suc i) s (omega (arith, curve-ends F i h)) (at-begin F i s (omega arith) e);
  }

  -- a vertex without a curve
  vertex-meets : half_length r i ≡ 0 → s ≡ vertex r i → Meets (W s (curve_at r s)) (S i s) (S (suc i) s)
  vertex-meets z e = record {
    first = value-straight F A i s (omega (arith, curve-ends F i h)) (at-stop F i s h (omega arith));
    second = value-straight F A (suc i) s (omega (arith, curve-ends F i h)) (at-begin F i s (omega arith) (omega arith));
  }

  -- two curves that touch
  touching_meet : suc i < vertex_count r → 0 < half_length r i → 0 < half_length r (suc i) → s ≡ vertex r i + half_length r i → s + half_length r (suc i) ≡ vertex r (suc i) → Meets (W s (curve_at r s)) (C i s) (C (suc i) s)
  touching_meet g l m e f = record {
    first = value-curve F A i s (record { place = h; long = l; low = omega arith; high = omega arith });
    second = value-curve F A (suc i) s (record { place = g; long = m; low = omega arith; high = omega arith });
  }

module _ {r : Road} (G : Guaranteed r) where
  module _ (i s : ℕ) (h : i < vertex_count r) where
    pub curve-start-height : 0 < half_length r i → s + half_length r i ≡ vertex r i → Meets (height r s) (tangent_height r i s) (curve_height r i s)
    unfolding height
    curve-start-height = start-meets G.facts_of (heights-along r) i s h

    pub curve-start-grade : 0 < half_length r i → s + half_length r i ≡ vertex r i → Meets (grade r s) (tangent_grade r i s) (curve_grade r i s)
    unfolding grade
    curve-start-grade = start-meets G.facts_of (grades_along r G.level_vertex) i s h

    pub curve-end-height : 0 < half_length r i → s ≡ vertex r i + half_length r i → Meets (height r s) (curve_height r i s) (tangent_height r (suc i) s)
    unfolding height
    curve-end-height = end-meets G.facts_of (heights-along r) i s h

    pub curve-end-grade : 0 < half_length r i → s ≡ vertex r i + half_length r i → Meets (grade r s) (curve_grade r i s) (tangent_grade r (suc i) s)
    unfolding grade
    curve-end-grade = end-meets G.facts_of (grades_along r G.level_vertex) i s h

    pub vertex-height : half_length r i ≡ 0 → s ≡ vertex r i → Meets (height r s) (tangent_height r i s) (tangent_height r (suc i) s)
    unfolding height
    vertex-height = vertex-meets G.facts_of (heights-along r) i s h

    pub vertex-grade : half_length r i ≡ 0 → s ≡ vertex r i → Meets (grade r s) (tangent_grade r i s) (tangent_grade r (suc i) s)
    unfolding grade
    vertex-grade = vertex-meets G.facts_of (grades_along r G.level_vertex) i s h

    pub touching_height : suc i < vertex_count r → 0 < half_length r i → 0 < half_length r (suc i) → s ≡ vertex r i + half_length r i → s + half_length r (suc i) ≡ vertex r (suc i) → Meets (height r s) (curve_height r i s) (curve_height r (suc i) s)
    unfolding height
    touching_height = touching_meet G.facts_of (heights-along r) i s h

    pub touching_grade : suc i < vertex_count r → 0 < half_length r i → 0 < half_length r (suc i) → s ≡ vertex r i + half_length r i → s + half_length r (suc i) ≡ vertex r (suc i) → Meets (grade r s) (curve_grade r i s) (curve_grade r (suc i) s)
    unfolding grade
    touching_grade = touching_meet G.facts_of (grades_along r G.level_vertex) i s h

  -- ---- a crossfall point, by either pair, and its own crossfall
  pub point-crossfall : (d : Side) (i s : ℕ) → suc (suc i) < length r.crossfalls → s ≡ (point_of r (suc i)).station → Meets (crossfall d r s) (crossfall_by d r i s) (crossfall_by d r (suc i) s)
  point-crossfall d i s h e =
      let F = G.facts_of in
      let a = F.ascend i (omega arith) in
      let b = F.ascend (suc i) h in
      record {
        first = crossfall-between F d i s (record { place = omega arith; low = omega arith; high = omega arith });
        second = crossfall-between F d (suc i) s (record { place = h; low = omega arith; high = omega arith });
      }

  -- ---- an element's end, by either element
  pub element-curvature : (i s : ℕ) → suc i < length r.plan → s ≡ element_start r (suc i) → Meets (curvature r s) (curvature_on r i s) (curvature_on r (suc i) s)
  element-curvature i s h e =
      let a = element-step r i in
      let b = element-step r (suc i) in
      record {
        first = curvature-on G.accepted_as i s (record { place = omega arith; low = omega arith; high = omega arith });
        second = curvature-on G.accepted_as (suc i) s (record { place = h; low = omega arith; high = omega arith });
      }
