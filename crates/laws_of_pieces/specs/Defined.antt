-- Every exact value of an accepted road has a denominator above 0.
use Rattle.std.specs.Prelude.{◌≡◌, ℕ, ◌<◌, Option, None, Some}
use Rattle.std.proofs.Math.Path.{refl}
use native.Mathlib.Omega.{arith}
use Rattle.road.specs.File.{Road}
use Rattle.road.specs.Exact.{element_at, curve_at, height_by, height, grade_by, grade, Side, crossfall, edge_drop, curvature, tangent_at}
use Rattle.laws_of_acceptance.specs.Positive.{Accepted, crossfall-positive}
use Rattle.integers.specs.Values.{positive-mul}
use Rattle.laws_of_acceptance.specs.Facts.{element-begun}
use Rattle.laws_of_pieces.specs.Joints.{tangent-positive, curve-positive}
use Rattle.laws_of_pieces.specs.Pieces.{curve-found}
use Rattle.laws_of_pieces.specs.Curvatures.{element-positive}

module _ {r : Road} (A : Accepted r) where
  pub curvature-positive : (s : ℕ) → 0 < (curvature r s).den
  unfolding curvature
  curvature-positive s = element-positive A (element_at r s) s (element-begun r s A.ranges.plan.count.low).below

  pub height-positive : (s : ℕ) → 0 < (height r s).den
  unfolding height
  height-positive s = go (curve_at r s) refl
    where
      go : (o : Option ℕ) → curve_at r s ≡ o → 0 < (height_by r s o).den
      go (Some i) e = curve-positive r i s (curve-found r s i e).long
      go None e = tangent-positive r (tangent_at r s) s

  pub grade-positive : (s : ℕ) → 0 < (grade r s).den
  unfolding grade
  grade-positive s = go (curve_at r s) refl
    where
      go : (o : Option ℕ) → curve_at r s ≡ o → 0 < (grade_by r s o).den
      go (Some i) e = let l = (curve-found r s i e).long in omega arith
      go None e = omega arith

  pub drop-positive : (d : Side) (s : ℕ) → 0 < (edge_drop d r s).den
  unfolding edge_drop
  drop-positive d s = positive-mul (crossfall d r s).den 1000000 (crossfall-positive A d s) (omega arith)
