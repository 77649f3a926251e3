-- The exact height at a station is that of any straight part or curve that has the station.
use Rattle.std.specs.Prelude.{refl, ℕ, ◌≤◌}
use Rattle.std.proofs.Common.{arith}
use Rattle.integers.specs.Fraction.{◌≈ᶠ◌}
use Rattle.road.specs.File.{Road}
use Rattle.road.specs.Exact.{total, tangent_height, curve_height, height_by, height}
use Rattle.laws_of_acceptance.specs.Facts.{Facts}
use Rattle.laws_of_pieces.specs.Joints.{tangent-positive, curve-positive, at-vertex, at-start, at-end}
pub use Rattle.laws_of_pieces.specs.Pieces.{on-curve, in_curve_lem}
use Rattle.laws_of_pieces.specs.Pieces.{OnStraight, OnCurve, Along, value-curve, value-straight}

-- heights meet at every vertex, also where the grades do not
pub heights-along : (r : Road) → Along r (height_by r) (tangent_height r) (curve_height r)
heights-along r = record {
  curved = λ i s. refl;
  straight = λ s. refl;
  straight-positive = tangent-positive r;
  curve-positive = curve-positive r;
  at-vertex = λ i s h z e. at-vertex r i s (omega arith) e;
  at-start = λ i s h. at-start r i s;
  at-end = λ i s h. at-end r i s (omega arith);
}

module _ {r : Road} (F : Facts r) where
  pub height-curve : (i s : ℕ) → OnCurve r i s → height r s ≈ᶠ curve_height r i s
  unfolding height
  height-curve i s c = value-curve F (heights-along r) i s c

  pub height-straight : (i s : ℕ) → s ≤ total r → OnStraight r i s → height r s ≈ᶠ tangent_height r i s
  unfolding height
  height-straight i s h c = value-straight F (heights-along r) i s h c
