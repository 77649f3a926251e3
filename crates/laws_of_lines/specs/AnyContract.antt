-- The contract picks limits alone: under any other contract a road has the same listed stations and the same rows. Assumes nothing.
use Rattle.std.specs.Prelude.{◌≡◌, pos, ◌+ℤ◌, Option, None, Some}
use Rattle.std.proofs.Math.Path.{refl, ap₂}
use Prim.Native.Nat.{ℕ, zero, suc}
use Rattle.integers.specs.Fraction.{Frac, ◌÷◌, ◌×ᶠ◌}
use Rattle.integers.specs.Rounding.{rounded}
use Rattle.road.specs.File.{Road}
use Rattle.road.specs.Limits.{limits_at, limits_of, limits}
use Rattle.road.specs.Lane.{lane_width}
use Rattle.road.specs.Exact.{element_start, tangent_start, total, element_at, tangent_at, point_at, start_height, tangent_height, in_curve, curve_at, curve_height, height_by, height, grade_by, grade, Side, left, right, crossfall_by, crossfall, edge_drop, end_curvature, clothoid_curvature, curvature_on, curvature}
use Rattle.road.specs.Line.{printed_edge, printed, line}
use Rattle.road.specs.Listed.{element_ends, curve_stations, stations, listed}
use Rattle.road.specs.declared.Contract.{Contract}

-- a road under another contract
abbrev pub with_contract : Contract → Road → Road
with_contract c r = record {
  head = record { contract = c; class = r.head.class; terrain = r.head.terrain; step = r.head.step; ramp = r.head.ramp };
  plan = r.plan;
  start = r.start;
  tangents = r.tangents;
  crossfalls = r.crossfalls;
}

module _ (c : Contract) (r : Road) where
  pub same-lane : lane_width (with_contract c r) ≡ lane_width r
  unfolding lane_width limits limits_of limits_at
  same-lane = refl

  pub same-stations : listed (with_contract c r) ≡ listed r
  unfolding listed stations element_ends curve_stations element_start tangent_start total
  same-stations = refl

  module _ (s : ℕ) where
    same-height : height (with_contract c r) s ≡ height r s
    unfolding height curve_at in_curve curve_height tangent_height start_height tangent_at tangent_start
    same-height = go (curve_at r s)
      where
        go : (o : Option ℕ) → height_by (with_contract c r) s o ≡ height_by r s o
        go (Some i) = refl
        go None = refl

    same-grade : grade (with_contract c r) s ≡ grade r s
    unfolding grade curve_at in_curve tangent_at tangent_start
    same-grade = go (curve_at r s)
      where
        go : (o : Option ℕ) → grade_by (with_contract c r) s o ≡ grade_by r s o
        go (Some i) = refl
        go None = refl

    same-crossfall : (d : Side) → crossfall d (with_contract c r) s ≡ crossfall d r s
    unfolding crossfall crossfall_by point_at
    same-crossfall d = refl

    same-clothoid : (i : ℕ) → clothoid_curvature (with_contract c r) i s ≡ clothoid_curvature r i s
    unfolding clothoid_curvature end_curvature element_start
    same-clothoid zero = refl
    same-clothoid (suc i) = refl

    same-curvature : curvature (with_contract c r) s ≡ curvature r s
    unfolding curvature curvature_on element_at element_start
    same-curvature = rw (same-clothoid (element_at r s))

    same_drop : (d : Side) → edge_drop d (with_contract c r) s ≡ edge_drop d r s
    unfolding edge_drop
    same_drop d = ap₂ (λ (x : Frac) (lane : ℕ). x ×ᶠ (pos lane ÷ 1_000_000)) (same-crossfall d) same-lane

    same-edge : (d : Side) → printed_edge d (with_contract c r) s ≡ printed_edge d r s
    unfolding printed_edge
    same-edge d = ap₂ (λ (h drop : Frac). rounded h +ℤ rounded drop) same-height (same_drop d)

    pub same_line : line (with_contract c r) s ≡ line r s
    unfolding line printed
    same_line = rw (same-height, same-grade, same-crossfall left, same-crossfall right, same-edge left, same-edge right, same-curvature)
