-- A point of the lane between the axis and an edge: its exact height, its printed height, and the straight line between two printed heights.
use Rattle.std.specs.Prelude.{ℕ, ◌-◌, pos}
use Rattle.integers.specs.Fraction.{Frac, ◌÷◌, whole, ◌+ᶠ◌, ◌-ᶠ◌, ◌×ᶠ◌}
use Rattle.integers.specs.Rounding.{rounded}
use Rattle.road.specs.File.{Road}
use Rattle.road.specs.Exact.{Side, height, edge_drop, from◌to◌}

-- k / m of the way from the axis to the edge: the exact height plus that part of the exact drop
unfoldable pub surface : (k m : ℕ) → Side → Road → ℕ → Frac
surface k m d r s = height r s +ᶠ edge_drop d r s ×ᶠ (pos k ÷ m)

-- the rounded height plus that part of the rounded drop
unfoldable pub printed_surface : (k m : ℕ) → Side → Road → ℕ → Frac
printed_surface k m d r s = whole (rounded (height r s)) +ᶠ whole (rounded (edge_drop d r s)) ×ᶠ (pos k ÷ m)

-- p + (q − p) × (x − a) / (b − a)
unfoldable pub straight : (p q : Frac) (a b x : ℕ) → Frac
straight p q a b x = p +ᶠ (q -ᶠ p) ×ᶠ ((from a to x) ÷ (b - a))
