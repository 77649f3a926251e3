-- Document 01, "One list, whole": the line of a station.
use Rattle.std.specs.Prelude.{ℕ, List, [], ◌∷◌, ℤ, pos, ◌+ℤ◌}
use Rattle.road.specs.File.{Road}
use Rattle.integers.specs.Rounding.{rounded}
use Rattle.decimal.specs.Decimal.{spaced}
use Rattle.road.specs.Exact.{Side, left, right, height, grade, crossfall, edge_drop, curvature}

-- "the printed edge is the rounded height plus the rounded drop"
unfoldable pub printed_edge : Side → Road → ℕ → ℤ
printed_edge d r s = rounded (height r s) +ℤ rounded (edge_drop d r s)

-- "station, axis height, grade, left and right crossfall, left and right edge height, curvature"
unfoldable pub printed : Road → ℕ → List ℤ
printed r s =
    pos s
    ∷ rounded (height r s)
    ∷ rounded (grade r s)
    ∷ rounded (crossfall left r s)
    ∷ rounded (crossfall right r s)
    ∷ printed_edge left r s
    ∷ printed_edge right r s
    ∷ rounded (curvature r s)
    ∷ []

unfoldable pub line : Road → ℕ → List ℕ
line r s = spaced (printed r s)
