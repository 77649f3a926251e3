-- What a line's edge heights read back as.
use Rattle.std.specs.Prelude.{◌≡◌, ℕ}
use Rattle.std.proofs.Common.{arith}
use Rattle.decimal.specs.Decimal.{number_in}
use Rattle.decimal.specs.ReadBack.{number_in_lem}
use Rattle.road.specs.File.{Road}
use Rattle.road.specs.Exact.{Side, left, right}
use Rattle.road.specs.Line.{printed_edge, printed, line}
use Rattle.road.specs.Demand.{edge_number}

-- "its sixth and seventh numbers are its printed edge heights"
pub edge-read : (d : Side) (r : Road) (s : ℕ) → number_in (edge_number d) (line r s) ≡ printed_edge d r s
unfolding line printed
edge-read left r s = number_in_lem 5 (printed r s) (omega arith)
edge-read right r s = number_in_lem 6 (printed r s) (omega arith)
