-- Document 01, "The blade over a whole run": demand 3 holds of every whole run.
use Rattle.std.specs.Prelude.{◌≡◌}
use Rattle.std.proofs.Common.{ap, ◌∙◌}
use Rattle.road.specs.File.{Road}
use Rattle.road.specs.Exact.{Side}
use Rattle.road.specs.Line.{printed_edge}
use Rattle.road.specs.Demand.{Row, edge_number, printed_height, BladeClose, Demand3}
use Rattle.decimal.specs.Decimal.{number_in}
use Rattle.laws_of_acceptance.specs.Positive.{accepted-road, facts}
use Rattle.laws_of_blade.specs.EdgeRead.{edge-read}
use Rattle.laws_of_blade.specs.RunRows.{RowOf, row_of}
use Rattle.laws_of_blade.specs.Between.{between}

-- what is read from a row is the printed edge of the exact road at its station
height-read : {r : Road} {a : Row} → RowOf r a → (d : Side) → printed_height d a ≡ printed_edge d r a.station
height-read {r} {a} h d = ap (number_in (edge_number d)) h.bytes ∙ edge-read d r a.station

pub demand_3 : Demand3
unfolding BladeClose
demand_3 f b calls r end e a c ma mc n d x l u =
    let ra = row_of f r end e b calls a ma in
    let rc = row_of f r end e b calls c mc in
    rw (height-read ra d, height-read rc d) (between (facts (accepted-road f r end e)) d a.station c.station x n rc.within l u)
