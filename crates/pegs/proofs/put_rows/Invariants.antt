-- The rows of the pegs so far are written, and the view serves the next one.
use Rattle.pegs.proofs.Writing.{Writing}
use Rattle.pegs.proofs.put_rows.Given as goal

abbrev pub invariant-loop-station : goal.invariant-loop-station
invariant-loop-station l = Writing l.road l.stations l.initial.out l.out l.view l.bytes l.station-index
