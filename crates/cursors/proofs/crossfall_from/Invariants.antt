-- The point stays at or before x; the loop ends where the next one lies beyond it, or is the road's last.
use Rattle.std.proofs.Common.{length, ◌-◌}
use Rattle.cursors.proofs.Cursors.{AtPoint}
use Rattle.cursors.proofs.crossfall_from.Given as goal

abbrev pub invariant-loop-i : goal.invariant-loop-i
invariant-loop-i l = AtPoint l.road l.x l.i l.next

abbrev pub decreases-loop-i : goal.decreases-loop-i
decreases-loop-i l = length l.points - l.i
