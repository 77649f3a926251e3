-- The element stays at or before x; the loop ends where the next one begins beyond it.
use Rattle.std.proofs.Common.{length, ◌-◌}
use Rattle.cursors.proofs.Cursors.{AtElement}
use Rattle.cursors.proofs.element_from.Given as goal

abbrev pub invariant-loop-i : goal.invariant-loop-i
invariant-loop-i l = AtElement l.road l.x l.i l.begin l.e

abbrev pub decreases-loop-i : goal.decreases-loop-i
decreases-loop-i l = length l.elements - l.i
