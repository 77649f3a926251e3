-- Element i with the points j and j + 1; each turn passes on to the next pair of points or to the next element.
use Rattle.std.specs.Prelude.{◌+◌, ◌-◌, ◌≤◌, length}
use Rattle.rules.specs.Passing.{Passing}
use Rattle.rules.proofs.Judging.first_arc.Given as goal

abbrev pub invariant-loop-i : goal.invariant-loop-i
invariant-loop-i l = (l.j ≤ length l.points) × Passing l.self.limits.now l.self.alignment.now l.i l.j l.low

abbrev pub decreases-loop-i : goal.decreases-loop-i
decreases-loop-i l = length l.elements - l.i + (length l.points - l.j)
