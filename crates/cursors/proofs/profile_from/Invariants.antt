-- The tangent stays at or before x; the loop ends where the next one begins beyond it.
use Rattle.std.proofs.Common.{length, ◌-◌}
use Rattle.cursors.proofs.Cursors.{AtTangent}
use Rattle.cursors.proofs.profile_from.Given as goal

abbrev pub invariant-loop-tangent : goal.invariant-loop-tangent
invariant-loop-tangent l = AtTangent l.road l.x l.tangent l.t

abbrev pub decreases-loop-tangent : goal.decreases-loop-tangent
decreases-loop-tangent l = length l.tangents - l.tangent.index
