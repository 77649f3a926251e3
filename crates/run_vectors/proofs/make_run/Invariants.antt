use Rattle.std.proofs.Common.{◌≤◌, length}
use Rattle.run_vectors.proofs.make_run.Given as goal

abbrev pub invariant-loop : goal.invariant-loop
invariant-loop g l = length l.calls ≤ length l.run.calls.now
