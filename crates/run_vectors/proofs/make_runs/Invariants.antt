use Rattle.std.proofs.Common.{length}
use Rattle.run_vectors.proofs.make_runs.Given as goal

abbrev pub decreases-loop-rest : goal.decreases-loop-rest
decreases-loop-rest g l = length l.rest
