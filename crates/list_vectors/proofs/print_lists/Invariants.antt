use Rattle.std.proofs.Common.{length}
use Rattle.list_vectors.proofs.print_lists.Given as goal

abbrev pub decreases-loop-rest : goal.decreases-loop-rest
decreases-loop-rest g l = length l.rest
