use Rattle.std.proofs.Common.{Some}
use Rattle.walk.proofs.ToCome.{to_come}
use Rattle.list_output.specs.Parts.{lines_from, Until}
use Rattle.list_output.proofs.print_rows.Given as goal

abbrev pub invariant-loop-next : goal.invariant-loop-next
invariant-loop-next g l = Until (lines_from l.road (Some 0)) (lines_from l.road l.next) (g.W.Write.contents l.initial.output) (g.W.Write.contents l.output)

abbrev pub decreases-loop-next : goal.decreases-loop-next
decreases-loop-next g l = to_come l.next
