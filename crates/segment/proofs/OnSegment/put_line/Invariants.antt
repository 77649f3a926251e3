-- The numbers so far, each with a space behind it.
use Rattle.std.proofs.Common.{take}
use Rattle.decimal.specs.Written.{Wrote}
use Rattle.segment.specs.Line.{fields}
use Rattle.segment.proofs.OnSegment.put_line.Given as goal

abbrev pub invariant-loop-v : goal.invariant-loop-v
invariant-loop-v l = Wrote l.fn.out l.out 0 (fields (take l.v-index l.v-items)) l.end
