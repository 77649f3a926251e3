use Rattle.std.proofs.Common.{◌≡◌}
use Rattle.many_calls.specs.Between.{turned_often}
use Rattle.many_calls.proofs.sum_of.Given as goal

abbrev pub invariant-loop-i : goal.invariant-loop-i
invariant-loop-i g l = goal.F-IsAlwaysCallable g l.call × (l.file ≡ turned_often l.i l.initial.file)
