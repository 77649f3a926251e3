-- The invariant is `ProgressByRoutine`, whose laws hold of lists alone.
use Rattle.runs.proofs.Progress.{ProgressByRoutine}
use Rattle.runs.proofs.run_sized.Given as goal

abbrev pub invariant-loop-k : goal.invariant-loop-k
invariant-loop-k l = ProgressByRoutine l.file l.initial.line l.calls l.k l.line l.answers l.frames
