-- One rule of the order after another; those before it are kept.
use Rattle.rules.specs.Trying.{Trying}
use Rattle.rules.proofs.judge.Given as goal

abbrev pub invariant-loop-rule : goal.invariant-loop-rule
invariant-loop-rule l = Trying l.judging.limits.now l.judging.alignment.now l.rule-index
