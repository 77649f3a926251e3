-- The pegs so far are good.
use Rattle.peg_list.specs.Search.{Passed}
use Rattle.peg_list.proofs.first_bad.Given as goal

abbrev pub invariant-loop-i : goal.invariant-loop-i
invariant-loop-i l = Passed l.whole l.stations l.i l.before
