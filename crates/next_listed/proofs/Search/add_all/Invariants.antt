-- The stations so far.
use Rattle.std.proofs.Common.{◌≡◌}
use Rattle.next_listed.specs.Search.{after}
use Rattle.next_listed.proofs.Search.add_all.Given as goal

abbrev pub invariant-loop-station : goal.invariant-loop-station
invariant-loop-station g l = l.self ≡ after l.yielded l.initial.self
