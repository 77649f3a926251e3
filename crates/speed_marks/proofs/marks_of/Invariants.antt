-- The set has the marks of the speeds so far.
use Rattle.std.specs.Prelude.{◌≡◌, map, take}
use Rattle.speed_marks.specs.Marks.{tried_speeds, stands, set_of}
use Rattle.speed_marks.proofs.marks_of.Given as goal

abbrev pub invariant-loop-bit : goal.invariant-loop-bit
invariant-loop-bit l = l.set ≡ set_of (take l.bit (map (stands l.a) tried_speeds))
