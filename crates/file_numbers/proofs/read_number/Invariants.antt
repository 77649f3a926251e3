-- The groups from the place on are those read so far and those that still follow: the loop ends where the file breaks off, at the last group, or after five of them.
use mathlib.Core.Path.{◌≡◌}
use Prim.Native.Nat.{◌*◌, ◌^◌, ◌<◌}
use lib.ListN.{drop}
use Rattle.file_numbers.specs.Number.{groups}
use Rattle.file_numbers.proofs.Laws.{after}
use Rattle.file_numbers.proofs.read_number.Given as goal

abbrev pub invariant-loop-count : goal.invariant-loop-count
invariant-loop-count l = record {
  below : l.value < 2 ^ (7 * l.count);
  so_far : groups l.bytes ≡ after l.count l.value (groups (drop l.count l.bytes));
}
