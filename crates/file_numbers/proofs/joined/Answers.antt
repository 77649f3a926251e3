use Prim.Native.Nat.{◌*◌}
use native.Mathlib.Omega.{arith}
use Rattle.file_numbers.proofs.Laws.{joined_is}
use Rattle.file_numbers.proofs.joined.Goals as goal

pub returns : goal.returns
returns c = joined_is 7 (7 * c.args.count) 64 c.args.value c.args.g c.requires.1 c.requires.2 (omega arith)
