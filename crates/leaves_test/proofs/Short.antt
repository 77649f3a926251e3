-- A number of 64 bits has at most 20 bytes.
use Rattle.std.specs.Prelude.{ℕ, ◌<◌, length, ℤ}
use Rattle.std.proofs.Common.{arith}
use Rattle.std.specs.Int.{w64}
use mir.Val.{SFits}
use Rattle.integers.specs.Width.{abs64}
use Rattle.decimal.specs.Decimal.{digits, decimal}
use Rattle.decimal.specs.Length.{digits-length, decimal-length}

pub signed-short : (v : ℤ) → SFits w64 v → length (decimal v) < 32
signed-short v f = omega (arith, decimal-length 18 v (omega (arith, abs64 f)))

pub size-short : (n : ℕ) → n < 18446744073709551616 → length (digits n) < 32
size-short n h = omega (arith, digits-length 19 n (omega arith))

pub ruleset short = (signed-short, size-short)
