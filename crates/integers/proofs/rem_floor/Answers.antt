-- The machine's remainder, raised by the divisor where it is below zero; both fit because the divisor does.
use mathlib.Core.Path.{◌≡◌}
use lib.IntN.{pos, nat_abs, ◌+ℤ◌}
use lib.Signed.{rem_z}
use mir.Syntax.{w64}
use mir.Val.{SFits}
use mir.Facts.{to_z-of_z}
use Rattle.integers.specs.Rounding.{remainder}
use Rattle.integers.specs.Width.{rem_fits}
use Rattle.integers.proofs.WidthLaws.{remainder-fits, machine_remainder}
use Rattle.integers.proofs.rem_floor.Goals as goal

module _ (c : goal.Then-m-lt0) where
  low : rem_z c.args.n c.args.d +ℤ c.args.d ≡ pos (remainder c.args.n (nat_abs c.args.d))
  low = let f = c.ranges.n in let g = c.ranges.d in let r = rem_fits f c.args.d in
      machine_remainder c.args.n c.args.d c.requires (simp to_z-of_z at c.if-m-lt0.true)

  low_fits : SFits w64 (rem_z c.args.n c.args.d +ℤ c.args.d)
  low_fits = rw low (remainder-fits c.args.n c.args.d c.ranges.d c.requires)

pub returns-then-m-lt0 : goal.returns-then-m-lt0
returns-then-m-lt0 c = let f = c.ranges.n in let g = c.ranges.d in let r = rem_fits f c.args.d in let l = low_fits c in
    simp to_z-of_z (low c)

pub returns-else-m-lt0 : goal.returns-else-m-lt0
returns-else-m-lt0 c = let f = c.ranges.n in let g = c.ranges.d in let r = rem_fits f c.args.d in
    simp to_z-of_z (machine_remainder c.args.n c.args.d c.requires (simp to_z-of_z at c.if-m-lt0.false))
