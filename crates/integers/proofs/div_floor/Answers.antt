-- A signed local is read back from its bits, `to_z w (of_z w x)`, which is x where x fits: `simp to_z-of_z`, with the facts that they fit in scope.
use mathlib.Core.Path.{◌≡◌}
use lib.IntN.{pos, nat_abs, ◌-ℤ◌}
use lib.Signed.{quot_z}
use mir.Syntax.{w64}
use mir.Val.{SFits}
use mir.Facts.{to_z-of_z}
use Rattle.integers.specs.Rounding.{floor}
use Rattle.integers.specs.Width.{quot_fits, rem_fits}
use Rattle.integers.proofs.WidthLaws.{floor-fits, machine_floor}
use Rattle.integers.proofs.div_floor.Goals as goal

module _ (c : goal.Then-n-d-lt0) where
  low : quot_z c.args.n c.args.d -ℤ pos 1 ≡ floor c.args.n (nat_abs c.args.d)
  low = let f = c.ranges.n in let g = c.ranges.d in let r = rem_fits f c.args.d in
      machine_floor c.args.n c.args.d c.requires (simp to_z-of_z at c.if-n-d-lt0.true)

  low_fits : SFits w64 (quot_z c.args.n c.args.d -ℤ pos 1)
  low_fits = rw low (floor-fits c.ranges.n (nat_abs c.args.d))

pub returns-then-n-d-lt0 : goal.returns-then-n-d-lt0
returns-then-n-d-lt0 c = let f = c.ranges.n in let g = c.ranges.d in let h = quot_fits f c.requires in let l = low_fits c in
    simp to_z-of_z (low c)

pub returns-else-n-d-lt0 : goal.returns-else-n-d-lt0
returns-else-n-d-lt0 c = let f = c.ranges.n in let g = c.ranges.d in let h = quot_fits f c.requires in let r = rem_fits f c.args.d in
    simp to_z-of_z (machine_floor c.args.n c.args.d c.requires (simp to_z-of_z at c.if-n-d-lt0.false))
