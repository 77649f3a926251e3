-- Below zero the opposite is rounded, and its opposite is the answer; both fit because the sizes are small.
use Rattle.std.specs.Prelude.{◌≡◌, pos, ◌-ℤ◌, nat_abs, ◌<ℤ◌}
use Rattle.std.proofs.Common.{arith}
use Rattle.std.specs.Int.{w64}
use mir.Val.{SFits}
use mir.Facts.{to_z-of_z}
use Rattle.integers.specs.Bridge.{int, nat, lt!, lt?}
use Rattle.integers.specs.Rounding.{round}
use Rattle.integers.specs.Width.{lt_taken, lt_left, above_zero, opposite-fits, round-above, round-below}
use Rattle.integers.proofs.WidthLaws.{round-fits}
use Rattle.integers.proofs.round_div.Goals as goal
use Rattle.integers.proofs.round_div.Goals.{After-nearest_size}

module _ (c : After-nearest_size) where
  below-zero : c.args.n <ℤ pos 0
  below-zero = lt! (int c.args.n) (nat 0) (omega (arith, lt? (int c.args.n) (int _) (lt_taken (simp (to_z-of_z, c.ranges.n) at c.if-n-lt0.true))))

  size_fits : SFits w64 c.nearest_size.result
  size_fits = record { sfits = c.nearest_size.type_inv }

  below : pos 0 -ℤ c.nearest_size.result ≡ round c.args.n (nat_abs c.args.d)
  below = round-below c.args.n (nat_abs c.args.d) below-zero (simp (to_z-of_z, c.ranges.n, c.ranges.d, opposite-fits c.requires) at c.nearest_size.ensures)

  below-fits : SFits w64 (pos 0 -ℤ c.nearest_size.result)
  below-fits = rw below (round-fits c.ranges.n (nat_abs c.args.d) (above_zero c.args.d c.requires.above))

pub returns-then-n-lt0 : goal.returns-then-n-lt0
returns-then-n-lt0 c = simp (to_z-of_z, size_fits c, below-fits c) (below c)

pub returns-else-n-lt0 : goal.returns-else-n-lt0
returns-else-n-lt0 c =
    let k : SFits w64 c.nearest_size-else-n-lt0.result = record { sfits = c.nearest_size-else-n-lt0.type_inv } in
    simp to_z-of_z (round-above c.args.n (nat_abs c.args.d) (lt_left (simp (to_z-of_z, c.ranges.n) at c.if-n-lt0.false)) (simp (to_z-of_z, c.ranges.n, c.ranges.d) at c.nearest_size-else-n-lt0.ensures))
