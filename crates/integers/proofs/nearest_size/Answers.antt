-- The definition, word for word; the doubles fit 64 bits by what is asked of the sizes.
use Rattle.std.specs.Prelude.{pos, ◌*ℤ◌}
use Rattle.std.specs.Int.{w64}
use mir.Val.{SFits}
use mir.Facts.{to_z-of_z}
use Rattle.integers.specs.Width.{double_fits, raised_fits, size-rounded}
use Rattle.integers.proofs.nearest_size.Goals as goal

pub returns : goal.returns
returns c =
    let h = c.requires.doubles in
    let n : SFits w64 (pos 2 *ℤ c.args.n) = double_fits c.args.n h.dividend in
    let d : SFits w64 (pos 2 *ℤ c.args.d) = double_fits c.args.d h.divisor in
    let k : SFits w64 c.div_floor.result = record { sfits = c.div_floor.type_inv } in
    simp to_z-of_z (size-rounded c.requires.not_negative h.above (simp (to_z-of_z, c.ranges.n, c.ranges.d, n, d, raised_fits h c.args.d h.divisor) at c.div_floor.ensures))
