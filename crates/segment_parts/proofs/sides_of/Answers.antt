-- Differences of numbers of 32 bits fit 64.
use Rattle.std.proofs.Common.{◌≡◌, ◌-ℤ◌, rules, arith, pos, w32, w64, to_z, of_z}
use mir.Val.{SFits}
use mir.Facts.{to_z-of_z}
use Rattle.std.proofs.lemmas.Int.{ints}
use Rattle.segment_parts.specs.Sides.{ramp_of}
use Rattle.segment_parts.proofs.sides_of.Goals as goal

pub returns : goal.returns
returns c =
    let f1 : SFits w32 c.args.c.left = search rules in
    let f2 : SFits w32 c.args.c.right = search rules in
    let f3 : SFits w32 c.args.d.left = search rules in
    let f4 : SFits w32 c.args.d.right = search rules in
    let a : to_z w64 (of_z w64 c.from.result) ≡ pos c.args.c.station = omega (arith, ints) in
    let b : to_z w64 (of_z w64 (to_z w64 (of_z w64 c.from-2.result) -ℤ to_z w64 (of_z w64 c.from-3.result))) ≡ pos c.args.d.station -ℤ pos c.args.c.station = omega (arith, ints) in
    let l : c.ramp_of.result ≡ ramp_of c.args.c.left c.args.d.left = simp to_z-of_z at c.ramp_of.ensures in
    let r : c.ramp_of-2.result ≡ ramp_of c.args.c.right c.args.d.right = simp to_z-of_z at c.ramp_of-2.ensures in
    cc
