-- The size that the sizes give has the turn's sign again.
use Rattle.std.proofs.Common.{◌≡◌, ◌<◌, pos, nat_abs, ◌<ℤ◌, arith}
use mir.Syntax.{w64}
use mir.Facts.{to_z-of_z, to_z_pos}
use Rattle.integers.specs.Bridge.{int, nat, lt!, lt?}
use Rattle.integers.specs.Width.{lt_taken, lt_left}
use Rattle.segment.proofs.Ends.{turn-fits}
use Rattle.segment.proofs.Signs.{opposite-fits}
use Rattle.segment.proofs.Eggs.{to_left, to_right}
use Rattle.segment.proofs.Curvature.egg.Goals as goal

pub returns-then-self-lt0 : goal.returns-then-self-lt0
returns-then-self-lt0 c =
    let p = c.requires in
    let turn = c.args.self.now.start.turn in
    let d : c.unsigned_abs.result ≡ nat_abs c.args.past = simp (to_z-of_z, c.ranges.past) at c.unsigned_abs.ensures.value in
    let low : c.egg_size-size.result < 9223372036854775808 = omega (arith, c.egg_size-size.ensures.most) in
    let left = opposite-fits (pos c.egg_size-size.result) c.egg_size-size.ensures.most in
    let below : turn <ℤ pos 0
    = lt! (int turn) (nat 0) (omega (arith, lt? (int turn) (int _) (lt_taken (simp (to_z-of_z, turn-fits p.start-size) at c.if-self-lt0.true)))) in
    simp (to_z-of_z, to_z_pos w64 low, left) (to_left p (rw d at c.egg_size-size.ensures.value) below)

pub returns-else-self-lt0 : goal.returns-else-self-lt0
returns-else-self-lt0 c =
    let p = c.requires in
    let d : c.unsigned_abs.result ≡ nat_abs c.args.past = simp (to_z-of_z, c.ranges.past) at c.unsigned_abs.ensures.value in
    let low : c.egg_size-size.result < 9223372036854775808 = omega (arith, c.egg_size-size.ensures.most) in
    simp (to_z_pos w64 low) (to_right p (rw d at c.egg_size-size.ensures.value) (lt_left (simp (to_z-of_z, turn-fits p.start-size) at c.if-self-lt0.false)))
