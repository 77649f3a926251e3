-- On a tangent one rounding, in a curve the curve's function.
use Rattle.std.proofs.Common.{subst, sym, ℤ, ◌+◌, ◌*◌, ◌<◌, nat_abs}
use mir.Syntax.{w64}
use mir.Val.{SFits}
use mir.Facts.{to_z-of_z}
use Rattle.segment.proofs.Fields as f
use Rattle.segment.proofs.OnSegment.height.Goals as goal

pub along-line-requires : goal.along-line-requires
along-line-requires c =
    let p = c.args.self.sound in
    let s = c.args.self.segment.now in
    let j : SFits w64 c.distance-u.result = record { sfits = c.distance-u.type_inv } in
    simp (to_z-of_z, f.height-fits p, f.grade-fits p, j)
    (subst (λ (u : ℤ). nat_abs s.piece.height + nat_abs s.piece.grade * nat_abs u < 9223372036854775808) (sym (f.from-is p c.distance-u.ensures)) (f.height-line p))

pub curve_height-requires : goal.curve_height-requires
curve_height-requires c =
    let p = c.args.self.sound in
    let i : SFits w64 c.along-line.result = record { sfits = c.along-line.type_inv } in
    let j : SFits w64 c.distance-u.result = record { sfits = c.distance-u.type_inv } in
    let u = f.from-is p c.distance-u.ensures in
    simp (to_z-of_z, i, j) (f.height-curve p u (f.line-is p j u c.along-line.ensures) c.if-piece-eq0.false)

pub returns-then-piece-eq0 : goal.returns-then-piece-eq0
returns-then-piece-eq0 c =
    let p = c.args.self.sound in
    let i : SFits w64 c.along-line.result = record { sfits = c.along-line.type_inv } in
    let j : SFits w64 c.distance-u.result = record { sfits = c.distance-u.type_inv } in
    let k : SFits w64 c.round_div.result = record { sfits = c.round_div.type_inv } in
    simp to_z-of_z (f.height-straight p (f.line-is p j (f.from-is p c.distance-u.ensures) c.along-line.ensures) c.if-piece-eq0.true (simp (to_z-of_z, i) at c.round_div.ensures))

pub returns-else-piece-eq0 : goal.returns-else-piece-eq0
returns-else-piece-eq0 c =
    let p = c.args.self.sound in
    let i : SFits w64 c.along-line.result = record { sfits = c.along-line.type_inv } in
    let j : SFits w64 c.distance-u.result = record { sfits = c.distance-u.type_inv } in
    let k : SFits w64 c.curve_height.result = record { sfits = c.curve_height.type_inv } in
    let u = f.from-is p c.distance-u.ensures in
    simp to_z-of_z (f.height-curved p u (f.line-is p j u c.along-line.ensures) c.if-piece-eq0.false (simp (to_z-of_z, i, j) at c.curve_height.ensures))
