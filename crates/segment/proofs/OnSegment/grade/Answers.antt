-- On a tangent its own, in a curve the curve's function.
use mir.Syntax.{w64}
use mir.Val.{SFits}
use mir.Facts.{to_z-of_z}
use Rattle.segment.proofs.Fields as f
use Rattle.segment.proofs.OnSegment.grade.Goals as goal

pub curve_grade-requires : goal.curve_grade-requires
curve_grade-requires c =
    let p = c.args.self.sound in
    let j : SFits w64 c.distance.result = record { sfits = c.distance.type_inv } in
    simp (to_z-of_z, j) (f.grade-curve p (f.from-is p c.distance.ensures) c.if-piece-eq0.false)

pub returns-then-piece-eq0 : goal.returns-then-piece-eq0
returns-then-piece-eq0 c = let p = c.args.self.sound in simp (to_z-of_z, f.grade-fits p) (f.grade-straight p c.if-piece-eq0.true)

pub returns-else-piece-eq0 : goal.returns-else-piece-eq0
returns-else-piece-eq0 c =
    let p = c.args.self.sound in
    let j : SFits w64 c.distance.result = record { sfits = c.distance.type_inv } in
    let k : SFits w64 c.curve_grade.result = record { sfits = c.curve_grade.type_inv } in
    simp to_z-of_z (f.grade-curved p (f.from-is p c.distance.ensures) c.if-piece-eq0.false (simp (to_z-of_z, j) at c.curve_grade.ensures))
