-- What the grade before rises on the half length fits, so the height back there is exact.
use Rattle.std.proofs.Common.{rules, arith, w32}
use mir.Val.{SFits}
use mir.Facts.{to_z-of_z}
use Rattle.segment_parts.proofs.Widths.{below}
use Rattle.segment_parts.proofs.PlacedTangent.curve_before.Goals as goal

pub returns : goal.returns
returns c =
    let p = c.args.self.place in
    let f : SFits w32 p.grade_before = search rules in
    let g : SFits w32 c.args.self.tangent.grade = search rules in
    rw (below p.height p.grade_before _ p.half_before c.args.self.sized.height c.args.self.sized.grade-before (omega (arith, c.args.self.sized.half-before)) c.rise-back.ensures, c.from.ensures, to_z-of_z f, to_z-of_z g) at c.curve_from.ensures
