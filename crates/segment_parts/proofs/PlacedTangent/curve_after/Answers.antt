-- What the grade rises up to the curve fits, so the height there is exact.
use Rattle.std.proofs.Common.{◌-◌, rules, arith, w32}
use mir.Val.{SFits}
use mir.Facts.{to_z-of_z}
use Rattle.segment_parts.proofs.Widths.{above}
use Rattle.segment_parts.proofs.PlacedTangent.curve_after.Goals as goal

pub returns : goal.returns
returns c =
    let p = c.args.self.place in
    let t = c.args.self.tangent in
    let f : SFits w32 t.grade = search rules in
    let g : SFits w32 c.args.next.grade = search rules in
    rw (above p.height t.grade _ (t.length - t.half) c.args.self.sized.height c.args.self.sized.grade (omega (arith, c.args.self.sized.length)) c.rise-ahead.ensures, c.from.ensures, to_z-of_z f, to_z-of_z g) at c.curve_from.ensures
