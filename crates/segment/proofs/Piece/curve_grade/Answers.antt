-- One rounding over the length of the curve.
use mathlib.Core.Path.{◌≡◌}
use lib.IntN.{pos, ◌+ℤ◌, ◌*ℤ◌}
use mir.Syntax.{w64}
use mir.Val.{SFits}
use mir.Facts.{to_z-of_z}
use Rattle.segment.proofs.Laws.{first-fits, change-fits, half-fits, double_fits, first_fits, grade-along, grade_rounds, grade-answer}
use Rattle.segment.proofs.Piece.curve_grade.Goals as goal

pub along-requires : goal.along-requires
along-requires c = simp (to_z-of_z, first-fits c.requires, half-fits c.requires, change-fits c.requires, c.ranges.u, double_fits c.requires, first_fits c.requires) (grade-along c.requires)

module _ (c : goal.After-along) where
  over-fits : SFits w64 c.along.result
  over-fits = record { sfits = c.along.type_inv }

  over-is : c.along.result ≡ c.args.self.now.grade *ℤ (pos 2 *ℤ c.args.self.now.half) +ℤ c.args.self.now.change *ℤ c.args.u
  over-is = simp (to_z-of_z, first-fits c.requires, half-fits c.requires, change-fits c.requires, c.ranges.u, double_fits c.requires, first_fits c.requires) at c.along.ensures

pub round_div-requires : goal.round_div-requires
round_div-requires c = simp (to_z-of_z, over-fits c, half-fits c.requires, double_fits c.requires) (grade_rounds c.requires (over-is c))

pub returns : goal.returns
returns c = let b = c.before in let k : SFits w64 c.round_div.result = record { sfits = c.round_div.type_inv } in
    simp to_z-of_z (grade-answer c.requires (over-is b) (simp (to_z-of_z, over-fits b, half-fits c.requires, double_fits c.requires) at c.round_div.ensures))
