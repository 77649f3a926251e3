-- One rounding of the product over the span in millionths.
use mir.Syntax.{w64}
use mir.Val.{SFits}
use mir.Facts.{to_z-of_z}
use Rattle.segment.proofs.Laws.{span-fits, wide_fits, long-fits, drop_rounds, drop-answer}
use Rattle.segment.proofs.Sides.drop_of.Goals as goal

pub round_div-requires : goal.round_div-requires
round_div-requires c = simp (to_z-of_z, c.ranges.over, c.ranges.width, span-fits c.requires, wide_fits c.requires, long-fits c.requires) (drop_rounds c.requires)

pub returns : goal.returns
returns c =
    let k : SFits w64 c.round_div.result = record { sfits = c.round_div.type_inv } in
    simp to_z-of_z (drop-answer c.requires (simp (to_z-of_z, c.ranges.over, c.ranges.width, span-fits c.requires, wide_fits c.requires, long-fits c.requires) at c.round_div.ensures))
