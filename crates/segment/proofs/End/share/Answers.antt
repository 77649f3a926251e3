-- One rounding of the end's turn by the distance, over its radius and the length.
use mir.Syntax.{w64}
use mir.Val.{SFits}
use mir.Facts.{to_z-of_z}
use Rattle.segment.proofs.Ends.{turn-fits, radius-fits, over-fits, under-fits, share_rounds, share_answer}
use Rattle.segment.proofs.End.share.Goals as goal

pub round_div-requires : goal.round_div-requires
round_div-requires c =
    simp (to_z-of_z, turn-fits c.requires.end-size, radius-fits c.requires.end-size, c.ranges.length, c.ranges.distance, over-fits c.requires, under-fits c.requires) (share_rounds c.requires)

pub returns : goal.returns
returns c =
    let k : SFits w64 c.round_div.result = record { sfits = c.round_div.type_inv } in
    simp to_z-of_z (share_answer c.requires (simp (to_z-of_z, turn-fits c.requires.end-size, radius-fits c.requires.end-size, c.ranges.length, c.ranges.distance, over-fits c.requires, under-fits c.requires) at c.round_div.ensures))
