-- An even crossfall has its own numbers; else the exact crossfall is rounded, and the drop is from the exact one.
use mir.Syntax.{w64}
use mir.Val.{SFits}
use mir.Facts.{to_z-of_z}
use Rattle.segment.proofs.Laws.{is_zero, side-start-fits, side-change-fits, side-span-fits, even-fits, even-answer, start_fits, side_along, over-is, side_lane, side_rounds, side_answer}
use Rattle.segment.proofs.Sides.lane_at.Goals as goal

pub returns-then-side-eq0 : goal.returns-then-side-eq0
returns-then-side-eq0 c =
    let k : SFits w64 c.round_div.result = record { sfits = c.round_div.type_inv } in
    let j = side-start-fits c.requires in
    simp to_z-of_z (even-answer c.requires (is_zero (side-change-fits c.requires) c.if-side-eq0.true)
    (simp (to_z-of_z, side-start-fits c.requires, c.ranges.width, even-fits c.requires) at c.round_div.ensures))

pub overflow_mul-side-2 : goal.overflow_mul-side-2
overflow_mul-side-2 c = simp (to_z-of_z, side-start-fits c.requires, side-span-fits c.requires) (start_fits c.requires)

pub along-over-requires : goal.along-over-requires
along-over-requires c = simp (to_z-of_z, side-start-fits c.requires, side-span-fits c.requires, side-change-fits c.requires, c.ranges.distance, start_fits c.requires) (side_along c.requires)

pub round_div-requires-2 : goal.round_div-requires-2
round_div-requires-2 c =
    let i : SFits w64 c.along-over.result = record { sfits = c.along-over.type_inv } in
    simp (to_z-of_z, i, side-span-fits c.requires) (side_rounds c.requires (over-is c.requires c.ranges.distance c.along-over.ensures))

pub drop_of-requires : goal.drop_of-requires
drop_of-requires c =
    let i : SFits w64 c.along-over.result = record { sfits = c.along-over.type_inv } in
    simp (to_z-of_z, i, c.ranges.width) (side_lane c.requires (over-is c.requires c.ranges.distance c.along-over.ensures))

pub returns : goal.returns
returns c =
    let i : SFits w64 c.along-over.result = record { sfits = c.along-over.type_inv } in
    let j : SFits w64 c.round_div-2.result = record { sfits = c.round_div-2.type_inv } in
    let k : SFits w64 c.drop_of.result = record { sfits = c.drop_of.type_inv } in
    simp to_z-of_z (side_answer c.requires (over-is c.requires c.ranges.distance c.along-over.ensures)
    (simp (to_z-of_z, i, side-span-fits c.requires) at c.round_div-2.ensures)
    (simp (to_z-of_z, i, c.ranges.width) at c.drop_of.ensures))
