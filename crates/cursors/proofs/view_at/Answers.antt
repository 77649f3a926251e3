-- The parts are those of the place found; Views says what their segment shows.
use Rattle.std.proofs.Common.{arith}
use Rattle.cursors.proofs.Views.{viewed_by}
use Rattle.cursors.proofs.view_at.Goals as goal

pub joint_of-requires : goal.joint_of-requires
joint_of-requires c = let w = c.lane-lane.ensures.guaranteed.whole.high in omega arith

pub segment_of-requires : goal.segment_of-requires
segment_of-requires c =
    let e = c.moved-place.ensures.element in
    omega (arith, e.placed.begin, e.at.from, c.requires.on_road, c.lane-lane.ensures.guaranteed.whole.high)

pub returns : goal.returns
returns c =
    let m = c.moved-place in
    let lane = c.lane-lane.ensures in
    viewed_by lane.guaranteed m.result c.args.x m.ensures c.requires.on_road c.joint_of.ensures c.segment_of.ensures lane.lane
