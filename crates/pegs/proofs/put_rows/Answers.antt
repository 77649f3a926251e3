-- Where the joint is passed, the view is made anew; so it is the peg's own, and its row is written.
use Rattle.std.proofs.Common.{arith}
use Rattle.decimal.specs.Written.{wrote-part}
use Rattle.cursors.specs.View.{Viewed, viewed-shows}
use Rattle.stationing.specs.Routines.{overwritten}
use Rattle.peg_list.specs.Pegs.{peg_at}
use Rattle.pegs.proofs.Writing.{writing_starts, writing_more, writing_done}
use Rattle.pegs.proofs.put_rows.Goals as goal
use Rattle.pegs.proofs.put_rows.Goals.{then-view-station, else-view-station}

pub view_at-view-requires-clause-reached : goal.view_at-view-requires-clause-reached
view_at-view-requires-clause-reached c = c.start.ensures 0

pub loop-station-init : goal.loop-station-init
loop-station-init c = writing_starts c.args.stations.now c.args.out.now c.view_at-view.ensures

pub returns : goal.returns
returns c = let w = overwritten (writing_done c.loop-station.invariant c.loop-station-test.false) in record { value = w.0; out_after = w.1 }

pub at-requires : goal.at-requires
at-requires c =
    let viewed : Viewed c.args.road.now c.if-view-station.view (peg_at c.args.stations.now c.loop-station.station-index) =
    elim c.if-view-station.branch [
      | then-view-station w ↦ rw w.view-is w.view_at-view-then-view-station.ensures
      | else-view-station w ↦ rw w.view-is ((c.loop-station.invariant.serves c.loop-station-test.true).seen w.if-view-station.false)
    ] in
    (viewed-shows viewed (c.requires.good.within c.loop-station.station-index c.loop-station-test.true)).sound

pub loop-station-preserved : goal.loop-station-preserved
loop-station-preserved c =
    let viewed : Viewed c.args.road.now c.if-view-station.view (peg_at c.args.stations.now c.loop-station.station-index) =
    elim c.if-view-station.branch [
      | then-view-station w ↦ rw w.view-is w.view_at-view-then-view-station.ensures
      | else-view-station w ↦ rw w.view-is ((c.loop-station.invariant.serves c.loop-station-test.true).seen w.if-view-station.false)
    ] in
    writing_more c.loop-station.invariant c.requires.room c.requires.good c.loop-station-test.true viewed (wrote-part (omega arith) (rw (c.at.ensures.segment, c.at.ensures.station) at c.put_line-bytes.ensures.wrote)) (omega (arith, c.put_line-bytes.ensures.most))
