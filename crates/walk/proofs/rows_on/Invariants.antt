-- Both loops keep `Walking`; the inner one begins in a segment, and ends at its joint.
use Rattle.std.proofs.Common.{length, ◌+◌, ◌-◌, ◌≤◌, ◌<◌}
use Rattle.road.specs.Exact.{total}
use Rattle.walk.specs.FittingRows.{chunk}
use Rattle.walk.proofs.Going.{Walking}
use Rattle.walk.proofs.rows_on.Given as goal

abbrev pub invariant-loop-walk-2 : goal.invariant-loop-walk-2
invariant-loop-walk-2 l = record {
  walking : Walking l.road (chunk l.road l.first (length l.fn.out)) l.fn.out l.out l.walk l.bytes;
  ahead : l.initial.walk.station < l.walk.view.joint;
}

abbrev pub decreases-loop-walk-2 : goal.decreases-loop-walk-2
decreases-loop-walk-2 l = l.walk.view.joint - l.walk.station

abbrev pub invariant-loop-walk : goal.invariant-loop-walk
invariant-loop-walk l = record {
  walking : Walking l.road (chunk l.road l.first (length l.fn.out)) l.fn.out l.out l.walk l.bytes;
  inside : l.walk.station ≤ total l.road → l.walk.station < l.walk.view.joint;
}

abbrev pub decreases-loop-walk : goal.decreases-loop-walk
decreases-loop-walk l = total l.road + 1 - l.walk.station
