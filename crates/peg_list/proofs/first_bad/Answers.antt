-- A peg that fails a test is the first bad one; one that passes all is good.
use Rattle.peg_list.specs.Search.{passed_more, found_fall, found_many, found_past}
use Rattle.peg_list.proofs.first_bad.Goals as goal
use Rattle.peg_list.proofs.first_bad.Goals.{then-station-before-via-then-station-before, then-station-before-via-else-station-before+then-i-ge-PEG_COUNT, then-station-before-via-else-station-before+else-i-ge-PEG_COUNT+then-whole-station}

pub returns-then-station-before : goal.returns-then-station-before
returns-then-station-before c =
    let v = c.loop-i in
    elim c.then-station-before.branch [
      | then-station-before-via-then-station-before w ↦ found_fall _ _ v.i v.before v.invariant c.loop-i-test.true w.if-station-before.true
      | then-station-before-via-else-station-before+then-i-ge-PEG_COUNT w ↦ found_many _ _ v.i v.before v.invariant c.loop-i-test.true w.if-i-ge-PEG_COUNT.true
      | then-station-before-via-else-station-before+else-i-ge-PEG_COUNT+then-whole-station w ↦ found_past _ _ v.i v.before v.invariant c.loop-i-test.true w.if-whole-station.true
    ]

pub loop-i-preserved : goal.loop-i-preserved
loop-i-preserved c = passed_more _ _ _ _ c.loop-i.invariant c.if-station-before.false c.if-i-ge-PEG_COUNT.false c.if-whole-station.false
