-- All is the law of the walk.
use Rattle.std.proofs.Common.{ap, ◌∙◌, ℕ, arith}
use Rattle.decimal.specs.Written.{wrote-part}
use Rattle.walk.specs.Walks.{shown_here, moved}
use Rattle.walk.proofs.Going.{going-length, walking_starts, entered-inside, walked, full, done}
use Rattle.walk.proofs.rows_on.Goals as goal

pub loop-walk-init : goal.loop-walk-init
loop-walk-init c = let e = c.begin-walk.ensures in record { walking = walking_starts c.args.out.now e; inside = entered-inside e }

-- less than 96 bytes remain
pub returns-then-room-lt-LINE_BYTES-clause-value : goal.returns-then-room-lt-LINE_BYTES-clause-value
returns-then-room-lt-LINE_BYTES-clause-value c =
    let k = c.loop-walk-2.invariant.walking in
    (full c.step-step.ensures.guaranteed k c.loop-walk-2-test.true (omega (arith, going-length k.going))).0

pub returns-then-room-lt-LINE_BYTES-clause-out_after : goal.returns-then-room-lt-LINE_BYTES-clause-out_after
returns-then-room-lt-LINE_BYTES-clause-out_after c =
    let k = c.loop-walk-2.invariant.walking in
    (full c.step-step.ensures.guaranteed k c.loop-walk-2-test.true (omega (arith, going-length k.going))).1

pub at-here-requires : goal.at-here-requires
at-here-requires c = (shown_here c.loop-walk-2.invariant.walking.stands c.loop-walk-2-test.true).sound

-- one row written, one station on
pub loop-walk-2-preserved : goal.loop-walk-2-preserved
loop-walk-2-preserved c =
    let k = c.loop-walk-2.invariant.walking in
    let on = c.move_on.ensures ∙ ap (λ (n : ℕ). moved n c.loop-walk-2.walk) c.step-step.ensures.step in
    record {
      walking = (walked c.step-step.ensures.guaranteed k c.loop-walk-2-test.true (omega (arith, going-length k.going)) (wrote-part (omega arith) (rw (c.at-here.ensures.segment, c.at-here.ensures.station) at c.put_line-bytes.ensures.wrote)) (omega (arith, c.put_line-bytes.ensures.most)) on).0;
      ahead = rw on c.loop-walk-2.invariant.ahead;
    }

-- the list is done
pub returns-clause-value : goal.returns-clause-value
returns-clause-value c = (done c.step-step.ensures.guaranteed c.loop-walk.invariant.walking (omega arith)).0

pub returns-clause-out_after : goal.returns-clause-out_after
returns-clause-out_after c = (done c.step-step.ensures.guaranteed c.loop-walk.invariant.walking (omega arith)).1
