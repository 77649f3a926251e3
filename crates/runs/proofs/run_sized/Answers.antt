-- What `done` records is read back as rows, as the listing's run, and as a file turned away.
use Rattle.std.proofs.Common.{arith}
use Rattle.runs.proofs.Progress.{none_by_routine, turn_by_routine, done, done_routines}
use Rattle.runs.proofs.RowsBack.{blade-recorded}
use Rattle.runs.proofs.Listing.{listing-recorded}
use Rattle.runs.proofs.Refused.{turned-away}
use Rattle.runs.proofs.run_sized.Goals as goal

pub loop-k-init : goal.loop-k-init
loop-k-init c = none_by_routine c.requires.answers c.requires.frames

pub loop-k-preserved : goal.loop-k-preserved
loop-k-preserved c =
    turn_by_routine c.loop-k.invariant _ c.answer.result c.loop-k-test.true c.answer.ensures.value c.answer.ensures.routine c.answer.ensures.line_after c.copy_from_slice.ensures.after (omega arith)

pub returns : goal.returns
returns c =
    let r = done c.loop-k.invariant.progress c.loop-k-test.false in
    let routines = done_routines c.loop-k.invariant c.loop-k-test.false in
    record { recorded = r; routines = routines; blade = blade-recorded r; listing = listing-recorded r; refused = λ n p e. turned-away _ e r }
