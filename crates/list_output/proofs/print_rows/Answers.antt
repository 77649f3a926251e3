-- The rows that a walk leaves in the buffer are the part of the list from where the parts before it ended.
use Rattle.std.proofs.Common.{sym, ap, ◌∙◌, arith, length-take-le}
use Rattle.list_output.specs.Parts.{PartOf, part_at, lines_from, written_on, broken_off}
use Rattle.list_output.proofs.print_rows.Goals as goal
use Rattle.list_output.proofs.print_rows.Goals.{After-rows_from-chunk}
use Rattle.list_output.proofs.print_rows.Given.{Over}

-- the rows in the buffer are the part that follows
part : (g : Over) (c : After-rows_from-chunk g) → PartOf c.args.road.now c.in-Some.station c.rows_from-chunk.new.out c.rows_from-chunk.result
part g c = part_at c.rows_from-chunk.ensures.guaranteed c.in-Some.station c.loop-next.out (omega (arith, c.loop-next.auto.out, c.requires)) c.rows_from-chunk.ensures.value c.rows_from-chunk.ensures.out_after

pub slice_bounds-write_whole-end : goal.slice_bounds-write_whole-end
slice_bounds-write_whole-end g c = (part g (goal.at.slice_bounds-write_whole-end g c).After-rows_from-chunk).fits

pub slice_bounds-write_whole-end-in-Some : goal.slice_bounds-write_whole-end-in-Some
slice_bounds-write_whole-end-in-Some g c = sym (length-take-le _ _ (part g (goal.at.slice_bounds-write_whole-end-in-Some g c).After-rows_from-chunk).fits)

pub returns-in_err-write_whole-clause-beginning : goal.returns-in_err-write_whole-clause-beginning
returns-in_err-write_whole-clause-beginning g c =
    let p = part g (goal.at.returns-in_err-write_whole-clause-beginning g c).After-rows_from-chunk in
    let w = c.write_whole.ensures.beginning in
    broken_off _ _ _ w.0 c.loop-next.invariant (ap (lines_from c.args.road.now) c.in-Some.is ∙ p.whole) w.2

pub loop-next-smaller : goal.loop-next-smaller
loop-next-smaller g c =
    let p = part g (goal.at.loop-next-smaller g c).After-rows_from-chunk in
    rw c.in-Some.is p.less

pub loop-next-preserved : goal.loop-next-preserved
loop-next-preserved g c =
    let p = part g (goal.at.loop-next-preserved g c).After-rows_from-chunk in
    written_on _ c.loop-next.invariant (ap (lines_from c.args.road.now) c.in-Some.is ∙ p.whole) c.in_ok-write_whole.ensures.whole
