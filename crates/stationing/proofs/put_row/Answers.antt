-- The station's piece of road shows what the exact road says there, and its line is written over the buffer's first bytes.
use Rattle.std.proofs.Common.{List, ℕ, length, ap, ◌∙◌}
use Rattle.road.specs.Machine.{overwrite}
use Rattle.segment.proofs.LineLaws.{line-shows}
use Rattle.cursors.specs.View.{viewed-shows}
use Rattle.stationing.specs.Routines.{overwritten}
use Rattle.stationing.proofs.put_row.Goals as goal

pub view_at-view-requires-clause-reached : goal.view_at-view-requires-clause-reached
view_at-view-requires-clause-reached c = c.start.ensures c.args.station

pub at-requires : goal.at-requires
at-requires c = (viewed-shows c.view_at-view.ensures c.requires.on_road).sound

pub returns : goal.returns
returns c =
    let e = line-shows (viewed-shows c.view_at-view.ensures c.requires.on_road) in
    let w = overwritten (rw (c.at.ensures.segment, c.at.ensures.station) at c.put_line.ensures.wrote) in
    record { value = w.0 ∙ ap length e; line_after = w.1 ∙ ap (λ (l : List ℕ). overwrite l c.args.line.now) e }
