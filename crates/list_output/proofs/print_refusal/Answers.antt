-- What is written is the line that stands at the front of the buffer.
use Rattle.std.proofs.Common.{sym, ◌∙◌, [], append-nil}
use Rattle.list_output.specs.RefusalLine.{front_is}
use Rattle.list_output.specs.Parts.{begun, broken_off}
use Rattle.list_output.proofs.print_refusal.Goals as goal

pub returns-clause-whole : goal.returns-clause-whole
returns-clause-whole g c = rw (front_is c.put_refusal-end.ensures.wrote, c.number.ensures) at c.write_whole.ensures.whole

pub returns-clause-beginning : goal.returns-clause-beginning
returns-clause-beginning g c =
    let line = sym (front_is (rw c.number.ensures at c.put_refusal-end.ensures.wrote)) in
    let w = c.write_whole.ensures.beginning in
    broken_off _ [] _ w.0 (begun _ _) (line ∙ sym (append-nil _)) w.2
