-- What accepting the file gave says which list it has.
use Rattle.list_output.specs.Parts.{accepted_lines, refused_line}
use Rattle.list_output.proofs.print_list.Goals as goal

pub returns-in-Ok : goal.returns-in-Ok
returns-in-Ok g c =
    let list = accepted_lines _ c.in-Ok.ensures in
    let w = c.print_accepted.ensures in
    record { whole = rw list at w.whole; beginning = rw list at w.beginning }

pub returns-in-Err : goal.returns-in-Err
returns-in-Err g c =
    let list = refused_line _ c.in-Err.ensures in
    let w = c.print_refusal.ensures in
    record { whole = rw list at w.whole; beginning = rw list at w.beginning }
