-- Two copies, one behind the other.
use Rattle.std.proofs.Common.{sym, ◌+◌, ◌-◌, arith}
use Rattle.decimal.proofs.Parts.{copied-twice}
use Rattle.decimal.proofs.put_both.Goals as goal

pub returns : goal.returns
returns g c =
    let x = c.copy_from_slice in
    let y = c.copy_from_slice-2 in
    rw (sym x.ensures.after, sym y.ensures.after) (copied-twice c.args.buf.now g.row.FRONT (g.row.FRONT + g.row.REST - g.row.FRONT) x.new.self y.new.self x.ensures.len y.ensures.len (omega (arith, c.requires)) (g.row.FRONT + g.row.REST) (omega arith))
