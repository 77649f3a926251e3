use Rattle.std.proofs.Common.{arith}
use Rattle.decimal.specs.Written.{wrote_byte, wrote-first, wrote-behind, wrote-length}
use Rattle.list_output.specs.RefusalLine.{refusal-parts}
use Rattle.list_output.proofs.put_refusal.Goals as goal

pub returns-clause-wrote : goal.returns-clause-wrote
returns-clause-wrote c =
    let room = c.requires in
    let mark = wrote_byte 32 (wrote-first c.args.line.now 0 82 (omega arith)) (omega arith) in
    let n = c.put_number-end.ensures in
    let number = wrote-behind (omega (arith, wrote-length mark (omega arith))) n.wrote mark (omega arith) in
    let whole = wrote-behind (omega (arith, number.end, n.most, wrote-length number (omega (arith, number.end, n.most)))) c.put_number-end-2.ensures.wrote number (omega (arith, number.end, n.most)) in
    rw (c.from.ensures, refusal-parts c.args.number c.args.place) at whole
