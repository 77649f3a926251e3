-- A byte with the top bit set adds its group to those read so far.
use mathlib.Core.Path.{sym}
use native.Mathlib.Omega.{arith}
use Rattle.file_numbers.proofs.Laws.{joined_lt, goes_on}
use Rattle.file_numbers.proofs.read_number.Goals as goal

pub loop-count-preserved : goal.loop-count-preserved
loop-count-preserved c =
    let a = c.args in
    let l = c.loop-count in
    let read = c.in_ok-b.ensures.lookup.3 in
    record {
      below = rw c.joined-value.ensures (joined_lt l.count l.value c.group.result l.invariant.below (omega arith));
      so_far = goes_on a.file.now a.at _ c.in_ok-bytes.ensures.lookup.0.2 l.count l.value l.invariant.so_far _ _ _ (read.1 0) c.group.ensures c.joined-value.ensures read.0 (sym c.if-not-continues.ensures);
    }
