-- A minus sign where v is below zero, then the digits of its size.
use Rattle.std.proofs.Common.{refl, ◌<◌, ap, length, length-set, arith, rules}
use Rattle.decimal.specs.Written.{wrote-first, wrote-behind}
use Rattle.decimal.proofs.Sign.{decimal-below, decimal-from}
use Rattle.decimal.proofs.I64Decimal.put.Goals as goal

pub bounds-buf-0 : goal.bounds-buf-0
bounds-buf-0 c = omega (arith, c.requires, ap length (decimal-below c.ranges.self refl c.if-self-lt0.true))

pub slice_bounds-put_digits-count : goal.slice_bounds-put_digits-count
slice_bounds-put_digits-count c = let l = ap length (decimal-below c.ranges.self refl c.if-self-lt0.true) in search rules

pub slice_bounds-put_digits-start : goal.slice_bounds-put_digits-start
slice_bounds-put_digits-start c = let l = ap length (decimal-below c.ranges.self refl c.if-self-lt0.true) in search rules

pub put_digits-requires : goal.put_digits-requires
put_digits-requires c = let l = ap length (decimal-below c.ranges.self c.unsigned_abs.ensures.value c.if-self-lt0.true) in search rules

pub overflow_add-result : goal.overflow_add-result
overflow_add-result c = let l = ap length (decimal-below c.ranges.self c.unsigned_abs.ensures.value c.if-self-lt0.true) in let e = c.put_digits.ensures.end in search rules

pub returns-then-self-lt0 : goal.returns-then-self-lt0
returns-then-self-lt0 c =
    let b = c.args.buf.now in
    let t = decimal-below c.ranges.self c.unsigned_abs.ensures.value c.if-self-lt0.true in
    let first : 0 < length b = omega (arith, c.requires, ap length t) in
    rw t (wrote-behind (simp length-set (omega arith)) c.put_digits.ensures (wrote-first b 0 45 first) (omega arith))

pub put_digits-requires-2 : goal.put_digits-requires-2
put_digits-requires-2 c = omega (arith, c.requires, ap length (decimal-from c.ranges.self c.unsigned_abs-2.ensures.value c.if-self-lt0.false))

pub returns : goal.returns
returns c = rw (decimal-from c.ranges.self c.unsigned_abs-2.ensures.value c.if-self-lt0.false) c.put_digits-2.ensures
