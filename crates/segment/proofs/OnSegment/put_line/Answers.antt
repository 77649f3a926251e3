-- Each number has room and goes behind those before it; the last space becomes the line's end.
use Rattle.std.proofs.Common.{arith, rules}
use mir.Facts.{to_z-of_z}
use Rattle.decimal.specs.Written.{wrote_none}
use Rattle.segment.specs.Line.{fields}
use Rattle.segment.proofs.LineLaws.{number-fits, number-length, field-length, number-room, number-behind, line-done, last-place}
use Rattle.segment.proofs.OnSegment.put_line.Goals as goal

pub loop-v-init : goal.loop-v-init
unfolding fields
loop-v-init c = wrote_none c.args.out.now 0 (omega arith)

pub slice_bounds-put_field-count : goal.slice_bounds-put_field-count
slice_bounds-put_field-count c = omega (arith, number-room c.args.self.sound c.numbers.ensures c.in_order-v-items.ensures c.loop-v.invariant c.requires c.loop-v-test.true)

pub slice_bounds-put_field-start : goal.slice_bounds-put_field-start
slice_bounds-put_field-start c = let r = number-room c.args.self.sound c.numbers.ensures c.in_order-v-items.ensures c.loop-v.invariant c.requires c.loop-v-test.true in search rules

pub put_field-end-requires : goal.put_field-end-requires
put_field-end-requires c =
    let r = number-room c.args.self.sound c.numbers.ensures c.in_order-v-items.ensures c.loop-v.invariant c.requires c.loop-v-test.true in
    let f = number-fits c.args.self.sound c.numbers.ensures c.in_order-v-items.ensures c.loop-v-test.true in
    let l = number-length c.args.self.sound c.numbers.ensures c.in_order-v-items.ensures c.loop-v-test.true in
    simp to_z-of_z (search rules)

pub overflow_add-end : goal.overflow_add-end
overflow_add-end c =
    let r = number-room c.args.self.sound c.numbers.ensures c.in_order-v-items.ensures c.loop-v.invariant c.requires c.loop-v-test.true in
    let f = number-fits c.args.self.sound c.numbers.ensures c.in_order-v-items.ensures c.loop-v-test.true in
    let l = field-length c.args.self.sound c.numbers.ensures c.in_order-v-items.ensures c.loop-v-test.true in
    let e = simp to_z-of_z at c.put_field-end.ensures.end in
    search rules

pub loop-v-preserved : goal.loop-v-preserved
loop-v-preserved c =
    let f = number-fits c.args.self.sound c.numbers.ensures c.in_order-v-items.ensures c.loop-v-test.true in
    number-behind c.args.self.sound c.numbers.ensures c.in_order-v-items.ensures c.loop-v.invariant c.requires c.loop-v-test.true (simp to_z-of_z at c.put_field-end.ensures)

pub overflow_sub-out : goal.overflow_sub-out
overflow_sub-out c = (last-place c.args.self.sound c.numbers.ensures c.in_order-v-items.ensures c.loop-v.invariant c.requires c.loop-v-test.false c.loop-v.auto.v-index-end).0

pub bounds-out-end : goal.bounds-out-end
bounds-out-end c = let l = last-place c.args.self.sound c.numbers.ensures c.in_order-v-items.ensures c.loop-v.invariant c.requires c.loop-v-test.false c.loop-v.auto.v-index-end in omega (arith, l.0, l.2)

pub returns : goal.returns
returns c = record {
  wrote = line-done c.args.self.sound c.numbers.ensures c.in_order-v-items.ensures c.loop-v.invariant c.requires c.loop-v-test.false c.loop-v.auto.v-index-end;
  most = (last-place c.args.self.sound c.numbers.ensures c.in_order-v-items.ensures c.loop-v.invariant c.requires c.loop-v-test.false c.loop-v.auto.v-index-end).1;
}
