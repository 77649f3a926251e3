-- The two fractions with their rests are the one, by the sizes of the egg's numbers.
use Rattle.std.proofs.Common.{◌≡◌, ℕ, ◌+◌, ◌-◌, ◌*◌, ℤ, pos, nat_abs, w64, to_z, of_z, arith}
use mir.Val.{SFits}
use mir.Facts.{to_z-of_z}
use Rattle.integers.specs.Rounding.{nearest_size}
use Rattle.integers.specs.Width.{fits64}
use Rattle.segment.specs.Sizes.{OnEgg, egg_over, egg_under}
use Rattle.segment.specs.declared.Curvature.{Curvature}
use Rattle.segment.proofs.Ends.{turn-fits, radius-fits}
use Rattle.segment.proofs.Eggs as laws
use Rattle.segment.proofs.Curvature.egg_size.Goals as goal

-- a number that the machine takes the size of
size_is : {v : ℤ} {n : ℕ} → SFits w64 v → n ≡ nat_abs (to_z w64 (of_z w64 v)) → n ≡ nat_abs v
size_is fits e = simp (to_z-of_z, fits) at e

module _ {c : Curvature} {past turn first second length : ℕ} (p : OnEgg c (pos past)) (t : turn ≡ nat_abs (to_z w64 (of_z w64 c.start.turn))) (f : first ≡ nat_abs (to_z w64 (of_z w64 c.start.radius)))
    (s : second ≡ nat_abs (to_z w64 (of_z w64 c.end.radius))) (l : length ≡ nat_abs (to_z w64 (of_z w64 c.length))) where
  are : (turn ≡ nat_abs c.start.turn) × (first ≡ nat_abs c.start.radius) × (second ≡ nat_abs c.end.radius) × (length ≡ nat_abs c.length)
  are = (size_is (turn-fits p.start-size) t, size_is (radius-fits p.start-size) f, size_is (radius-fits p.end-size) s, size_is (fits64 c.length (omega (arith, p.length_high))) l)

  small : laws.EggSizes turn first second length past
  small = rw (are.0, are.1, are.2, are.3) (laws.egg-sizes p)

  answer : {n : ℕ} → (n ≡ nearest_size (turn * (second * (length - past) + first * past)) (first * second * length)) → n ≡ nearest_size (egg_over c past) (egg_under c)
  answer e = rw (are.0, are.1, are.2, are.3) at e

sizes : (c : goal.After-unsigned_abs-length) → laws.EggSizes c.unsigned_abs-turn.result c.unsigned_abs-first.result c.unsigned_abs-second.result c.unsigned_abs-length.result c.args.past
sizes c = small c.requires c.unsigned_abs-turn.ensures.value c.unsigned_abs-first.ensures.value c.unsigned_abs-second.ensures.value c.unsigned_abs-length.ensures.value

pub nonzero_div-from_start : goal.nonzero_div-from_start
nonzero_div-from_start c = laws.under-start-low (sizes c)

pub overflow_add-from_start : goal.overflow_add-from_start
overflow_add-from_start c = omega (arith, laws.whole-small (sizes c))

pub nonzero_rem-from_start : goal.nonzero_rem-from_start
nonzero_rem-from_start c = laws.under-start-low (sizes c)

pub overflow_mul-from_start-2 : goal.overflow_mul-from_start-2
overflow_mul-from_start-2 c = omega (arith, laws.start-rest (sizes c), laws.under-both-small (sizes c))

pub overflow_mul-from_end-2 : goal.overflow_mul-from_end-2
overflow_mul-from_end-2 c = omega (arith, laws.end_rest (sizes c), laws.under-both-small (sizes c))

pub overflow_mul-first : goal.overflow_mul-first
overflow_mul-first c = omega (arith, laws.under-both-small (sizes c))

pub nearest_sum-requires-clause-a_below : goal.nearest_sum-requires-clause-a_below
nearest_sum-requires-clause-a_below c = laws.start-rest (sizes c)

pub nearest_sum-requires-clause-b_below : goal.nearest_sum-requires-clause-b_below
nearest_sum-requires-clause-b_below c = laws.end_rest (sizes c)

pub nearest_sum-requires-clause-whole_fits : goal.nearest_sum-requires-clause-whole_fits
nearest_sum-requires-clause-whole_fits c = omega (arith, laws.whole-small (sizes c))

pub returns : goal.returns
returns c =
    let t = c.unsigned_abs-turn.ensures.value in
    let f = c.unsigned_abs-first.ensures.value in
    let s = c.unsigned_abs-second.ensures.value in
    let l = c.unsigned_abs-length.ensures.value in
    let a = laws.size-answer (small c.requires t f s l) c.nearest_sum.ensures in
    record { value = answer c.requires t f s l a.0; most = a.1 }
