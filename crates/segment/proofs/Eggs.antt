-- The curvature on an egg. Its size is the sum of two fractions that fit 64 bits; the turn gives it its sign.
use mathlib.Core.Path.{◌≡◌, sym, ap, ap₂, subst, ◌∙◌}
use mathlib.Core.List.{[], ◌∷◌}
use Prim.Native.Nat.{ℕ, ◌+◌, ◌*◌, ◌-◌, ◌/◌, ◌%◌, ◌≤◌, ◌<◌}
use native.Mathlib.Omega.{arith}
use native.Mathlib.Nat.{mul-le-mul, mul-le-mul_right, div-add-mod', mod-lt, div-le_self}
use lib.IntN.{ℤ, pos, ◌-ℤ◌, ◌*ℤ◌, nat_abs}
use lib.Signed.{◌≤ℤ◌, ◌<ℤ◌}
use Rattle.integers.specs.Ring.{◌:+◌, ◌:-◌, ◌:*◌, ring, $}
use Rattle.integers.specs.Fraction.{◌÷◌, ◌+ᶠ◌, ◌×ᶠ◌, ◌≈ᶠ◌}
use Rattle.integers.specs.Values.{positive-mul}
use Rattle.integers.specs.Rounding.{nearest_size, round, rounded, round_of_size}
use Rattle.integers.proofs.RoundingLaws.{rounded-value, round-size}
use Rattle.integers.specs.Width.{divisor, above_zero}
use Rattle.segment.specs.Segment.{value_of}
use Rattle.segment.specs.Sizes.{OnEgg, egg_over, egg_under}
use Rattle.segment.specs.declared.Curvature.{Curvature}
use Rattle.segment.proofs.Signs.{as_size, left-turn, right-turn}

-- ---- its size, from the sizes of the turn, of the radii at its start and at its end, and of its length
pub record EggSizes (turn first second length past : ℕ) : Type 0 where
  pub turn-high : turn ≤ 1000000000
  pub first-low : 0 < first
  pub first-high : first ≤ 1000000
  pub second-low : 0 < second
  pub second-high : second ≤ 1000000
  pub length-low : 0 < length
  pub length_high : length ≤ 10000000
  pub inside : past ≤ length

module _ {turn first second length past : ℕ} (p : EggSizes turn first second length past) where
  abbrev from_start : ℕ
  from_start = turn * (length - past)

  abbrev from_end : ℕ
  from_end = turn * past

  abbrev under-start : ℕ
  under-start = first * length

  abbrev under-end : ℕ
  under-end = second * length

  pub from-start-small : from_start ≤ 1000000000 * 10000000
  from-start-small = mul-le-mul p.turn-high (let h : length - past ≤ 10000000 = omega (arith, p.length_high) in h)

  pub from-end-small : from_end ≤ 1000000000 * 10000000
  from-end-small = mul-le-mul p.turn-high (let h : past ≤ 10000000 = omega (arith, p.length_high, p.inside) in h)

  pub under-start-small : under-start ≤ 1000000 * 10000000
  under-start-small = mul-le-mul p.first-high p.length_high

  pub under-end-small : under-end ≤ 1000000 * 10000000
  under-end-small = mul-le-mul p.second-high p.length_high

  pub under-start-low : 0 < under-start
  under-start-low = positive-mul first length p.first-low p.length-low

  pub under-end-low : 0 < under-end
  under-end-low = positive-mul second length p.second-low p.length-low

  pub whole-small : from_start / under-start + from_end / under-end ≤ 20000000000000000
  whole-small = omega (arith, from-start-small, from-end-small, div-le_self from_start under-start, div-le_self from_end under-end)

  pub under-both-small : first * under-end ≤ 1000000 * (1000000 * 10000000)
  under-both-small = mul-le-mul p.first-high under-end-small

  pub start-rest : from_start % under-start * second < first * under-end
  start-rest = omega (arith, p.second-low, mul-le-mul_right second (mod-lt from_start under-start-low))

  pub end_rest : from_end % under-end * first < first * under-end
  end_rest = omega (arith, p.first-low, mul-le-mul_right first (mod-lt from_end under-end-low))

  abbrev whole : ℕ
  whole = from_start / under-start + from_end / under-end

  both : whole * (first * under-end) + (from_start % under-start * second + from_end % under-end * first) ≡ turn * (second * (length - past) + first * past)
  both = omega (arith, ap (λ (n : ℕ). n * second) (div-add-mod' from_start under-start), ap (λ (n : ℕ). n * first) (div-add-mod' from_end under-end))

  -- at most the curvature of the lesser radius, and so at most the turn
  size_small : nearest_size (turn * (second * (length - past) + first * past)) (first * second * length) ≤ 1000000000
  size_small =
      let y : ℕ = length - past in
      let over = turn * (second * y + first * past) in
      let under = first * second * length in
      let low : 0 < under = positive-mul (first * second) length (positive-mul first second p.first-low p.second-low) p.length-low in
      let e : under ≡ first * second * (y + past) = ap (λ (n : ℕ). first * second * n) (let h : length ≡ y + past = omega (arith, p.inside) in h) in
      let f : turn * (second * y) ≤ 1000000000 * (first * (second * y)) = omega (arith, mul-le-mul p.turn-high (mul-le-mul_right (second * y) p.first-low)) in
      let g : turn * (first * past) ≤ 1000000000 * (second * (first * past)) = omega (arith, mul-le-mul p.turn-high (mul-le-mul_right (first * past) p.second-low)) in
      subst (λ (z : ℤ). nat_abs z ≤ 1000000000) (round_of_size over under) (round-size (pos over) under 1000000000 low (omega arith))

  pub size-answer : {r : ℕ}
      → r ≡ nearest_size (whole * (first * under-end) + (from_start % under-start * second + from_end % under-end * first)) (first * under-end)
      → (r ≡ nearest_size (turn * (second * (length - past) + first * past)) (first * second * length)) × (r ≤ 1000000000)
  size-answer {r} e =
      let h : r ≡ nearest_size (turn * (second * (length - past) + first * past)) (first * second * length) = e ∙ ap₂ nearest_size both (omega arith) in
      (h, subst (λ (n : ℕ). n ≤ 1000000000) (sym h) size_small)

-- ---- the curvature, of turn / first evenly to turn / second
value : (turn : ℤ) (first second rest past : ℕ) → 0 < first → 0 < second → 0 < rest + past
    → (turn ÷ first) ×ᶠ ((pos (rest + past) -ℤ pos past) ÷ (rest + past)) +ᶠ (turn ÷ second) ×ᶠ (pos past ÷ (rest + past)) ≈ᶠ (turn *ℤ pos (second * rest + first * past)) ÷ (first * second * (rest + past))
value turn first second rest past f g h = record {
  defined = positive-mul (first * (rest + past)) (second * (rest + past)) (positive-mul first (rest + past) f h) (positive-mul second (rest + past) g h);
  other-defined = positive-mul (first * second) (rest + past) (positive-mul first second f g) h;
  same = ring (turn ∷ pos first ∷ pos second ∷ pos rest ∷ pos past ∷ [])
      ((($ 0 :* (($ 3 :+ $ 4) :- $ 4)) :* ($ 2 :* ($ 3 :+ $ 4)) :+ ($ 0 :* $ 4) :* ($ 1 :* ($ 3 :+ $ 4))) :* ($ 1 :* $ 2 :* ($ 3 :+ $ 4)))
      (($ 0 :* ($ 2 :* $ 3 :+ $ 1 :* $ 4)) :* (($ 1 :* ($ 3 :+ $ 4)) :* ($ 2 :* ($ 3 :+ $ 4)))) tt;
}

rounded-even : (turn : ℤ) (first second length past : ℕ) → 0 < first → 0 < second → 0 < length → past ≤ length
    → rounded ((turn ÷ first) ×ᶠ ((pos length -ℤ pos past) ÷ length) +ᶠ (turn ÷ second) ×ᶠ (pos past ÷ length)) ≡ round (turn *ℤ pos (second * (length - past) + first * past)) (first * second * length)
unfolding rounded
rounded-even turn first second length past f g h i =
    let e : (length - past) + past ≡ length = omega arith in
    rounded-value (subst (λ (n : ℕ). (turn ÷ first) ×ᶠ ((pos n -ℤ pos past) ÷ n) +ᶠ (turn ÷ second) ×ᶠ (pos past ÷ n) ≈ᶠ (turn *ℤ pos (second * (length - past) + first * past)) ÷ (first * second * n)) e
    (value turn first second (length - past) past f g (omega arith)))

pub egg-sizes : {c : Curvature} {past : ℕ} → OnEgg c (pos past) → EggSizes (nat_abs c.start.turn) (nat_abs c.start.radius) (nat_abs c.end.radius) (nat_abs c.length) past
egg-sizes {c} p = record {
  turn-high = p.start-size.turn;
  first-low = above_zero c.start.radius p.start-size.radius-low;
  first-high = p.start-high;
  second-low = above_zero c.end.radius p.end-size.radius-low;
  second-high = p.end-high;
  length-low = above_zero c.length p.length-low;
  length_high = p.length_high;
  inside = p.inside;
}

module _ {c : Curvature} {past : ℤ} (p : OnEgg c past) where
  abbrev turn : ℕ
  turn = nat_abs c.start.turn

  abbrev first : ℕ
  first = nat_abs c.start.radius

  abbrev second : ℕ
  second = nat_abs c.end.radius

  abbrev l : ℕ
  l = nat_abs c.length

  abbrev d : ℕ
  d = nat_abs past

  abbrev over : ℕ
  over = second * (l - d) + first * d

  abbrev under : ℕ
  under = first * second * l

  -- the same turn at both ends, over numbers without their signs
  evenly : rounded (value_of c.start ×ᶠ ((c.length -ℤ past) ÷ l) +ᶠ value_of c.end ×ᶠ (past ÷ l)) ≡ round (c.start.turn *ℤ pos over) under
  evenly =
      ap (λ (t : ℤ). rounded (value_of c.start ×ᶠ ((c.length -ℤ past) ÷ l) +ᶠ (t ÷ second) ×ᶠ (past ÷ l))) (sym p.same_turn)
      ∙ ap₂ (λ (m n : ℤ). rounded (value_of c.start ×ᶠ ((m -ℤ n) ÷ l) +ᶠ (c.start.turn ÷ second) ×ᶠ (n ÷ l))) (divisor c.length p.length-low) (as_size p.past-low)
      ∙ rounded-even c.start.turn first second l d (above_zero c.start.radius p.start-size.radius-low) (above_zero c.end.radius p.end-size.radius-low) (above_zero c.length p.length-low) p.inside

  module _ {r : ℕ} (h : r ≡ nearest_size (egg_over c d) (egg_under c)) where
    pub to_left : c.start.turn <ℤ pos 0 → pos 0 -ℤ pos r ≡ rounded (value_of c.start ×ᶠ ((c.length -ℤ past) ÷ l) +ᶠ value_of c.end ×ᶠ (past ÷ l))
    to_left g = ap (λ (n : ℕ). pos 0 -ℤ pos n) h ∙ left-turn c.start.turn over under g ∙ sym evenly

    pub to_right : pos 0 ≤ℤ c.start.turn → pos r ≡ rounded (value_of c.start ×ᶠ ((c.length -ℤ past) ÷ l) +ᶠ value_of c.end ×ᶠ (past ÷ l))
    to_right g = ap pos h ∙ right-turn c.start.turn over under g ∙ sym evenly
