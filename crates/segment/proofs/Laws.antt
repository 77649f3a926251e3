-- Sizes of sums and products, and what fits 64 bits.
use mathlib.Core.Path.{◌≡◌, refl, sym, ap, ap₂, ◌∙◌}
use mathlib.Core.List.{[], ◌∷◌}
use Prim.Native.Nat.{ℕ, ◌+◌, ◌*◌, ◌≤◌, ◌<◌}
use native.Mathlib.Omega.{arith}
use native.Mathlib.Nat.{mul-le-mul, mul-le-mul_left, div-le_self}
use lib.IntN.{ℤ, pos, negsuc, ◌+ℤ◌, ◌*ℤ◌, *ℤ_comm, nat_abs}
use lib.Signed.{◌<ℤ◌}
use mir.Syntax.{w64}
use mir.Val.{SFits, of_z, to_z}
use mir.Facts.{to_z-of_z}
use Rattle.integers.specs.Bridge.{int, nat, ◌⊕◌, ◌⊗◌, eq!, eq?, le!, le?, lt!, abs_add, abs_mul, abs_product}
use Rattle.integers.specs.Ring.{◌:*◌, ring, $}
use Rattle.integers.specs.Fraction.{◌÷◌}
use Rattle.integers.specs.Rounding.{floor, round, rounded}
use Rattle.integers.proofs.RoundingLaws.{round-scale, round-from, round-upto}
use Rattle.integers.specs.Width.{fits64, divisor, above_zero, Doubles}
use Rattle.segment.specs.Sizes.{InCurve, OfLane, OnSide, lane_of}
use Rattle.segment.specs.declared.Ramp.{Ramp}
use Rattle.segment.specs.declared.Lane.{Lane}

-- a multiple of a number above zero
pub times-low : (k : ℕ) (a : ℤ) → 0 < k → pos 0 <ℤ a → pos 0 <ℤ (pos k *ℤ a)
times-low k a p h = rw (divisor a h) (lt! (nat 0) (nat k ⊗ nat (nat_abs a)) (omega (arith, mul-le-mul p (above_zero a h))))

-- a whole part is no larger than the number
pub floor-small : (n : ℤ) (d : ℕ) → nat_abs (floor n d) ≤ nat_abs n
unfolding floor
floor-small (pos a) d = div-le_self a d
floor-small (negsuc a) d = omega (arith, div-le_self a d)

-- a number that the machine finds to be 0
pub is_zero : {a : ℤ} → SFits w64 a → of_z w64 a ≡ 0 → a ≡ pos 0
is_zero {a} f e = sym (to_z-of_z f) ∙ ap (to_z w64) e

-- two numbers that the machine finds to be the same
pub is_same : {a b : ℤ} → SFits w64 a → SFits w64 b → of_z w64 a ≡ of_z w64 b → a ≡ b
is_same f g e = sym (to_z-of_z f) ∙ ap (to_z w64) e ∙ to_z-of_z g

-- a whole number rounds to itself, over any denominator
pub round-multiple : {n : ℤ} (k : ℕ) (a : ℤ) → 0 < k → n ≡ pos k *ℤ a → a ≡ round n k
round-multiple {n} k a p e =
    let r = round n k in
    let h = eq? (int n) (nat k ⊗ int a) e in
    let l = le? (int a) (int r) (round-from a p (le! (int a ⊗ nat k) (int n) (omega arith))) in
    let u = le? (int r) (int a) (round-upto a p (le! (int n) (int a ⊗ nat k) (omega arith))) in
    eq! (int a) (int r) (omega arith)

pub round_whole : (a : ℤ) → a ≡ round a 1
round_whole a = round-multiple 1 a (omega arith) (eq! (int a) (nat 1 ⊗ int a) (omega arith))

-- what `along` computes
module _ (start slope distance : ℤ) (h : nat_abs start + nat_abs slope * nat_abs distance < 9223372036854775808) where
  pub rise-fits : SFits w64 (slope *ℤ distance)
  rise-fits = fits64 (slope *ℤ distance) (omega (arith, abs_mul slope distance))

  pub along-fits : SFits w64 (start +ℤ slope *ℤ distance)
  along-fits = fits64 (start +ℤ slope *ℤ distance) (omega (arith, abs_add start (slope *ℤ distance), abs_mul slope distance))

-- the grade in a vertical curve
module _ {grade change half u : ℤ} (p : InCurve 120000 grade change half u) where
  pub first-fits : SFits w64 grade
  first-fits = fits64 grade (omega (arith, p.first-size))

  pub change-fits : SFits w64 change
  change-fits = fits64 change (omega (arith, p.change-size))

  pub half-fits : SFits w64 half
  half-fits = fits64 half (omega (arith, p.half_high))

  double_small : nat_abs (pos 2 *ℤ half) ≤ 2000000
  double_small = abs_product (pos 2) half {k = 2} (omega arith) p.half_high

  first_small : nat_abs (grade *ℤ (pos 2 *ℤ half)) ≤ 240000000000
  first_small = abs_product grade (pos 2 *ℤ half) p.first-size double_small

  turn_small : nat_abs change * nat_abs u ≤ 240000 * 2000000
  turn_small = mul-le-mul p.change-size (let a = p.inside in let b = p.half_high in let h : nat_abs u ≤ 2000000 = omega arith in h)

  pub double_fits : SFits w64 (pos 2 *ℤ half)
  double_fits = fits64 (pos 2 *ℤ half) (omega (arith, double_small))

  pub first_fits : SFits w64 (grade *ℤ (pos 2 *ℤ half))
  first_fits = fits64 (grade *ℤ (pos 2 *ℤ half)) (omega (arith, first_small))

  pub grade-along : nat_abs (grade *ℤ (pos 2 *ℤ half)) + nat_abs change * nat_abs u < 9223372036854775808
  grade-along = omega (arith, first_small, turn_small)

  pub grade_rounds : {over : ℤ} → over ≡ grade *ℤ (pos 2 *ℤ half) +ℤ change *ℤ u → Doubles over (pos 2 *ℤ half)
  grade_rounds e = rw e (record {
    above = times-low 2 half (omega arith) p.half-low;
    dividend = omega (arith, abs_add (grade *ℤ (pos 2 *ℤ half)) (change *ℤ u), abs_mul change u, first_small, turn_small);
    divisor = omega (arith, double_small);
  })

  pub grade-answer : {over r : ℤ} → over ≡ grade *ℤ (pos 2 *ℤ half) +ℤ change *ℤ u → r ≡ round over (nat_abs (pos 2 *ℤ half)) → r ≡ rounded ((grade *ℤ pos (2 * nat_abs half) +ℤ change *ℤ u) ÷ (2 * nat_abs half))
  unfolding rounded
  grade-answer e-over e = e ∙ ap₂ round (e-over ∙ ap (λ (x : ℤ). grade *ℤ (pos 2 *ℤ x) +ℤ change *ℤ u) (divisor half p.half-low)) (abs_mul (pos 2) half)

-- the drop of an edge
module _ {over span width : ℤ} (p : OfLane over span width) where
  pub span-fits : SFits w64 span
  span-fits = fits64 span (omega (arith, p.span_high))

  over-small : nat_abs over ≤ 24000000000000
  over-small = let h = p.over-size in omega (arith, mul-le-mul_left 240000 p.span_high)

  wide-small : nat_abs (over *ℤ width) ≤ 84000000000000000
  wide-small = abs_product over width over-small p.width-size

  pub wide_fits : SFits w64 (over *ℤ width)
  wide_fits = fits64 (over *ℤ width) (omega (arith, wide-small))

  long-small : nat_abs (span *ℤ pos 1000000) ≤ 100000000 * 1000000
  long-small = abs_product span (pos 1000000) {l = 1000000} p.span_high (omega arith)

  pub long-fits : SFits w64 (span *ℤ pos 1000000)
  long-fits = fits64 (span *ℤ pos 1000000) (omega (arith, long-small))

  pub drop_rounds : Doubles (over *ℤ width) (span *ℤ pos 1000000)
  drop_rounds = record {
    above = rw (*ℤ_comm span (pos 1000000)) (times-low 1000000 span (omega arith) p.span_low);
    dividend = omega (arith, wide-small);
    divisor = omega (arith, long-small);
  }

  pub drop-answer : {r : ℤ} → r ≡ round (over *ℤ width) (nat_abs (span *ℤ pos 1000000)) → r ≡ rounded ((over *ℤ width) ÷ (nat_abs span * 1000000))
  unfolding rounded
  drop-answer e = e ∙ ap (round (over *ℤ width)) (abs_mul span (pos 1000000))

-- a side's crossfall
module _ {side : Ramp} {span width u : ℤ} (p : OnSide side span width u) where
  pub side-start-fits : SFits w64 side.start
  side-start-fits = fits64 side.start (omega (arith, p.start-size))

  pub side-change-fits : SFits w64 side.change
  side-change-fits = fits64 side.change (omega (arith, p.change-size))

  pub side-span-fits : SFits w64 span
  side-span-fits = fits64 span (omega (arith, p.span_high))

  start_small : nat_abs (side.start *ℤ span) ≤ 80000 * nat_abs span
  start_small = abs_product side.start span {l = nat_abs span} p.start-size (omega arith)

  slope-small : nat_abs side.change * nat_abs u ≤ 160000 * nat_abs span
  slope-small = mul-le-mul p.change-size p.inside

  pub start_fits : SFits w64 (side.start *ℤ span)
  start_fits = fits64 (side.start *ℤ span) (omega (arith, start_small, p.span_high))

  pub side_along : nat_abs (side.start *ℤ span) + nat_abs side.change * nat_abs u < 9223372036854775808
  side_along = omega (arith, start_small, slope-small, p.span_high)

  pub over-is : {over : ℤ} → SFits w64 u → over ≡ to_z w64 (of_z w64 (to_z w64 (of_z w64 side.start) *ℤ to_z w64 (of_z w64 span))) +ℤ to_z w64 (of_z w64 side.change) *ℤ to_z w64 (of_z w64 u) → over ≡ side.start *ℤ span +ℤ side.change *ℤ u
  over-is small e = simp (to_z-of_z, side-start-fits, side-change-fits, side-span-fits, start_fits, small) at e

  module _ {over : ℤ} (e-over : over ≡ side.start *ℤ span +ℤ side.change *ℤ u) where
    pub side_lane : OfLane over span width
    side_lane = rw e-over (record {
      over-size = omega (arith, abs_add (side.start *ℤ span) (side.change *ℤ u), abs_mul side.change u, start_small, slope-small);
      span_low = p.span_low;
      span_high = p.span_high;
      width-size = p.width-size;
    })

    pub side_rounds : Doubles over span
    side_rounds = record { above = p.span_low; dividend = omega (arith, over-small side_lane); divisor = omega (arith, p.span_high) }

    pub side_answer : {c d : ℤ} → c ≡ round over (nat_abs span) → d ≡ rounded ((over *ℤ width) ÷ (nat_abs span * 1000000)) → ◌≡◌ {A = Lane} (record { crossfall = c; drop = d }) (lane_of side span width u)
    unfolding lane_of rounded
    side_answer {c} {d} e f = rw (e, f, e-over)

  even-small : nat_abs (side.start *ℤ width) ≤ 80000 * 3500
  even-small = abs_product side.start width p.start-size p.width-size

  -- a crossfall that stays as it is
  module _ (even : side.change ≡ pos 0) where
    even-over : side.start *ℤ span +ℤ side.change *ℤ u ≡ pos (nat_abs span) *ℤ side.start
    even-over =
        ap₂ (λ (c s : ℤ). side.start *ℤ s +ℤ c *ℤ u) even (divisor span p.span_low)
        ∙ eq! (int side.start ⊗ nat (nat_abs span) ⊕ nat 0 ⊗ int u) (nat (nat_abs span) ⊗ int side.start) (omega arith)

    even-crossfall : side.start ≡ round (side.start *ℤ span +ℤ side.change *ℤ u) (nat_abs span)
    even-crossfall = round-multiple (nat_abs span) side.start (above_zero span p.span_low) even-over

    even-drop : round (side.start *ℤ width) 1000000 ≡ round ((side.start *ℤ span +ℤ side.change *ℤ u) *ℤ width) (nat_abs span * 1000000)
    even-drop = rw even-over
        (round-scale (nat_abs span) (side.start *ℤ width) 1000000 (above_zero span p.span_low) (omega arith)
        ∙ ap (λ (n : ℤ). round n (nat_abs span * 1000000)) (ring (pos (nat_abs span) ∷ side.start ∷ width ∷ []) ($ 0 :* ($ 1 :* $ 2)) (($ 0 :* $ 1) :* $ 2) tt))

    pub even-answer : {d : ℤ} → d ≡ round (side.start *ℤ width) 1000000 → ◌≡◌ {A = Lane} (record { crossfall = side.start; drop = d }) (lane_of side span width u)
    unfolding lane_of rounded
    even-answer e = side_answer refl even-crossfall (e ∙ even-drop)

  pub even-fits : SFits w64 (side.start *ℤ width)
  even-fits = fits64 (side.start *ℤ width) (omega (arith, even-small))

  pub even_rounds : Doubles (side.start *ℤ width) (pos 1000000)
  even_rounds = record { above = lt! (nat 0) (nat 1000000) (omega arith); dividend = omega (arith, even-small); divisor = omega arith }
