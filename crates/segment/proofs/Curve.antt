-- The height in a vertical curve: the sizes of what its computation meets, and that its parts make the exact numerator.
use mathlib.Core.Path.{◌≡◌, ap, ap₂, ◌∙◌}
use mathlib.Core.List.{[], ◌∷◌}
use Prim.Native.Nat.{ℕ, ◌*◌, ◌≤◌, ◌<◌}
use native.Mathlib.Omega.{arith}
use native.Mathlib.Nat.{mul-le-mul_right}
use lib.IntN.{ℤ, pos, ◌+ℤ◌, ◌*ℤ◌, nat_abs}
use lib.Signed.{◌<ℤ◌}
use mir.Syntax.{w64}
use mir.Val.{SFits}
use Rattle.integers.specs.Bridge.{nat, ◌⊕◌, ◌⊗◌, le!, lt!, abs_add, abs_mul, abs_product}
use Rattle.integers.specs.Ring.{◌:+◌, ◌:*◌, #, ring, $}
use Rattle.integers.specs.Fraction.{◌÷◌}
use Rattle.integers.specs.Rounding.{floor, remainder, round, rounded}
use Rattle.integers.proofs.RoundingLaws.{remainder-small}
use Rattle.integers.specs.Width.{fits64, divisor, above_zero, RoundParts}
use Rattle.integers.proofs.WidthLaws.{parts-sum, small-parts}
use Rattle.segment.specs.Sizes.{InCurve}
use Rattle.segment.proofs.Laws.{times-low, floor-small}

module _ {line change half u : ℤ} (p : InCurve 27240000000000 line change half u) where
  pub change-fits : SFits w64 change
  change-fits = fits64 change (omega (arith, p.change-size))

  pub half-fits : SFits w64 half
  half-fits = fits64 half (omega (arith, p.half_high))

  u_small : nat_abs u ≤ 2000000
  u_small = omega (arith, p.inside, p.half_high)

  square_small : nat_abs (u *ℤ u) ≤ 4000000000000
  square_small = abs_product u u u_small u_small

  deviation_small : nat_abs (change *ℤ (u *ℤ u)) ≤ 960000000000000000
  deviation_small = abs_product change (u *ℤ u) p.change-size square_small

  k-small : nat_abs (pos 4 *ℤ half) ≤ 4000000
  k-small = abs_product (pos 4) half {k = 4} (omega arith) p.half_high

  scale_small : nat_abs (pos 4 *ℤ half *ℤ pos 1000000) ≤ 4000000000000
  scale_small = abs_product (pos 4 *ℤ half) (pos 1000000) {l = 1000000} k-small (omega arith)

  pub square_fits : SFits w64 (u *ℤ u)
  square_fits = fits64 (u *ℤ u) (omega (arith, square_small))

  pub deviation_fits : SFits w64 (change *ℤ (u *ℤ u))
  deviation_fits = fits64 (change *ℤ (u *ℤ u)) (omega (arith, deviation_small))

  pub k-fits : SFits w64 (pos 4 *ℤ half)
  k-fits = fits64 (pos 4 *ℤ half) (omega (arith, k-small))

  pub scale-fits : SFits w64 (pos 4 *ℤ half *ℤ pos 1000000)
  scale-fits = fits64 (pos 4 *ℤ half *ℤ pos 1000000) (omega (arith, scale_small))

  pub k-low : pos 0 <ℤ (pos 4 *ℤ half)
  k-low = times-low 4 half (omega arith) p.half-low

  module _ {f : ℤ} (e-f : f ≡ floor (change *ℤ (u *ℤ u)) (nat_abs (pos 4 *ℤ half))) where
    top_small : nat_abs (line +ℤ f) ≤ 970000000000000000
    top_small =
        let i : nat_abs f ≤ nat_abs (change *ℤ (u *ℤ u)) = rw e-f (floor-small (change *ℤ (u *ℤ u)) (nat_abs (pos 4 *ℤ half))) in
        omega (arith, abs_add line f, deviation_small, p.first-size)

    pub top_fits : SFits w64 (line +ℤ f)
    top_fits = fits64 (line +ℤ f) (omega (arith, top_small))

    module _ {part : ℤ} (e-part : part ≡ pos (remainder (line +ℤ f) 1000000)) where
      part_small : nat_abs part ≤ 999999
      part_small = rw e-part (omega (arith, remainder-small (line +ℤ f) 1000000 (omega arith)))

      part-k-small : nat_abs (part *ℤ (pos 4 *ℤ half)) ≤ 999999 * 4000000
      part-k-small = abs_product part (pos 4 *ℤ half) part_small k-small

      pub part-k-fits : SFits w64 (part *ℤ (pos 4 *ℤ half))
      part-k-fits = fits64 (part *ℤ (pos 4 *ℤ half)) (omega (arith, part-k-small))

      module _ {rest : ℤ} (e-rest : rest ≡ pos (remainder (change *ℤ (u *ℤ u)) (nat_abs (pos 4 *ℤ half)))) where
        rest_below : nat_abs rest < nat_abs (pos 4 *ℤ half)
        rest_below = rw e-rest (remainder-small (change *ℤ (u *ℤ u)) (nat_abs (pos 4 *ℤ half)) (above_zero (pos 4 *ℤ half) k-low))

        pub m-fits : SFits w64 (part *ℤ (pos 4 *ℤ half) +ℤ rest)
        m-fits = fits64 (part *ℤ (pos 4 *ℤ half) +ℤ rest) (omega (arith, abs_add (part *ℤ (pos 4 *ℤ half)) rest, part-k-small, rest_below, k-small))

        module _ {q : ℤ} (e-q : q ≡ floor (line +ℤ f) 1000000) where
          pub height-parts : RoundParts q (part *ℤ (pos 4 *ℤ half) +ℤ rest) (pos 4 *ℤ half *ℤ pos 1000000)
          height-parts =
              let k = nat_abs (pos 4 *ℤ half) in
              let a = remainder (line +ℤ f) 1000000 in
              let b = remainder (change *ℤ (u *ℤ u)) k in
              let i : a < 1000000 = remainder-small (line +ℤ f) 1000000 (omega arith) in
              let j : b < k = remainder-small (change *ℤ (u *ℤ u)) k (above_zero (pos 4 *ℤ half) k-low) in
              let m : a * k ≤ 999999 * k = mul-le-mul_right k (omega arith) in
              rw (e-part, e-rest, divisor (pos 4 *ℤ half) k-low) (small-parts
              (le! (nat 0) (nat a ⊗ nat k ⊕ nat b) (omega arith))
              (lt! (nat a ⊗ nat k ⊕ nat b) (nat k ⊗ nat 1000000) (omega arith))
              (let n : nat_abs q ≤ nat_abs (line +ℤ f) = rw e-q (floor-small (line +ℤ f) 1000000) in omega (arith, top_small)))

          -- the exact numerator over 4h × 10⁶
          exact : q *ℤ (pos 4 *ℤ half *ℤ pos 1000000) +ℤ (part *ℤ (pos 4 *ℤ half) +ℤ rest) ≡ line *ℤ (pos 4 *ℤ half) +ℤ change *ℤ (u *ℤ u)
          exact =
              ring (q ∷ (pos 4 *ℤ half) ∷ part ∷ rest ∷ []) ($ 0 :* ($ 1 :* # 1000000) :+ ($ 2 :* $ 1 :+ $ 3)) (($ 0 :* # 1000000 :+ $ 2) :* $ 1 :+ $ 3) tt
              ∙ ap (λ (x : ℤ). x *ℤ (pos 4 *ℤ half) +ℤ rest) (parts-sum (line +ℤ f) (pos 1000000) (lt! (nat 0) (nat 1000000) (omega arith)) e-q e-part)
              ∙ ring (line ∷ f ∷ (pos 4 *ℤ half) ∷ rest ∷ []) (($ 0 :+ $ 1) :* $ 2 :+ $ 3) ($ 0 :* $ 2 :+ ($ 1 :* $ 2 :+ $ 3)) tt
              ∙ ap (λ (x : ℤ). line *ℤ (pos 4 *ℤ half) +ℤ x) (parts-sum (change *ℤ (u *ℤ u)) (pos 4 *ℤ half) k-low e-f e-rest)

          pub height-answer : {r : ℤ} → r ≡ round (q *ℤ (pos 4 *ℤ half *ℤ pos 1000000) +ℤ (part *ℤ (pos 4 *ℤ half) +ℤ rest)) (nat_abs (pos 4 *ℤ half *ℤ pos 1000000))
              → r ≡ rounded ((line *ℤ pos (4 * nat_abs half) +ℤ change *ℤ (u *ℤ u)) ÷ (4 * nat_abs half * 1000000))
          unfolding rounded
          height-answer e = e ∙ ap₂ round
              (exact ∙ ap (λ (x : ℤ). line *ℤ x +ℤ change *ℤ (u *ℤ u)) (ap (λ (x : ℤ). pos 4 *ℤ x) (divisor half p.half-low)))
              (abs_mul (pos 4 *ℤ half) (pos 1000000) ∙ ap (λ (x : ℕ). x * 1000000) (abs_mul (pos 4) half))
