-- A printed height, the sum of a rounded height and a part of a rounded drop, is at most 1 off the exact one.
use Rattle.std.specs.Prelude.{◌≡◌, [], ◌∷◌, ℕ, ◌*◌, ◌≤◌, ◌<◌, ℤ, pos, ◌+ℤ◌, ◌-ℤ◌, ◌*ℤ◌, nat_abs}
use Rattle.std.proofs.Common.{ap, arith, mul-le-mul_left}
use Rattle.integers.specs.Bridge.{abs_add, abs_mul}
use Rattle.integers.specs.Ring.{◌:+◌, ◌:-◌, ◌:*◌, #, ring, $}
use Rattle.integers.specs.Rounding.{round, rounded}
use Rattle.integers.proofs.RoundingLaws.{round-near}
use Rattle.integers.specs.Fraction.{Frac, ◌÷◌, whole, ◌+ᶠ◌, ◌-ᶠ◌, ◌×ᶠ◌, size, ◌≤ᶠ◌}
use Rattle.integers.specs.Values.{positive-mul}
use Rattle.road.specs.File.{Road}
use Rattle.road.specs.Exact.{Side, height, edge_drop}
use Rattle.laws_of_blade.specs.Surface.{surface, printed_surface}
use Rattle.laws_of_blade.specs.Chord.{out⁺}

-- two numbers, each at most half a unit off
sum_near : (h e : ℤ) (f g : Frac) (k m : ℕ) → k ≤ m → 0 < m → 0 < f.den → 0 < g.den
    → nat_abs (pos (2 * f.den) *ℤ h -ℤ pos 2 *ℤ f.num) ≤ f.den → nat_abs (pos (2 * g.den) *ℤ e -ℤ pos 2 *ℤ g.num) ≤ g.den
    → size ((whole h +ᶠ whole e ×ᶠ (pos k ÷ m)) -ᶠ (f +ᶠ g ×ᶠ (pos k ÷ m))) ≤ᶠ whole (pos 1)
sum_near h e f g k m part pm pf pg near-h near-e =
    let c = f.den in
    let d = g.den in
    let u = pos (2 * c) *ℤ h -ℤ pos 2 *ℤ f.num in
    let v = pos (2 * d) *ℤ e -ℤ pos 2 *ℤ g.num in
    let x = (h *ℤ pos (1 * m) +ℤ e *ℤ pos k *ℤ pos 1) *ℤ pos (c * (d * m)) -ℤ (f.num *ℤ pos (d * m) +ℤ g.num *ℤ pos k *ℤ pos c) *ℤ pos (1 * (1 * m)) in
    let twice : pos 2 *ℤ x ≡ pos (m * m * d) *ℤ u +ℤ pos (m * k * c) *ℤ v =
    ring (h ∷ e ∷ f.num ∷ g.num ∷ pos c ∷ pos d ∷ pos k ∷ pos m ∷ [])
    (# 2 :* (($ 0 :* (# 1 :* $ 7) :+ $ 1 :* $ 6 :* # 1) :* ($ 4 :* ($ 5 :* $ 7)) :- ($ 2 :* ($ 5 :* $ 7) :+ $ 3 :* $ 6 :* $ 4) :* (# 1 :* (# 1 :* $ 7))))
    (($ 7 :* $ 7 :* $ 5) :* (# 2 :* $ 4 :* $ 0 :- # 2 :* $ 2) :+ ($ 7 :* $ 6 :* $ 4) :* (# 2 :* $ 5 :* $ 1 :- # 2 :* $ 3)) tt in
    out⁺ (positive-mul (1 * (1 * m)) (c * (d * m)) (omega arith) (positive-mul c (d * m) pf (positive-mul d m pg pm))) (omega arith)
    (omega (
      arith,
      abs_mul (pos 2) x,
      ap nat_abs twice,
      abs_add (pos (m * m * d) *ℤ u) (pos (m * k * c) *ℤ v),
      abs_mul (pos (m * m * d)) u,
      abs_mul (pos (m * k * c)) v,
      mul-le-mul_left (m * m * d) near-h,
      mul-le-mul_left (m * k * c) near-e,
      mul-le-mul_left (m * c * d) part,
    ))

pub printed-near : (k m : ℕ) → k ≤ m → 0 < m → (d : Side) (r : Road) (s : ℕ) → 0 < (height r s).den → 0 < (edge_drop d r s).den
    → size (printed_surface k m d r s -ᶠ surface k m d r s) ≤ᶠ whole (pos 1)
unfolding printed_surface surface rounded
printed-near k m part pm d r s h e =
    sum_near (round (height r s).num (height r s).den) (round (edge_drop d r s).num (edge_drop d r s).den) (height r s) (edge_drop d r s) k m part pm h e
    (round-near (height r s).num (height r s).den h) (round-near (edge_drop d r s).num (edge_drop d r s).den e)
