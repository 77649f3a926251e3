-- The bound of demand 3, on a straight part and in a curve, for printed heights p / m and q / m.
use Rattle.std.specs.Prelude.{◌≡◌, ℤ, ◌*ℤ◌, nat_abs}
use Prim.Native.Nat.{ℕ, ◌+◌, ◌*◌, ◌-◌, ◌≤◌, ◌<◌}
use Rattle.std.proofs.Common.{arith, mul-le-mul_left}
use Rattle.std.proofs.Math.IntN.{pos}
use Rattle.integers.specs.Bridge.{abs_mul}
use Rattle.integers.specs.Fraction.{◌÷◌, whole, ◌+ᶠ◌, ◌-ᶠ◌, ◌×ᶠ◌, size, ◌≤ᶠ◌}
use Rattle.integers.specs.Values.{positive-mul}
use Rattle.laws_of_blade.specs.Surface.{straight}
use Rattle.laws_of_blade.specs.Chord.{ChordAbove, straight-off, out⁺}

-- the two bounds over whole numbers; n is the distance of the rows, g is m³, and w the denominator of the line between the printed heights
flat : (M d n D k g w : ℕ) → n ≡ d → w ≡ g * n → 4 * M ≤ g * (4 * d * D + 0 * k * d * d * d) → M * 1 ≤ 1 * (w * D)
flat M d n D k g w e f l = rw (f, e) (omega arith)

curved : (d n h k K M g w : ℕ) → n ≡ d → w ≡ g * n → 4 * M ≤ g * (4 * d * (1000000000000 * (4 * h * 1000000) * k) + K * 1000000000000 * k * d * d * d)
    → M * (1 * (1 * 1000000 * (8 * (2 * h)))) ≤ (1 * (1 * 1000000 * (8 * (2 * h))) + n * n * K * 1 * 1) * (w * (1000000000000 * (4 * h * 1000000) * k))
curved d n h k K M g w e f l = rw (f, e) (omega (arith, mul-le-mul_left (4000000 * h) l))

module _ (m a s t : ℕ) (above : 0 < m) (long : 0 < s + t) where
  -- the part from a to a + s + t
  run : a + s + t - a ≡ s + t
  run = omega arith

  -- the denominator of the line between the printed heights
  abbrev width : ℕ
  width = m * (m * m * (a + s + t - a))

  cube : width ≡ m * m * m * (a + s + t - a)
  cube = omega arith

  pub width_positive : 0 < width
  width_positive = positive-mul m (m * m * (a + s + t - a)) above (positive-mul (m * m) (a + s + t - a) (positive-mul m m above above) (omega arith))

  module _ (N : ℕ → ℤ) (p q : ℤ) where
    pub straight-bound : (D k : ℕ) → 0 < D → ChordAbove N a s t (pos 0 *ℤ pos k)
        → size (p ÷ m -ᶠ N a ÷ D) ≤ᶠ whole (pos 1) → size (q ÷ m -ᶠ N (a + s + t) ÷ D) ≤ᶠ whole (pos 1)
        → size (straight (p ÷ m) (q ÷ m) a (a + s + t) (a + s) -ᶠ N (a + s) ÷ D) ≤ᶠ whole (pos 1) +ᶠ whole (pos 0)
    unfolding straight
    straight-bound D k p_d h hp hq =
        out⁺ (positive-mul width D width_positive p_d) (omega arith)
        (flat _ (s + t) (a + s + t - a) D k (m * m * m) width run cube (straight-off N m D a s t p q (pos 0 *ℤ pos k) h hp hq))

    pub curve-bound : (h k : ℕ) (c : ℤ) → 0 < h → 0 < k → ChordAbove N a s t (c *ℤ pos 1000000000000 *ℤ pos k)
        → size (p ÷ m -ᶠ N a ÷ (1000000000000 * (4 * h * 1000000) * k)) ≤ᶠ whole (pos 1) → size (q ÷ m -ᶠ N (a + s + t) ÷ (1000000000000 * (4 * h * 1000000) * k)) ≤ᶠ whole (pos 1)
        → size (straight (p ÷ m) (q ÷ m) a (a + s + t) (a + s) -ᶠ N (a + s) ÷ (1000000000000 * (4 * h * 1000000) * k))
        ≤ᶠ whole (pos 1) +ᶠ whole (pos ((a + s + t - a) * (a + s + t - a))) ×ᶠ size (c ÷ 1000000) ×ᶠ (pos 1 ÷ (8 * (2 * h)))
    unfolding straight
    curve-bound h k c ph pk b hp hq =
        let D : ℕ = 1000000000000 * (4 * h * 1000000) * k in
        let p_d : 0 < D = positive-mul (1000000000000 * (4 * h * 1000000)) k (omega arith) pk in
        out⁺ (positive-mul width D width_positive p_d) (omega arith)
        (curved (s + t) (a + s + t - a) h k (nat_abs c) _ (m * m * m) width run cube
        (rw (abs_mul (c *ℤ pos 1000000000000) (pos k), abs_mul c (pos 1000000000000)) at (straight-off N m D a s t p q (c *ℤ pos 1000000000000 *ℤ pos k) b hp hq)))
