-- The line between two printed heights: how far it is off, over a part on which the exact height is one quadratic over one denominator.
use Rattle.std.specs.Prelude.{◌≡◌, refl, [], ◌∷◌, ℕ, ◌+◌, ◌*◌, ◌-◌, ◌≤◌, ◌<◌, ℤ, pos, ◌+ℤ◌, ◌-ℤ◌, ◌*ℤ◌, nat_abs}
use Rattle.std.proofs.Common.{ap, ap₂, ◌∙◌, arith, mul-le-mul_left, leb→le, le→leb}
use Rattle.integers.specs.Bridge.{abs_mul}
use Rattle.integers.specs.Ring.{◌:+◌, ◌:-◌, ◌:*◌, #, ring, $}
use Rattle.integers.specs.Fraction.{◌÷◌, whole, ◌-ᶠ◌, size, ◌≤ᶠ◌}
use Rattle.laws_of_pieces.specs.Joints.{ahead_by}
use Rattle.laws_of_blade.specs.Surface.{straight}
use Rattle.laws_of_blade.specs.Quadratic.{chord}

-- what the chord from a to a + s + t lies above N at a + s
unfoldable pub ChordAbove : (ℕ → ℤ) → (a s t : ℕ) → ℤ → Type 0
ChordAbove N a s t C = (pos t *ℤ N a +ℤ pos s *ℤ N (a + s + t)) -ℤ pos (s + t) *ℤ N (a + s) ≡ C *ℤ pos (s * t * (s + t))

-- of a sum of fractions, whose denominators stay the same
pub chord_above_sum : (H R : ℕ → ℤ) (d k : ℕ) (a s t : ℕ) (C : ℤ) → ChordAbove H a s t C → ChordAbove R a s t (pos 0) → ChordAbove (λ x. H x *ℤ pos k +ℤ R x *ℤ pos d) a s t (C *ℤ pos k)
unfolding ChordAbove
chord_above_sum H R d k a s t C h g =
    let P = pos (s * t * (s + t)) in
    ring (H a ∷ H (a + s + t) ∷ H (a + s) ∷ R a ∷ R (a + s + t) ∷ R (a + s) ∷ pos s ∷ pos t ∷ pos d ∷ pos k ∷ [])
    (($ 7 :* ($ 0 :* $ 9 :+ $ 3 :* $ 8) :+ $ 6 :* ($ 1 :* $ 9 :+ $ 4 :* $ 8)) :- ($ 6 :+ $ 7) :* ($ 2 :* $ 9 :+ $ 5 :* $ 8))
    ((($ 7 :* $ 0 :+ $ 6 :* $ 1) :- ($ 6 :+ $ 7) :* $ 2) :* $ 9 :+ (($ 7 :* $ 3 :+ $ 6 :* $ 4) :- ($ 6 :+ $ 7) :* $ 5) :* $ 8) tt
    ∙ ap₂ (λ (x y : ℤ). x *ℤ pos k +ℤ y *ℤ pos d) h g
    ∙ ring (C ∷ P ∷ pos k ∷ pos d ∷ []) ($ 0 :* $ 1 :* $ 2 :+ # 0 :* $ 1 :* $ 3) ($ 0 :* $ 2 :* $ 1) tt

-- orders of fractions that are not negative
out⁻ : {a b c d : ℕ} → (pos a ÷ b) ≤ᶠ (pos c ÷ d) → a * d ≤ c * b
out⁻ {a} {b} {c} {d} h = leb→le (a * d) (c * b) h.out.le

pub out⁺ : {a b c d : ℕ} → 0 < b → 0 < d → a * d ≤ c * b → (pos a ÷ b) ≤ᶠ (pos c ÷ d)
out⁺ {a} {b} {c} {d} p q h = record { defined = p; other-defined = q; out = record { le = le→leb (a * d) (c * b) h } }

-- a printed height p / m and an exact one n / D, over one denominator
near : (p n : ℤ) (m D : ℕ) → size (p ÷ m -ᶠ n ÷ D) ≤ᶠ whole (pos 1) → nat_abs (p *ℤ pos D -ℤ n *ℤ pos m) ≤ m * D
near p n m D h =
    let l : nat_abs (p *ℤ pos D -ℤ n *ℤ pos m) * 1 ≤ 1 * (m * D) = out⁻ h in
    omega arith

-- a bound times m², where its terms have m already
scale : (m n D X E K L : ℕ) → E ≡ m * m * X → L ≡ K * m → 4 * X ≤ 4 * n * (m * D) + L * n * n * n → 4 * E ≤ m * m * m * (4 * n * D + K * n * n * n)
scale m n D X E K L e f h = rw (e) (let g : 4 * X ≤ 4 * n * (m * D) + K * m * n * n * n = rw f at h in omega (arith, mul-le-mul_left (m * m) g))

-- the numerator of the line between p / m and q / m, less the exact one
pub straight-off : (N : ℕ → ℤ) (m D a s t : ℕ) (p q C : ℤ) → ChordAbove N a s t C
    → size (p ÷ m -ᶠ N a ÷ D) ≤ᶠ whole (pos 1) → size (q ÷ m -ᶠ N (a + s + t) ÷ D) ≤ᶠ whole (pos 1)
    → 4 * nat_abs (straight (p ÷ m) (q ÷ m) a (a + s + t) (a + s) -ᶠ N (a + s) ÷ D).num ≤ m * m * m * (4 * (s + t) * D + nat_abs C * (s + t) * (s + t) * (s + t))
unfolding ChordAbove straight
straight-off N m D a s t p q C h hp hq =
    let d : a + s + t - a ≡ s + t = omega arith in
    let off = (pos t *ℤ p +ℤ pos s *ℤ q) *ℤ pos D -ℤ pos (s + t) *ℤ (N (a + s) *ℤ pos m) in
    rw (d, ahead_by a (a + s) s refl) (rw same
    (scale m (s + t) D (nat_abs off) (nat_abs (pos (m * m) *ℤ off)) (nat_abs C) (nat_abs (C *ℤ pos m)) (abs_mul (pos (m * m)) off) (abs_mul C (pos m))
    (chord s t D (m * D) p q (N a *ℤ pos m) (N (a + s) *ℤ pos m) (N (a + s + t) *ℤ pos m) (C *ℤ pos m) scaled (near p (N a) m D hp) (near q (N (a + s + t)) m D hq))))
  where
    scaled : (pos t *ℤ (N a *ℤ pos m) +ℤ pos s *ℤ (N (a + s + t) *ℤ pos m)) -ℤ pos (s + t) *ℤ (N (a + s) *ℤ pos m) ≡ (C *ℤ pos m) *ℤ pos (s * t * (s + t))
    scaled =
        ring (N a ∷ N (a + s) ∷ N (a + s + t) ∷ pos s ∷ pos t ∷ pos m ∷ [])
        (($ 4 :* ($ 0 :* $ 5) :+ $ 3 :* ($ 2 :* $ 5)) :- ($ 3 :+ $ 4) :* ($ 1 :* $ 5))
        ((($ 4 :* $ 0 :+ $ 3 :* $ 2) :- ($ 3 :+ $ 4) :* $ 1) :* $ 5) tt
        ∙ ap (λ (x : ℤ). x *ℤ pos m) h
        ∙ ring (C ∷ pos (s * t * (s + t)) ∷ pos m ∷ []) ($ 0 :* $ 1 :* $ 2) ($ 0 :* $ 2 :* $ 1) tt

    same : (p *ℤ pos (m * m * (s + t)) +ℤ (q *ℤ pos m -ℤ p *ℤ pos m) *ℤ pos s *ℤ pos m) *ℤ pos D -ℤ N (a + s) *ℤ pos (m * (m * m * (s + t)))
        ≡ pos (m * m) *ℤ ((pos t *ℤ p +ℤ pos s *ℤ q) *ℤ pos D -ℤ pos (s + t) *ℤ (N (a + s) *ℤ pos m))
    same = ring (p ∷ q ∷ pos s ∷ pos t ∷ pos D ∷ N (a + s) ∷ pos m ∷ [])
        (($ 0 :* ($ 6 :* $ 6 :* ($ 2 :+ $ 3)) :+ ($ 1 :* $ 6 :- $ 0 :* $ 6) :* $ 2 :* $ 6) :* $ 4 :- $ 5 :* ($ 6 :* ($ 6 :* $ 6 :* ($ 2 :+ $ 3))))
        (($ 6 :* $ 6) :* (($ 3 :* $ 0 :+ $ 2 :* $ 1) :* $ 4 :- ($ 2 :+ $ 3) :* ($ 5 :* $ 6))) tt
