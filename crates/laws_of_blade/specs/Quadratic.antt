-- The chord of a quadratic: how far the line between two values near its ends is off in between.
use Rattle.std.specs.Prelude.{◌≡◌, ℕ, ◌+◌, ◌*◌, ◌-◌, ◌≤◌, ℤ, pos, ◌+ℤ◌, ◌-ℤ◌, ◌*ℤ◌, nat_abs}
use Rattle.std.proofs.Common.{arith, mul-le-mul_left}
use Rattle.std.proofs.Math.Decide.{dec_le}
use Rattle.integers.specs.Bridge.{int, nat, ◌⊕◌, ◌⊖◌, ◌⊗◌, eq!, eq?, abs_add, abs_mul}

four_sq : (s t : ℕ) → 4 * (s * t) ≤ (s + t) * (s + t)
four_sq s t = go (dec_le s t)
  where
    le : (s t : ℕ) → s ≤ t → 4 * (s * t) ≤ (s + t) * (s + t)
    le s t h = let k : ℕ = t - s in let e : t ≡ s + k = omega arith in rw e (omega arith)

    go : Dec (s ≤ t) → 4 * (s * t) ≤ (s + t) * (s + t)
    go (yes h) = le s t h
    go (no h) = omega (arith, le t s (omega arith))

module _ (s t d D : ℕ) (p q Ea Ex Eb W : ℤ) where
  -- s = x − a, t = b − x; E is the exact edge times D
  split : (pos t *ℤ Ea +ℤ pos s *ℤ Eb) -ℤ pos d *ℤ Ex ≡ W
      → (pos t *ℤ p +ℤ pos s *ℤ q) *ℤ pos D -ℤ pos d *ℤ Ex
      ≡ (pos t *ℤ (p *ℤ pos D -ℤ Ea) +ℤ pos s *ℤ (q *ℤ pos D -ℤ Eb)) +ℤ W
  split h = eq! ((nat t ⊗ int p ⊕ nat s ⊗ int q) ⊗ nat D ⊖ nat d ⊗ int Ex)
      ((nat t ⊗ (int p ⊗ nat D ⊖ int Ea) ⊕ nat s ⊗ (int q ⊗ nat D ⊖ int Eb)) ⊕ int W)
      (omega (arith, eq? ((nat t ⊗ int Ea ⊕ nat s ⊗ int Eb) ⊖ nat d ⊗ int Ex) (int W) h))

module _ (s t D M : ℕ) (p q Ea Ex Eb C : ℤ) where
  pub chord : (pos t *ℤ Ea +ℤ pos s *ℤ Eb) -ℤ pos (s + t) *ℤ Ex ≡ C *ℤ pos (s * t * (s + t))
      → nat_abs (p *ℤ pos D -ℤ Ea) ≤ M → nat_abs (q *ℤ pos D -ℤ Eb) ≤ M
      → 4 * nat_abs ((pos t *ℤ p +ℤ pos s *ℤ q) *ℤ pos D -ℤ pos (s + t) *ℤ Ex) ≤ 4 * (s + t) * M + nat_abs C * (s + t) * (s + t) * (s + t)
  chord h u v =
      let eu = p *ℤ pos D -ℤ Ea in
      let ev = q *ℤ pos D -ℤ Eb in
      let ew = C *ℤ pos (s * t * (s + t)) in
      rw (split s t (s + t) D p q Ea Ex Eb ew h)
      (omega (
        arith,
        abs_add (pos t *ℤ eu +ℤ pos s *ℤ ev) ew,
        abs_add (pos t *ℤ eu) (pos s *ℤ ev),
        abs_mul (pos t) eu,
        abs_mul (pos s) ev,
        abs_mul C (pos (s * t * (s + t))),
        mul-le-mul_left t u,
        mul-le-mul_left s v,
        mul-le-mul_left (nat_abs C * (s + t)) (four_sq s t),
      ))
