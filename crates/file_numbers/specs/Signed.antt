-- Signed values and the numbers that they are written as. Assumes nothing.
use Rattle.std.specs.Prelude.{◌≡◌, refl, ℕ, zero, suc, ◌+◌, ◌*◌, ◌/◌, ◌%◌, ℤ, pos, negsuc}
use Rattle.std.proofs.Common.{ap, ◌∙◌, arith}
use Rattle.file_numbers.specs.Number.{written, by_parity, signed_of}

-- an even number is written for its half
pub even_is : (n : ℕ) → n % 2 ≡ 0 → signed_of n ≡ pos (n / 2)
unfolding signed_of
even_is n e = ap (λ (x : ℕ). by_parity x (n / 2)) e

-- an odd number is written for −1 minus its half
pub odd_is : (n : ℕ) → n % 2 ≡ 1 → signed_of n ≡ negsuc (n / 2)
unfolding signed_of
odd_is n e = ap (λ (x : ℕ). by_parity x (n / 2)) e

-- the signed value that is read is the one that was written
pub written_read : (v : ℤ) → signed_of (written v) ≡ v
written_read (pos n) = let h : 2 * n / 2 ≡ n = omega arith in even_is (2 * n) (omega arith) ∙ ap pos h
written_read (negsuc n) = let h : (2 * n + 1) / 2 ≡ n = omega arith in odd_is (2 * n + 1) (omega arith) ∙ ap negsuc h

-- the number that is written is the one that was read
pub read-written : (n : ℕ) → written (signed_of n) ≡ n
read-written n = go (n % 2) refl
  where
    go : (r : ℕ) → n % 2 ≡ r → written (signed_of n) ≡ n
    go zero e = let h : 2 * (n / 2) ≡ n = omega arith in ap written (even_is n e) ∙ h
    go (suc r) e = let h : 2 * (n / 2) + 1 ≡ n = omega arith in ap written (odd_is n (omega arith)) ∙ h
