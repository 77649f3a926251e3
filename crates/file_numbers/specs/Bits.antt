-- The significant bits of a number and the bytes of its shortest form, at every width. Assumes nothing.
use Rattle.std.specs.Prelude.{◌≡◌, refl, ℕ, zero, suc, ◌+◌, ◌*◌, ◌/◌, ◌^◌, ◌≤◌, ◌<◌}
use Rattle.std.proofs.Common.{sym, ap, ◌∙◌, subst, not-suc-le-zero, pow-suc, add-one, arith, shr_lt, pow-add}
use Rattle.std.specs.Int.Count.{count_leading_zeros, leading_unique}
use Rattle.std.proofs.lemmas.Nat.{leading_top}
use Rattle.std.proofs.Math.Arith.{half_le, lt-one}
use Rattle.file_numbers.specs.Number.{bits_in, bits, byte_count}

bits_zero : (d : ℕ) → bits_in d 0 ≡ 0
unfolding bits_in
bits_zero zero = refl
bits_zero (suc d) = refl

bits_split : (k d v : ℕ) → v < 2 ^ k → v ≤ d → count_leading_zeros k v + bits_in d v ≡ k
unfolding count_leading_zeros bits_in
bits_split zero d v h l = ap (λ (x : ℕ). 0 + bits_in d x) (lt-one h) ∙ ap (λ (x : ℕ). 0 + x) (bits_zero d)
bits_split (suc k) d zero h l = omega (arith, bits_zero d)
bits_split (suc k) zero (suc n) h l = absurd (not-suc-le-zero l)
bits_split (suc k) (suc d) (suc n) h l =
    let ih = bits_split k d (suc n / 2) (shr_lt k 1 (subst (λ (x : ℕ). suc n < 2 ^ x) (sym (add-one k)) h)) (half_le l) in
    omega arith

-- at every width k that holds v, the leading zeros of v and its significant bits make k
pub bits_leading : (k v : ℕ) → v < 2 ^ k → count_leading_zeros k v + bits v ≡ k
unfolding bits
bits_leading k v h = bits_split k v v h (omega arith)

-- a number below 2 ^ 7n takes at most n bytes
pub byte_count_most : (n v : ℕ) → 1 ≤ n → v < 2 ^ (7 * n) → byte_count v ≤ n
unfolding byte_count
byte_count_most n v p h = let b = bits_leading (7 * n) v h in omega arith

-- 2 ^ j is the highest power of two in v: v has j + 1 significant bits
bits_top : (v j : ℕ) → 2 ^ j ≤ v → v < 2 ^ suc j → bits v ≡ suc j
bits_top v j lo hi =
    let p : 2 ^ suc j ≡ 2 ^ j * 2 = pow-suc 2 j in
    let z : 0 ≡ count_leading_zeros (suc j) v = leading_unique (suc j) v 0 (suc j) (omega arith) hi (omega arith) in
    let s = bits_leading (suc j) v hi in
    omega arith

pub grows : (v : ℕ) → v < 2 ^ v
grows zero = omega arith
grows (suc n) = let ih = grows n in let p : 2 ^ suc n ≡ 2 ^ n * 2 = pow-suc 2 n in omega arith

-- a group of seven bits below makes seven more significant bits
bits_seven : (v : ℕ) → 128 ≤ v → bits v ≡ bits (v / 128) + 7
bits_seven v h =
    let a : ℕ = v / 128 in
    let t = leading_top a a (omega arith) (grows a) in
    let j : ℕ = t.0 in
    let low : bits a ≡ suc j = bits_top a j t.2 t.3 in
    let p : 2 ^ (j + 7) ≡ 2 ^ j * 128 = pow-add 2 j 7 in
    let q : 2 ^ (suc j + 7) ≡ 2 ^ suc j * 128 = pow-add 2 (suc j) 7 in
    let lo = t.2 in
    let hi = t.3 in
    let top : bits v ≡ suc (j + 7) = bits_top v (j + 7) (omega arith) (subst (λ (n : ℕ). v < n) (sym (ap (λ (n : ℕ). 2 ^ n) (same j) ∙ q)) (omega arith)) in
    omega arith
  where
    same : (j : ℕ) → suc (j + 7) ≡ suc j + 7
    same j = omega arith

-- every number takes a byte
pub byte_count_some : (v : ℕ) → 1 ≤ byte_count v
unfolding byte_count
byte_count_some v = omega arith

-- a number below 128 takes one byte
pub byte_count_one : (v : ℕ) → v < 128 → byte_count v ≡ 1
unfolding byte_count
byte_count_one v h = omega (arith, bits_leading 7 v h)

-- any other takes one more than what is above its lowest group
pub byte_count_more : (v : ℕ) → 128 ≤ v → byte_count v ≡ suc (byte_count (v / 128))
unfolding byte_count
byte_count_more v h = omega (arith, bits_seven v h, positive (v / 128) (omega arith))
  where
    positive : (a : ℕ) → 1 ≤ a → 1 ≤ bits a
    positive a p = let t = leading_top a a p (grows a) in omega (arith, bits_top a t.0 t.2 t.3)
