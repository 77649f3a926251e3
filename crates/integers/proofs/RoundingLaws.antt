-- The laws of division downwards and of rounding, for all widths.
--
--   floor, remainder   floor-sum, remainder-small; floor_of, remainder_of: no other two are so
--   Nearest            nearest, rounding is so; nearest_is, nothing else is
--   to use rounding    round-near (at most half a unit off), round-scale, rounded-value (the fraction's form does not matter), round-from, round-upto,
--                      round-size (bounds); all of them are true whichever way an exact half goes
--   round-opposite     the opposite of a number is rounded to the opposite, what request A.2 is for; rounded-opposite, of a fraction
--   round-half         the law of what an exact half does, for the function `round_parts` alone; size_less, size-more, for `nearest_parts` alone
--
-- Another rule for an exact half changes the two proofs of `Nearest`, `round-opposite`, the proof of `round-scale`, `round-half`, `size_less` and
-- `size-more`. The laws after `round-scale` rest on it and on `round-near` alone, and so does Width but for what it says of the code's functions.
use Rattle.std.specs.Prelude.{◌≡◌, refl, Bool, true, false, cond, [], ◌∷◌, ℕ, zero, suc, ◌+◌, ◌*◌, ◌-◌, ◌≤◌, ◌<◌, ℤ, pos, negsuc, ◌+ℤ◌, ◌-ℤ◌, ◌*ℤ◌, neg_ℤ, nat_abs, ◌≤ℤ◌, ◌<ℤ◌}
use Rattle.std.proofs.Common.{sym, ap, ap₂, ◌∙◌, arith, mul-le-mul_left, mul_comm, le_antisymm}
use Rattle.std.proofs.Math.Decide.{dec_lt}
use Rattle.std.proofs.Math.IntN.{neg_ℤ-neg_ℤ}
use Rattle.std.specs.Int.Signed.{lt_z}
use Rattle.integers.specs.Bridge.{int, nat, ◌⊕◌, ◌⊖◌, ◌⊗◌, neg, eq!, eq?, le!, le?, lt?, lt_taken, lt_left, abs!, abs?, abs_parts, abs_neg, up, dn}
use Rattle.integers.specs.Ring.{◌:*◌, ring, $}
use Rattle.integers.specs.Fraction.{Frac, opposite, ◌≈ᶠ◌}
use Rattle.integers.specs.Rounding.{Nearest, Parts, cancel, floor, floor-parts, nearest_size, negative, no_rest, parts-above, parts-upto, remainder, round, rounded, size-near, size_is}

pub floor_of : {n : ℤ} {d : ℕ} {q m : ℤ} → Parts n d q m → q ≡ floor n d
floor_of {n} {d} {q} a = let f = floor n d in let b = floor-parts n d (parts-above a) in eq! (int q) (int f) (le_antisymm (parts-upto a b) (parts-upto b a))

pub remainder_of : {n : ℤ} {d : ℕ} {q m : ℤ} → Parts n d q m → m ≡ pos (remainder n d)
remainder_of {n} {d} {q} {m} a =
    let f = floor n d in
    let e = ap (λ (x : ℤ). x *ℤ pos d +ℤ m) (sym (floor_of a)) ∙ sym a.sum ∙ (floor-parts n d (parts-above a)).sum in
    eq! (int m) (nat (remainder n d)) (omega (arith, eq? (int f ⊗ nat d ⊕ int m) (int f ⊗ nat d ⊕ nat (remainder n d)) e))

pub floor-sum : (n : ℤ) (d : ℕ) → 0 < d → n ≡ floor n d *ℤ pos d +ℤ pos (remainder n d)
floor-sum n d p = (floor-parts n d p).sum

pub remainder-small : (n : ℤ) (d : ℕ) → 0 < d → remainder n d < d
remainder-small n d p = omega (arith, lt? (nat (remainder n d)) (nat d) (floor-parts n d p).below)

-- at most half a unit off, x being twice as much over d, and above a / d where it is just that
size_of : (a d q : ℕ) {x : ℕ} → x ≡ (2 * d * q - 2 * a) + (2 * a - 2 * d * q) → x ≤ d → (x ≡ d → a < d * q) → q ≡ nearest_size a d
size_of a d q {x} e near away = size_is a d q (omega arith) (go (dec_lt (2 * a) (2 * d * q + d)))
  where
    go : Dec (2 * a < 2 * d * q + d) → 2 * a < 2 * d * q + d
    go (yes h) = h
    go (no h) = absurd (omega (arith, away (omega arith)))

size_scale : (k a d : ℕ) → 0 < k → 0 < d → nearest_size a d ≡ nearest_size (k * a) (k * d)
size_scale k a d pk pd =
    let h = size-near a d pd in
    size_is (k * a) (k * d) (nearest_size a d) (omega (arith, mul-le-mul_left k h.0)) (omega (arith, mul-le-mul_left k h.1))

size_zero : (d : ℕ) → nearest_size 0 d ≡ 0
size_zero zero = refl
size_zero (suc d) = sym (size_is 0 (suc d) 0 (omega arith) (omega arith))

pub nearest : (n : ℤ) (d : ℕ) → 0 < d → Nearest n d (round n d)
unfolding round
nearest (pos a) d p =
    let q = nearest_size a d in
    let h = size-near a d p in
    let s = abs_parts (nat (2 * d) ⊗ nat q ⊖ nat 2 ⊗ nat a) in
    record { near = omega arith; away = λ e. omega arith }
nearest (negsuc a) d p =
    let q = nearest_size (suc a) d in
    let h = size-near (suc a) d p in
    let s = abs_parts (nat (2 * d) ⊗ neg (nat q) ⊖ nat 2 ⊗ int (negsuc a)) in
    record { near = omega arith; away = λ e. omega (arith, ap (λ (x : ℕ). d * x) (abs_neg q)) }

-- it is the only one
pub nearest_is : {n : ℤ} {d : ℕ} {r : ℤ} → Nearest n d r → r ≡ round n d
unfolding round
nearest_is {n = pos a} {d} {r = pos q} h =
    ap pos (size_of a d q (omega (arith, abs_parts (nat (2 * d) ⊗ nat q ⊖ nat 2 ⊗ nat a))) h.near h.away)
nearest_is {n = negsuc a} {d} {r = negsuc q} h =
    ap (λ (q : ℕ). neg_ℤ (pos q)) (size_of (suc a) d (suc q) (omega (arith, abs_parts (nat (2 * d) ⊗ int (negsuc q) ⊖ nat 2 ⊗ int (negsuc a)))) h.near h.away)
nearest_is {n = negsuc a} {d} {r = pos zero} h =
    ap (λ (q : ℕ). neg_ℤ (pos q)) (size_of (suc a) d 0 (omega (arith, abs_parts (nat (2 * d) ⊗ nat 0 ⊖ nat 2 ⊗ int (negsuc a)))) h.near h.away)
nearest_is {n = negsuc a} {d} {r = pos (suc q)} h =
    absurd (omega (arith, h.near, abs_parts (nat (2 * d) ⊗ nat (suc q) ⊖ nat 2 ⊗ int (negsuc a))))
nearest_is {n = pos a} {d} {r = negsuc q} h =
    let s = abs_parts (nat (2 * d) ⊗ int (negsuc q) ⊖ nat 2 ⊗ nat a) in
    let f = h.near in
    absurd (omega (arith, h.away (omega arith)))

-- the opposite is rounded to the opposite
pub round-opposite : (n : ℤ) (d : ℕ) → round (neg_ℤ n) d ≡ neg_ℤ (round n d)
unfolding round
round-opposite (pos zero) d = rw (size_zero d) refl
round-opposite (pos (suc a)) d = refl
round-opposite (negsuc a) d = sym (neg_ℤ-neg_ℤ (pos (nearest_size (suc a) d)))

pub rounded-opposite : (f : Frac) → rounded (opposite f) ≡ neg_ℤ (rounded f)
unfolding rounded
rounded-opposite f = round-opposite f.num f.den

-- ---- laws that survive a change of what an exact half does
-- at most half a unit off
pub round-near : (n : ℤ) (d : ℕ) → 0 < d → nat_abs (pos (2 * d) *ℤ round n d -ℤ pos 2 *ℤ n) ≤ d
round-near n d p = (nearest n d p).near

-- a fraction need not be in lowest terms
pub round-scale : (k : ℕ) (n : ℤ) (d : ℕ) → 0 < k → 0 < d → round n d ≡ round (pos k *ℤ n) (k * d)
unfolding round
round-scale k (pos a) d pk pd = ap pos (size_scale k a d pk pd)
round-scale k (negsuc a) d pk pd = ap (λ (q : ℕ). neg_ℤ (pos q)) (size_scale k (suc a) d pk pd) ∙ sym (round-opposite (pos (k * suc a)) (k * d))

-- fractions of one value round alike
pub rounded-value : {a b : Frac} → a ≈ᶠ b → rounded a ≡ rounded b
unfolding rounded
rounded-value {a} {b} e =
    round-scale b.den a.num a.den e.other-defined e.defined
    ∙ ap₂ round (turn b.den a.num ∙ e.same ∙ sym (turn a.den b.num)) (mul_comm b.den a.den)
    ∙ sym (round-scale a.den b.num b.den e.defined e.other-defined)
  where
    turn : (k : ℕ) (n : ℤ) → pos k *ℤ n ≡ n *ℤ pos k
    turn k n = ring (pos k ∷ n ∷ []) ($ 0 :* $ 1) ($ 1 :* $ 0) tt

-- whole bounds of n / d are bounds of what it is rounded to
pub round-from : {n : ℤ} {d : ℕ} (l : ℤ) → 0 < d → (l *ℤ pos d) ≤ℤ n → l ≤ℤ round n d
round-from {n} {d} l p h =
    let r = round n d in
    let a = abs? (nat (2 * d) ⊗ int r ⊖ nat 2 ⊗ int n) d (round-near n d p) in
    let b = le? (int l ⊗ nat d) (int n) h in
    le! (int l) (int r) (cancel (up l + dn r) (up r + dn l) d (omega arith))

pub round-upto : {n : ℤ} {d : ℕ} (u : ℤ) → 0 < d → n ≤ℤ (u *ℤ pos d) → round n d ≤ℤ u
round-upto {n} {d} u p h =
    let r = round n d in
    let a = abs? (nat (2 * d) ⊗ int r ⊖ nat 2 ⊗ int n) d (round-near n d p) in
    let b = le? (int n) (int u ⊗ nat d) h in
    le! (int r) (int u) (cancel (up r + dn u) (up u + dn r) d (omega arith))

-- a size of at most k stays so
pub round-size : (n : ℤ) (d k : ℕ) → 0 < d → nat_abs n ≤ k * d → nat_abs (round n d) ≤ k
round-size n d k p h =
    let r = round n d in
    let a = abs? (int n) (k * d) h in
    let l = le? (neg (nat k)) (int r) (round-from _ p (le! (neg (nat k) ⊗ nat d) (int n) (omega arith))) in
    let u = le? (int r) (nat k) (round-upto _ p (le! (int n) (nat k ⊗ nat d) (omega arith))) in
    abs! (int r) k (omega arith) (omega arith)

-- ---- what an exact half does: of what `nearest_parts` computes, and of what `round_parts` does
-- a size's rest below half of d leaves the whole part, any other makes it one more
pub size_less : (q m d : ℕ) → m < d - m → q ≡ nearest_size (q * d + m) d
size_less q m d h = size_is (q * d + m) d q (omega arith) (omega arith)

pub size-more : (q m d : ℕ) → m < d → d - m ≤ m → q + 1 ≡ nearest_size (q * d + m) d
size-more q m d l h = size_is (q * d + m) d (q + 1) (omega arith) (omega arith)

-- c is whether the rest m, one less below zero, is below half of d: then q, else one more
pub round-half : (q m d : ℤ) {c : Bool} → pos 0 ≤ℤ m → m <ℤ d → lt_z (m -ℤ pos (negative q)) (d -ℤ m) ≡ c → cond c q (q +ℤ pos 1) ≡ round (q *ℤ d +ℤ m) (nat_abs d)
round-half (pos q) m (pos d) {c = true} f b e =
    let l = le? (nat 0) (int m) f in
    let h = lt? (int m ⊖ nat 0) (nat d ⊖ int m) (lt_taken e) in
    let s = abs_parts (nat (2 * d) ⊗ nat q ⊖ nat 2 ⊗ (nat q ⊗ nat d ⊕ int m)) in
    nearest_is (record { near = omega arith; away = λ g. absurd (omega arith) })
round-half (pos q) m (pos d) {c = false} f b e =
    let l = le? (nat 0) (int m) f in
    let u = lt? (int m) (nat d) b in
    let h = le? (nat d ⊖ int m) (int m ⊖ nat 0) (lt_left e) in
    let s = abs_parts (nat (2 * d) ⊗ (nat q ⊕ nat 1) ⊖ nat 2 ⊗ (nat q ⊗ nat d ⊕ int m)) in
    nearest_is (record { near = omega arith; away = λ g. omega (arith, abs_parts (nat q ⊗ nat d ⊕ int m)) })
round-half (negsuc q) m (pos d) {c = true} f b e =
    let l = le? (nat 0) (int m) f in
    let u = lt? (int m) (nat d) b in
    let h = lt? (int m ⊖ nat 1) (nat d ⊖ int m) (lt_taken e) in
    let s = abs_parts (nat (2 * d) ⊗ int (negsuc q) ⊖ nat 2 ⊗ (int (negsuc q) ⊗ nat d ⊕ int m)) in
    nearest_is (record { near = omega arith; away = λ g. omega (arith, abs_parts (int (negsuc q) ⊗ nat d ⊕ int m)) })
round-half (negsuc q) m (pos d) {c = false} f b e =
    let u = lt? (int m) (nat d) b in
    let h = le? (nat d ⊖ int m) (int m ⊖ nat 1) (lt_left e) in
    let s = abs_parts (nat (2 * d) ⊗ (int (negsuc q) ⊕ nat 1) ⊖ nat 2 ⊗ (int (negsuc q) ⊗ nat d ⊕ int m)) in
    nearest_is (record { near = omega arith; away = λ g. absurd (omega arith) })
round-half q m (negsuc d) f b e = absurd (no_rest f b)
