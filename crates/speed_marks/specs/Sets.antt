-- Marks as one number: it has as many bits as there are marks, and mark k stands where bit k is 1.
use Rattle.std.specs.Prelude.{◌≡◌, refl, ℕ, zero, suc, ◌+◌, ◌*◌, ◌-◌, ◌/◌, ◌%◌, ◌^◌, ◌≤◌, ◌<◌, Bool, true, false, List, [], ◌∷◌, map, length, take, drop, get_or, eqb}
use Rattle.std.proofs.Common.{sym, ap, ◌∙◌, arith, add-one, length-take, pow-suc, eq-eqb, ne_eqb}
use Rattle.std.proofs.Math.Nat.{pow-succ', div-div-eq-div-mul, mod-eq_of_lt}
use Rattle.std.proofs.Math.Pow.{pow_mono}
use Rattle.std.proofs.lemmas.List.{get_or-map}
use Rattle.speed_marks.specs.Marks.{tried_speeds, bit, set_of}

pub bit_most : (mark : Bool) {n : ℕ} → n ≡ bit mark → n ≤ 1
bit_most true e = omega arith
bit_most false e = omega arith

pub set_below : (l : List Bool) → set_of l < 2 ^ length l
unfolding set_of
set_below [] = omega arith
set_below (b ∷ l) =
    let ih = set_below l in
    let m = bit_most b refl in
    let p : 2 ^ suc (length l) ≡ 2 ^ length l * 2 = pow-suc 2 (length l) in
    omega arith

-- bit k of a number is 1
abbrev pub has_bit : (n k : ℕ) → Bool
has_bit n k = eqb (n / 2 ^ k % 2) 1

-- the lowest bit is the first mark, and half the number has the others
low_bit : (mark : Bool) (n : ℕ) → has_bit (bit mark + 2 * n) 0 ≡ mark
low_bit true n = eq-eqb ((1 + 2 * n) / 1 % 2) 1 (omega arith)
low_bit false n = ne_eqb ((0 + 2 * n) / 1 % 2) 1 (λ e. omega arith)

next_bit : (mark : Bool) (n k : ℕ) → has_bit (bit mark + 2 * n) (suc k) ≡ has_bit n k
next_bit mark n k =
    let m = bit_most mark refl in
    let half : (bit mark + 2 * n) / 2 ≡ n = omega arith in
    ap (λ (q : ℕ). eqb (q % 2) 1) (ap (λ (d : ℕ). (bit mark + 2 * n) / d) (pow-succ' 2 k) ∙ sym (div-div-eq-div-mul (bit mark + 2 * n) 2 (2 ^ k)) ∙ ap (λ (q : ℕ). q / 2 ^ k) half)

pub set-bit : (f : ℕ → Bool) (l : List ℕ) (k : ℕ) → k < length l → has_bit (set_of (map f l)) k ≡ f (get_or l k 0)
unfolding set_of
set-bit f [] k h = absurd (omega arith)
set-bit f (x ∷ l) zero h = low_bit (f x) (set_of (map f l))
set-bit f (x ∷ l) (suc k) h = next_bit (f x) (set_of (map f l)) k ∙ set-bit f l k (omega arith)

-- ---- the first marks

-- the first marks of the seven are a number below 128
pub few_first : (f : ℕ → Bool) (k : ℕ) → k ≤ 7 → set_of (take k (map f tried_speeds)) < 128
few_first f k h =
    let first = set_below (take k (map f tried_speeds)) in
    let n : length (take k (map f tried_speeds)) ≤ 7 = simp length-take (omega arith) in
    let p : 2 ^ length (take k (map f tried_speeds)) ≤ 2 ^ 7 = pow_mono n in
    omega arith

more : (l : List Bool) (k : ℕ) → k < length l → set_of (take (suc k) l) ≡ set_of (take k l) + bit (get_or l k false) * 2 ^ k
unfolding set_of
more [] k h = absurd (omega arith)
more (b ∷ l) zero h = omega arith
more (b ∷ l) (suc k) h = doubled (bit b) (set_of (take k l)) (bit (get_or l k false)) (2 ^ k) (2 ^ suc k) (more l k (omega arith)) (ap (λ (n : ℕ). bit (get_or l k false) * n) (pow-suc 2 k))
  where
    doubled : (first : ℕ) {later : ℕ} (set mark power next : ℕ) → later ≡ set + mark * power → mark * next ≡ mark * (power * 2) → first + 2 * later ≡ first + 2 * set + mark * next
    doubled first set mark power next e f = omega arith

-- one mark more, above those before it
pub one_above : (f : ℕ → Bool) (k : ℕ) → k < 7 → set_of (take (k + 1) (map f tried_speeds)) ≡ set_of (take k (map f tried_speeds)) + bit (f (get_or tried_speeds k 0)) * 2 ^ k
one_above f k h =
    ap (λ (j : ℕ). set_of (take j (map f tried_speeds))) (add-one k) ∙ more (map f tried_speeds) k h
    ∙ ap (λ (b : Bool). set_of (take k (map f tried_speeds)) + bit b * 2 ^ k) (get_or-map f tried_speeds k 0 false h)

-- a mark at its place
pub shifted : (mark : Bool) (k : ℕ) → k < 7 → bit mark * 2 ^ k % 4294967296 ≡ bit mark * 2 ^ k
shifted mark k h = mod-eq_of_lt (small mark)
  where
    power : 2 ^ k ≤ 2 ^ 6
    power = pow_mono {j = 6} (omega arith)

    small : (mark : Bool) → bit mark * 2 ^ k < 4294967296
    small true = let p = power in omega arith
    small false = omega arith

-- ---- the marks from a place on

-- they are no greater a number
later_most : (l : List Bool) (k : ℕ) → set_of (drop k l) ≤ set_of l
unfolding set_of
later_most l zero = omega arith
later_most [] (suc k) = omega arith
later_most (b ∷ l) (suc k) = let ih = later_most l k in omega arith

-- the seven marks, and those from place k on, are below 128
pub few : (f : ℕ → Bool) (k : ℕ) → set_of (drop k (map f tried_speeds)) < 128
few f k =
    let all : set_of (map f tried_speeds) < 128 = set_below (map f tried_speeds) in
    let later = later_most (map f tried_speeds) k in
    omega arith

-- its own in the lowest bit, the later ones above it
set-from : (f : ℕ → Bool) (l : List ℕ) (k : ℕ) → k < length l → set_of (drop k (map f l)) ≡ bit (f (get_or l k 0)) + 2 * set_of (drop (suc k) (map f l))
unfolding set_of
set-from f [] k h = absurd (omega arith)
set-from f (x ∷ l) zero h = refl
set-from f (x ∷ l) (suc k) h = set-from f l k (omega arith)

-- one mark more, below those from place k on
pub one_more : (f : ℕ → Bool) (k : ℕ) {set mark : ℕ} → 0 < k → k ≤ 7 → set ≡ set_of (drop k (map f tried_speeds)) → mark ≡ bit (f (get_or tried_speeds (k - 1) 0)) → 2 * set + mark ≡ set_of (drop (k - 1) (map f tried_speeds))
one_more f zero h l e g = absurd (omega arith)
one_more f (suc k) h l e g =
    let p : suc k - 1 ≡ k = omega arith in
    let s = set-from f tried_speeds k (omega arith) in
    rw p (omega (arith, rw p at g))
