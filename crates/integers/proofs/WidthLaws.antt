-- What division downwards and rounding give, for every width.
--
--   a result fits            floor-fits, round-fits where the dividend fits; remainder-fits where the divisor fits
--   to call `round_parts`    small-parts, for a whole part with room for one more
--   after `round_parts`      parts-sum: what `div_floor` and `rem_floor` gave makes the dividend again
use Rattle.std.specs.Prelude.{◌≡◌, Bool, cond, ℕ, ◌+◌, ◌≤◌, ◌<◌, ℤ, pos, negsuc, ◌+ℤ◌, ◌-ℤ◌, ◌*ℤ◌, nat_abs, ◌≤ℤ◌, ◌<ℤ◌}
use Rattle.std.proofs.Common.{sym, arith, mul-le-mul_left}
use Rattle.std.specs.Int.Signed.{lt_z, quot_z, rem_z, mag}
use Rattle.std.specs.Int.{Width}
use mir.Val.{SFits}
use Rattle.integers.specs.Bridge.{int, nat, ◌⊕◌, ◌⊗◌, le!, le?, lt?, abs!, abs_is}
use Rattle.integers.specs.Rounding.{floor, remainder, round, no_rest}
use Rattle.integers.proofs.RoundingLaws.{floor_of, remainder_of, floor-sum, remainder-small, round-from, round-upto}
use Rattle.integers.specs.Width.{RoundParts, above_zero, corrected, fits64, mag_floor, mag_high, mag_low, mag_within, smaller}

mag_round : (n : ℤ) (d : ℕ) → 0 < d → mag (round n d) ≤ mag n
mag_round n d p =
    let k = mag n in
    let f = mul-le-mul_left k p in
    let l = le? (int (negsuc k)) (int n) (mag_low n) in
    let u = le? (int n) (nat k) (mag_high n) in
    mag_within (round n d) k
    (round-from (negsuc k) p (le! (int (negsuc k) ⊗ nat d) (int n) (omega arith)))
    (round-upto (pos k) p (le! (int n) (nat k ⊗ nat d) (omega arith)))

module _ {w : Width} {n : ℤ} (f : SFits w n) where
  pub floor-fits : (d : ℕ) → SFits w (floor n d)
  floor-fits d = smaller f (floor n d) (mag_floor n d)

  pub round-fits : (d : ℕ) → 0 < d → SFits w (round n d)
  round-fits d p = smaller f (round n d) (mag_round n d p)

pub remainder-fits : {w : Width} (n d : ℤ) → SFits w d → pos 0 <ℤ d → SFits w (pos (remainder n (nat_abs d)))
remainder-fits n (pos d) f p = smaller f (pos (remainder n d)) (omega (arith, remainder-small n d (above_zero (pos d) p)))
remainder-fits n (negsuc d) f p = absurd p.lt

pub machine_floor : (n d : ℤ) {c : Bool} → pos 0 <ℤ d → lt_z (rem_z n d) (pos 0) ≡ c → cond c (quot_z n d -ℤ pos 1) (quot_z n d) ≡ floor n (nat_abs d)
machine_floor n d p e = floor_of (corrected n d p e)

pub machine_remainder : (n d : ℤ) {c : Bool} → pos 0 <ℤ d → lt_z (rem_z n d) (pos 0) ≡ c → cond c (rem_z n d +ℤ d) (rem_z n d) ≡ pos (remainder n (nat_abs d))
machine_remainder n d p e = remainder_of (corrected n d p e)

-- a whole part with room for one more
pub small-parts : {q m d : ℤ} → pos 0 ≤ℤ m → m <ℤ d → nat_abs q < 9223372036854775807 → RoundParts q m d
small-parts {q} {m} {d = pos d} f b h =
    let l = le? (nat 0) (int m) f in
    let u = lt? (int m) (nat d) b in
    let n = q *ℤ pos d +ℤ m in
    let r = round n d in
    let low = le? (int q) (int r) (round-from q (omega arith) (le! (int q ⊗ nat d) (int q ⊗ nat d ⊕ int m) (omega arith))) in
    let high = le? (int r) (int q ⊕ nat 1) (round-upto (q +ℤ pos 1) (omega arith) (le! (int q ⊗ nat d ⊕ int m) ((int q ⊕ nat 1) ⊗ nat d) (omega arith))) in
    let near : nat_abs r ≤ nat_abs q + 1 = abs! (int r) (nat_abs q + 1) (omega (arith, abs_is q)) (omega (arith, abs_is q)) in
    record { from = f; below = b; room = fits64 r (omega arith) }
small-parts {q} {m} {d = negsuc d} f b h = absurd (no_rest f b)

-- a number taken apart by `div_floor` and `rem_floor` is their sum again
pub parts-sum : (n d : ℤ) {q m : ℤ} → pos 0 <ℤ d → q ≡ floor n (nat_abs d) → m ≡ pos (remainder n (nat_abs d)) → q *ℤ d +ℤ m ≡ n
parts-sum n (pos d) p eq em = rw (eq, em) (sym (floor-sum n d (above_zero (pos d) p)))
parts-sum n (negsuc d) p eq em = absurd p.lt
