-- Numbers without their signs, and a size that has a turn's sign again.
use mathlib.Core.Path.{◌≡◌, sym, ap, ◌∙◌}
use Prim.Native.Nat.{ℕ, suc, ◌*◌, ◌≤◌}
use native.Mathlib.Omega.{arith}
use lib.Dec.{T}
use lib.IntN.{ℤ, pos, negsuc, ◌-ℤ◌, ◌*ℤ◌, +ℤ_idl, neg_ℤ, nat_abs}
use lib.Signed.{◌≤ℤ◌, ◌<ℤ◌, non_neg}
use mir.Syntax.{w64}
use mir.Val.{Fits, SFits}
use Rattle.integers.specs.Bridge.{int, nat, le!, lt?, abs_opposite}
use Rattle.integers.specs.Rounding.{nearest_size, round, round_of_size}
use Rattle.integers.proofs.RoundingLaws.{round-opposite}
use Rattle.integers.specs.Width.{fits64}

-- a number that is not below zero is its size
pub as_size : {z : ℤ} → pos 0 ≤ℤ z → z ≡ pos (nat_abs z)
as_size {z = pos n} h = ap pos (omega arith)
as_size {z = negsuc n} h = absurd h.le

pub casts : {z : ℤ} → pos 0 ≤ℤ z → SFits w64 z → T (non_neg z) × Fits w64 (nat_abs z)
casts {z = pos n} h f = (tt, record { fits = omega (arith, f.sfits) })
casts {z = negsuc n} h f = absurd h.le

pub not_below_lem : {z : ℤ} → pos 0 <ℤ z → pos 0 ≤ℤ z
not_below_lem {z} h = le! (nat 0) (int z) (omega (arith, lt? (nat 0) (int z) h))

-- the opposite of a turn
pub opposite-size : (turn : ℤ) → nat_abs (pos 0 -ℤ turn) ≡ nat_abs turn
opposite-size turn = ap nat_abs (+ℤ_idl (neg_ℤ turn)) ∙ abs_opposite turn

pub opposite-fits : (turn : ℤ) → nat_abs turn ≤ 1000000000 → SFits w64 (pos 0 -ℤ turn)
opposite-fits turn h = fits64 (pos 0 -ℤ turn) (omega (arith, opposite-size turn))

-- the sign is put back: a size so many times the turn's, rounded
pub left-turn : (turn : ℤ) (n d : ℕ) → turn <ℤ pos 0 → pos 0 -ℤ pos (nearest_size (nat_abs turn * n) d) ≡ round (turn *ℤ pos n) d
left-turn (pos k) n d h = absurd (omega (arith, lt? (nat k) (nat 0) h))
left-turn (negsuc k) n d h = +ℤ_idl (neg_ℤ (pos (nearest_size (suc k * n) d))) ∙ ap neg_ℤ (sym (round_of_size (suc k * n) d)) ∙ sym (round-opposite (pos (suc k * n)) d)

pub right-turn : (turn : ℤ) (n d : ℕ) → pos 0 ≤ℤ turn → pos (nearest_size (nat_abs turn * n) d) ≡ round (turn *ℤ pos n) d
right-turn (pos k) n d h = sym (round_of_size (k * n) d)
right-turn (negsuc k) n d h = absurd h.le
