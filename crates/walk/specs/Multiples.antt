-- The least multiple of step beyond a station.
use Rattle.std.specs.Prelude.{◌≡◌, refl, ℕ, ◌+◌, ◌*◌, ◌/◌, ◌%◌, ◌≤◌, ◌<◌}
use Rattle.std.proofs.Common.{ap, ◌∙◌, arith, mul-le-mul_right, div-add-mod', mod-lt}
use Rattle.std.proofs.Math.Decide.{dec_le}
use Rattle.std.proofs.Math.Nat.{mul-mod_left}

pub record NextMultiple (s here m : ℕ) : Type 0 where
  pub count : ℕ
  pub is : m ≡ count * s
  pub beyond : here < m
  pub near : m ≤ here + s

pub multiple-first : (s here : ℕ) → 1 ≤ s → NextMultiple s here ((here / s + 1) * s)
multiple-first s here h = let q = div-add-mod' here s in let l = mod-lt here h in record { count = here / s + 1; is = refl; beyond = omega arith; near = omega arith }

module _ {s here m : ℕ} (w : NextMultiple s here m) where
  pub multiple-next : 1 ≤ s → NextMultiple s m (m + s)
  multiple-next h = let e = w.is in record { count = w.count + 1; is = omega arith; beyond = omega arith; near = omega arith }

  pub multiple-whole : m % s ≡ 0
  multiple-whole = ap (λ (n : ℕ). n % s) w.is ∙ mul-mod_left w.count s

  -- a multiple beyond the station is not below it
  pub multiple-least : (z : ℕ) → here < z → z % s ≡ 0 → m ≤ z
  multiple-least z l e = go (dec_le w.count (z / s))
    where
      q : z / s * s + z % s ≡ z
      q = div-add-mod' z s

      go : Dec (w.count ≤ z / s) → m ≤ z
      go (yes k) = omega (arith, q, w.is, mul-le-mul_right s k)
      go (no k) = absurd (let j : z / s + 1 ≤ w.count = omega arith in omega (arith, q, w.is, w.near, mul-le-mul_right s j))
