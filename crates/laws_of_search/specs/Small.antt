-- How large a fraction is, and the whole number it is rounded to.
use Rattle.std.specs.Prelude.{◌≡◌, [], ◌∷◌, ℕ, zero, suc, ◌+◌, ◌*◌, ◌≤◌, ◌<◌, pos, ◌-ℤ◌, ◌*ℤ◌, nat_abs}
use Rattle.std.proofs.Common.{sym, subst, arith}
use Rattle.std.proofs.Math.Decide.{dec_lt}
use Rattle.integers.specs.Bridge.{nat, ◌⊖◌, abs!, abs_sum, abs_difference, abs_product}
use Rattle.integers.specs.Ring.{◌:+◌, ◌:-◌, ring, $}
use Rattle.integers.specs.Rounding.{round, rounded, round_over_zero}
use Rattle.integers.proofs.RoundingLaws.{round-size}
use Rattle.integers.specs.Fraction.{Frac, ◌+ᶠ◌, ◌-ᶠ◌, ◌×ᶠ◌}
use Rattle.road.specs.Exact.{from◌to◌}

-- of a size of at most B; a denominator of 0 says nothing
unfoldable pub Small : Frac → ℕ → Type 0
Small f B = 0 < f.den → nat_abs f.num ≤ B * f.den

pub abs_from : (a s k : ℕ) → a ≤ s + k → s ≤ a + k → nat_abs (from a to s) ≤ k
abs_from a s k h g = abs! (nat s ⊖ nat a) k (omega arith) (omega arith)

-- what is left of a length
pub from-rest : (a s l b : ℕ) → b ≡ a + l → (from s to b) ≡ pos l -ℤ (from a to s)
from-rest a s l b e = rw e (ring (pos a ∷ pos s ∷ pos l ∷ []) ($ 0 :+ $ 2 :- $ 1) ($ 2 :- ($ 1 :- $ 0)) tt)

-- ---- sums, differences and products of fractions
factors : (a b : ℕ) → 0 < a * b → (0 < a) × (0 < b)
factors zero b p = absurd (omega arith)
factors (suc a) zero p = absurd (omega arith)
factors (suc a) (suc b) p = omega arith

pub small-sum : (f g : Frac) (A B : ℕ) → Small f A → Small g B → Small (f +ᶠ g) (A + B)
unfolding Small
small-sum f g A B h k q =
    let p = factors f.den g.den q in
    omega (arith, abs_sum (f.num *ℤ pos g.den) (g.num *ℤ pos f.den) (abs_product f.num (pos g.den) {l = g.den} (h p.0) (omega arith)) (abs_product g.num (pos f.den) {l = f.den} (k p.1) (omega arith)))

pub small-less : (f g : Frac) (A B : ℕ) → Small f A → Small g B → Small (f -ᶠ g) (A + B)
unfolding Small
small-less f g A B h k q =
    let p = factors f.den g.den q in
    omega (arith, abs_difference (f.num *ℤ pos g.den) (g.num *ℤ pos f.den) (abs_product f.num (pos g.den) {l = g.den} (h p.0) (omega arith)) (abs_product g.num (pos f.den) {l = f.den} (k p.1) (omega arith)))

pub small_product : (f g : Frac) (A B : ℕ) → Small f A → Small g B → Small (f ×ᶠ g) (A * B)
unfolding Small
small_product f g A B h k q =
    let p = factors f.den g.den q in
    omega (arith, abs_product f.num g.num (h p.0) (k p.1))

-- ---- rounded
pub rounded-small : (f : Frac) (B : ℕ) → Small f B → nat_abs (rounded f) ≤ B
unfolding Small rounded
rounded-small f B h = go (dec_lt 0 f.den)
  where
    go : Dec (0 < f.den) → nat_abs (rounded f) ≤ B
    go (yes p) = round-size f.num f.den B p (h p)
    go (no p) =
        let e : f.den ≡ 0 = omega arith in
        subst (λ (d : ℕ). nat_abs (round f.num d) ≤ B) (sym e) (rw (round_over_zero f.num) (omega arith))
