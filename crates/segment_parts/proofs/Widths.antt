-- A height, and what a grade rises from there, in locals of 64 bits.
use Rattle.std.proofs.Common.{◌≡◌, ap, ◌∙◌, ℕ, ◌≤◌, arith, ℤ, pos, nat_abs, ◌+ℤ◌, ◌-ℤ◌, ◌*ℤ◌, w32, w64, to_z, of_z}
use mir.Facts.{to_z-of_z}
use Rattle.integers.specs.Bridge.{abs_sum, abs_difference, abs_product}
use Rattle.integers.specs.Width.{fits, fits64}

module _ (h g z : ℤ) (n : ℕ) (hs : nat_abs h ≤ 15000000000000) (gs : nat_abs g ≤ 120000) (ns : n ≤ 10000000) (e : z ≡ to_z w32 (of_z w32 g) *ℤ pos n) where
  small-rise : nat_abs (g *ℤ pos n) ≤ 1200000000000
  small-rise = omega (arith, abs_product g (pos n) {l = 10000000} gs ns)

  start_is : to_z w64 (of_z w64 h) ≡ h
  start_is = to_z-of_z (fits64 h (omega arith))

  rise-is : to_z w64 (of_z w64 z) ≡ g *ℤ pos n
  rise-is = ap (λ (x : ℤ). to_z w64 (of_z w64 x)) (e ∙ ap (λ (x : ℤ). x *ℤ pos n) (to_z-of_z (fits w32 g (omega arith)))) ∙ to_z-of_z (fits64 (g *ℤ pos n) (omega (arith, small-rise)))

  pub above : to_z w64 (of_z w64 (to_z w64 (of_z w64 h) +ℤ to_z w64 (of_z w64 z))) ≡ h +ℤ g *ℤ pos n
  above = rw (start_is, rise-is) (to_z-of_z (fits64 (h +ℤ g *ℤ pos n) (omega (arith, abs_sum h (g *ℤ pos n) hs small-rise))))

  pub below : to_z w64 (of_z w64 (to_z w64 (of_z w64 h) -ℤ to_z w64 (of_z w64 z))) ≡ h -ℤ g *ℤ pos n
  below = rw (start_is, rise-is) (to_z-of_z (fits64 (h -ℤ g *ℤ pos n) (omega (arith, abs_difference h (g *ℤ pos n) hs small-rise))))
