-- Items that stand end to end, each with a value at a station: where neighbours agree at their joints, the value at a station is that of any item that has the station.
use Rattle.std.specs.Prelude.{◌≡◌, ℕ, suc, ◌≤◌, ◌<◌, leb}
use Rattle.std.proofs.Common.{ap}
use native.Mathlib.Omega.{arith}
use Rattle.std.proofs.Math.Decide.{dec_lt}
use Rattle.integers.specs.Fraction.{Frac, ◌≈ᶠ◌}
use Rattle.integers.specs.Values.{same-value, other_way, ◌then◌}
use Rattle.road.specs.Base.{last_that}
use Rattle.laws_of_search.specs.Last.{Rising, rises_to, Begun, begun, begun-one}

-- item i of n stands from f i to f (i + 1), and has the value U i s at s
pub record EndToEnd (f : ℕ → ℕ) (n : ℕ) (U : ℕ → ℕ → Frac) : Type 0 where
  pub ascends : (i : ℕ) → i < n → f i < f (suc i)
  pub positive : (i s : ℕ) → i < n → 0 < (U i s).den
  pub joint : (i s : ℕ) → suc i < n → s ≡ f (suc i) → U i s ≈ᶠ U (suc i) s

module _ {f : ℕ → ℕ} {n : ℕ} {U : ℕ → ℕ → Frac} (R : EndToEnd f n U) where
  rising : Rising f n
  unfolding Rising
  rising i h = let l = R.ascends i h in omega arith

  pub value-at : (i s : ℕ) → i < n → f i ≤ s → s ≤ f (suc i) → U (last_that (λ i. leb (f i) s) n) s ≈ᶠ U i s
  value-at i s h l u = go (dec_lt s (f (suc i))) (dec_lt (suc i) n)
    where
      now : Begun f n s (last_that (λ i. leb (f i) s) n)
      now = begun f n s (omega arith) (omega (arith, rises_to f n 0 i rising (omega arith) (omega arith)))

      is : (j : ℕ) → Begun f n s j → U (last_that (λ i. leb (f i) s) n) s ≈ᶠ U j s
      is j b = other_way (same-value (R.positive j s b.below) (ap (λ (k : ℕ). U k s) (begun-one f n s j (last_that (λ i. leb (f i) s) n) rising b now)))

      go : Dec (s < f (suc i)) → Dec (suc i < n) → U (last_that (λ i. leb (f i) s) n) s ≈ᶠ U i s
      go (yes y) z = is i (record { below = h; from = l; next = λ w. y })
      go (no y) (no z) = is i (record { below = h; from = l; next = λ w. absurd (z w) })
      go (no y) (yes z) =
          let e : s ≡ f (suc i) = omega arith in
          is (suc i) (record { below = z; from = omega arith; next = λ w. let m = R.ascends (suc i) z in omega arith }) then other_way (R.joint i s z e)
