-- The loop that looks for the first item that breaks a rule, for every list and rule: what is found from a place on is what is found at all.
use Rattle.std.specs.Prelude.{◌≡◌, Bool, true, false, ℕ, suc, ◌+◌, ◌-◌, ◌<◌, ◌≤◌, None, Some}
use Rattle.std.specs.Bool.{then_some}
use Rattle.std.proofs.Math.Path.{sym}
use Rattle.std.proofs.Common.{◌∙◌}
use native.Mathlib.Omega.{arith}
use Rattle.std.proofs.Math.Numerals.{add-one}
use Rattle.road.specs.Base.{first_from, first_that}

-- i places are passed and none of them is bad: what is found from here on is what is found at all
pub record Passed (bad : ℕ → Bool) (n i : ℕ) : Type 0 where
  pub within : i ≤ n
  pub same : first_from bad (n - i) i ≡ first_that bad n

one_left : (n i : ℕ) → i < n → n - i ≡ suc (n - (i + 1))
one_left n i h = omega arith

module _ {bad : ℕ → Bool} {n : ℕ} where
  pub start : Passed bad n 0
  unfolding first_that
  start = let e : n - 0 ≡ n = omega arith in record { within = omega arith; same = rw e }

  pub found : {i : ℕ} → Passed bad n i → i < n → bad i ≡ true → Some i ≡ first_that bad n
  unfolding first_from
  found {i} p h b = sym goes ∙ p.same
    where
      goes : first_from bad (n - i) i ≡ Some i
      goes = rw (one_left n i h) (rw (b, first_from))

  pub on : {i : ℕ} → Passed bad n i → i < n → bad i ≡ false → Passed bad n (i + 1)
  unfolding first_from
  on {i} p h b = record { within = omega arith; same = goes ∙ p.same }
    where
      goes : first_from bad (n - (i + 1)) (i + 1) ≡ first_from bad (n - i) i
      goes = sym (rw (one_left n i h) (rw (b, first_from, add-one i)))

  pub nothing : {i : ℕ} → Passed bad n i → n ≤ i → None ≡ first_that bad n
  unfolding first_from
  nothing {i} p h = sym goes ∙ p.same
    where
      goes : first_from bad (n - i) i ≡ None
      goes = let e : n - i ≡ 0 = omega arith in rw e

-- a rule with one place
pub nothing_1 : (bad : ℕ → Bool) → bad 0 ≡ false → None ≡ first_that bad 1
unfolding first_that first_from
nothing_1 bad h = sym (rw (h, first_from))

pub found_1 : (bad : ℕ → Bool) → bad 0 ≡ true → Some 0 ≡ first_that bad 1
unfolding first_that first_from
found_1 bad h = sym (rw (h, first_from))

pub then_1 : (bad : ℕ → Bool) (b : Bool) → b ≡ bad 0 → then_some b 0 ≡ first_that bad 1
then_1 bad true e = found_1 bad (sym e)
then_1 bad false e = nothing_1 bad (sym e)
