-- The table that the code reads is the definition's: in it stand the digits of 0 to 99.
use Rattle.std.specs.Prelude.{◌≡◌, refl, ℕ, [], ◌∷◌, ◌+◌, ◌*◌, ◌<◌, get_or}
use Rattle.decimal.specs.Digits.{last_digits}
use Rattle.decimal.specs.Pairs as pairs
use Rattle.decimal.specs.Pairs.{pairs_from, pair_table}
use Rattle.decimal.specs.declared.TheConstants.{PAIRS}

pub table-is : PAIRS ≡ pair_table
unfolding pair_table pairs_from last_digits
table-is = refl

pub pair-at : (n : ℕ) → n < 100 → (get_or PAIRS (2 * n) 0 ∷ get_or PAIRS (2 * n + 1) 0 ∷ []) ≡ last_digits 2 n
pair-at n h = pairs.pair-at n table-is h
