-- The cases of a test program's input: the number at its front, and the part that stands there after its length.
use Rattle.std.specs.Prelude.{List, [], ℕ, take, drop, Option, Some, None}
use Rattle.file_numbers.specs.Reading.{Got, got, refused}
use Rattle.file_numbers.specs.Number.{number}

-- a number that was read, and the bytes behind it
abbrev pub with_rest : List ℕ → Got ℕ → Option (ℕ × List ℕ)
with_rest s (got v next) = Some (v, drop next s)
with_rest s (refused n p) = None

-- the number at the front, and the bytes behind it
abbrev pub first_number : List ℕ → Option (ℕ × List ℕ)
first_number s = with_rest s (number s 0)

-- as many bytes as a number says, and those behind them
abbrev pub divided : Option (ℕ × List ℕ) → Option (List ℕ × List ℕ)
divided (Some p) = Some (take p.0 p.1, drop p.0 p.1)
divided None = None

-- the part at the front, after its length and as far as the input goes, and the bytes behind it
abbrev pub first_part : List ℕ → Option (List ℕ × List ℕ)
first_part s = divided (first_number s)

-- the same, where there is no number 0, an empty part, and nothing behind them
abbrev pub number_or_0 : Option (ℕ × List ℕ) → ℕ × List ℕ
number_or_0 (Some p) = p
number_or_0 None = (0, [])

abbrev pub part_or_empty : Option (List ℕ × List ℕ) → List ℕ × List ℕ
part_or_empty (Some p) = p
part_or_empty None = ([], [])
