-- Both sides of each limit of a list of pegs, about the meanings, as a table with one theorem, and the rows of a list on the sample road; how many pegs are too many is Lists.
use Rattle.std.specs.Prelude.{ℕ, ◌≡◌, refl, List, [], ◌∷◌, ◌++◌, map, replicate}
use Rattle.road.specs.Compute.{computed}
use Rattle.road.specs.Machine.{Answer, refusal, wrote}
use Rattle.road.specs.Sample.{file}
use Rattle.road.specs.Text.{printed_line}
use Rattle.peg_list.specs.Pegs.{falls, is_bad, first_bad, lines, pegs_answer, pegs_buffer}

-- a file, pegs, the buffer's length, and the answer
pub record Case : Type 0 where
  pub from : List ℕ
  pub pegs : List ℕ
  pub room : ℕ
  pub answer : Answer

abbrev pub case : (from pegs : List ℕ) (room : ℕ) → Answer → Case
case from pegs room answer = record { from = from; pegs = pegs; room = room; answer = answer }

-- the sample road ends at 200,000; its lines are 45 to 51 bytes long
abbrev pub cases : List Case
cases =
    -- "0 for no pegs"
    case file [] 0 (wrote 0)
    ∷ case file [] 1000 (wrote 0)
    -- "less than 96 bytes for each peg"
    ∷ case file (0 ∷ []) 96 (wrote 45)
    ∷ case file (0 ∷ []) 95 (refusal 20 0)
    ∷ case file (0 ∷ 50_000 ∷ []) 192 (wrote 94)
    ∷ case file (0 ∷ 50_000 ∷ []) 191 (refusal 20 0)
    -- "ascending, equal ones allowed"
    ∷ case file (80_000 ∷ 80_000 ∷ []) 192 (wrote 98)
    ∷ case file (80_000 ∷ 79_999 ∷ []) 192 (refusal 24 1)
    ∷ case file (0 ∷ 80_000 ∷ 79_999 ∷ 0 ∷ []) 384 (refusal 24 2)
    -- "passes T"
    ∷ case file (200_000 ∷ []) 96 (wrote 51)
    ∷ case file (200_001 ∷ []) 96 (refusal 24 0)
    ∷ case file (200_000 ∷ 200_001 ∷ 0 ∷ []) 288 (refusal 24 1)
    -- 20 comes first
    ∷ case file (200_001 ∷ []) 95 (refusal 20 0)
    ∷ case file (5 ∷ 4 ∷ []) 191 (refusal 20 0)
    -- "After the file's own refusals"
    ∷ case [] (5 ∷ 4 ∷ []) 0 (refusal 2 0)
    ∷ []

pub at_pegs_hold : map (λ (c : Case). pegs_answer c.from c.pegs c.room) cases ≡ map (λ (c : Case). c.answer) cases
unfolding computed pegs_answer first_bad is_bad falls lines
at_pegs_hold = refl

-- rows one behind another, the second of two equal pegs too; later bytes as lent
pub sample_pegs : pegs_buffer file (80_000 ∷ 80_000 ∷ 90_000 ∷ []) (replicate 300 7)
    ≡ printed_line "80000 501600 20000 -25000 -25000 501531 501531 0" ++ printed_line "80000 501600 20000 -25000 -25000 501531 501531 0" ++ printed_line "90000 501750 10000 -25000 -25000 501681 501681 0" ++ replicate 153 7
unfolding computed pegs_buffer first_bad is_bad falls lines
sample_pegs = refl
