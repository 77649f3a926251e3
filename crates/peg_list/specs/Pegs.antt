-- Document 02, A.5: the rows of a list of pegs.
use Rattle.std.specs.Prelude.{ℕ, zero, suc, ◌*◌, Bool, false, ◌||◌, List, length, get_or, leb, ltb, if◌then◌else◌, Option, None, Some}
use Rattle.file_numbers.specs.Reading.{Got, got, refused}
use Rattle.road.specs.Base.{first_that, joined}
use Rattle.road.specs.File.{Road}
use Rattle.road.specs.Exact.{total}
use Rattle.road.specs.Line.{line}
use Rattle.road.specs.Rules.{accepted}
use Rattle.road.specs.Machine.{Answer, refusal, wrote, overwrite}

-- the station of a peg, counted from 0
abbrev pub peg_at : List ℕ → ℕ → ℕ
peg_at pegs i = get_or pegs i 0

-- "ascending, equal ones allowed": a peg that lies below the one before it
unfoldable pub falls : List ℕ → ℕ → Bool
falls pegs zero = false
falls pegs (suc i) = ltb (peg_at pegs (suc i)) (peg_at pegs i)

-- "a list that falls, is longer than 2,000 or passes T", "peg 2,000 being bad"
unfoldable pub is_bad : (T : ℕ) → List ℕ → ℕ → Bool
is_bad T pegs i = falls pegs i || leb 2000 i || ltb T (peg_at pegs i)

-- "the first bad peg"
unfoldable pub first_bad : (T : ℕ) → List ℕ → Option ℕ
first_bad T pegs = first_that (is_bad T pegs) (length pegs)

-- "The rows stand one behind another"
unfoldable pub lines : Road → (pegs : List ℕ) → List ℕ
lines r pegs = joined (line r) pegs

-- "refused with 24, its place being the first bad peg"; "Their total length is returned, 0 for no pegs."
abbrev pub rows_or24 : Road → (pegs : List ℕ) → Option ℕ → Answer
rows_or24 r pegs (Some i) = refusal 24 i
rows_or24 r pegs None = wrote (length (lines r pegs))

-- "a buffer with less than 96 bytes for each peg is refused with 20 at place 0; then .."
abbrev pub pegs_of : Road → (pegs : List ℕ) → (room : ℕ) → Answer
pegs_of r pegs room = if ltb room (96 * length pegs) then refusal 20 0 else rows_or24 r pegs (first_bad (total r) pegs)

-- "After the file's own refusals"
abbrev pub pegs_on : (pegs : List ℕ) → (room : ℕ) → Got Road → Answer
pegs_on pegs room (refused n p) = refusal n p
pegs_on pegs room (got r _) = pegs_of r pegs room

-- the answer: the refusals in their order, else the total length
unfoldable pub pegs_answer : List ℕ → (pegs : List ℕ) → (room : ℕ) → Answer
pegs_answer f pegs room = pegs_on pegs room (accepted f)

-- "in a lent buffer, whose later bytes do not change"; a refusal leaves it untouched
abbrev pub rows_over : Road → (pegs buffer : List ℕ) → Option ℕ → List ℕ
rows_over r pegs b (Some _) = b
rows_over r pegs b None = overwrite (lines r pegs) b

abbrev pub buffer_of : Road → (pegs buffer : List ℕ) → List ℕ
buffer_of r pegs b = if ltb (length b) (96 * length pegs) then b else rows_over r pegs b (first_bad (total r) pegs)

abbrev pub buffer_on : (pegs buffer : List ℕ) → Got Road → List ℕ
buffer_on pegs b (refused _ _) = b
buffer_on pegs b (got r _) = buffer_of r pegs b

-- the buffer after the call
unfoldable pub pegs_buffer : List ℕ → (pegs buffer : List ℕ) → List ℕ
pegs_buffer f pegs b = buffer_on pegs b (accepted f)
