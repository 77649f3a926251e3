-- Document 01, "The blade over a whole run" and "Numbers that turn a file away": the listing program's run, and what it prints.
use Rattle.std.specs.Prelude.{ℕ, zero, suc, ◌≤◌, ◌≡◌, List, [], ◌∷◌, map, pos, length}
use Rattle.file_numbers.specs.Reading.{Got, got, refused}
use Rattle.road.specs.Base.{joined}
use Rattle.road.specs.File.{Road}
use Rattle.road.specs.Exact.{total}
use Rattle.road.specs.Listed.{listed}
use Rattle.road.specs.Rules.{accepted}
use Rattle.road.specs.Line.{line}
use Rattle.decimal.specs.Decimal.{spaced}
use Rattle.road.specs.Machine.{Call, row, next, refusal, wrote, station, no_station, trace, next_answer}
use Rattle.road.specs.Demand.{Row, rows_of}

-- "asks for the next station from 0, then for the row there, then from 1 past each station answered, until there is none"; n bounds the rows
unfoldable pub calls_from : ℕ → List ℕ → ℕ → List Call
calls_from zero f s = next s ∷ []
calls_from (suc n) f s = next s ∷ elim (next_answer f s) [ refusal k p ↦ [] | wrote k ↦ [] | station x ↦ row x ∷ calls_from n f (suc x) | no_station ↦ [] ]

-- a run has at most a row for each station from 0 to T
abbrev pub rows_at_most : Got Road → ℕ
rows_at_most (refused _ _) = 0
rows_at_most (got r _) = suc (total r)

unfoldable pub listing_calls : List ℕ → List Call
listing_calls f = calls_from (rows_at_most (accepted f)) f 0

-- the run's rows, "unchanged and in order"
unfoldable pub listing_rows : (file buffer : List ℕ) → List Row
listing_rows f b = rows_of (listing_calls f) (trace f b (listing_calls f))

-- "prints `R`, number, place, separated by one space, and a newline (byte 10), and no row"
unfoldable pub refusal_line : (number place : ℕ) → List ℕ
refusal_line n p = 82 ∷ 32 ∷ spaced (pos n ∷ pos p ∷ [])

abbrev pub output : (file buffer : List ℕ) → Got Road → List ℕ
output f b (refused n p) = refusal_line n p
output f b (got _ _) = joined (λ (a : Row). a.bytes) (listing_rows f b)

-- what the program writes out
unfoldable pub listing : (file buffer : List ℕ) → List ℕ
listing f b = output f b (accepted f)

-- the same without the run: the line of each listed station in order
abbrev pub list_by : Got Road → List ℕ
list_by (refused n p) = refusal_line n p
list_by (got r _) = joined (line r) (listed r)

unfoldable pub list_of : List ℕ → List ℕ
list_of f = list_by (accepted f)

-- "the stations of its rows are exactly the listed ones, in order"
abbrev pub ListingRun : Type 0
ListingRun = (f b : List ℕ) (r : Road) (end : ℕ) → accepted f ≡ got r end → 96 ≤ length b
    → map (λ (a : Row). a.station) (listing_rows f b) ≡ listed r
