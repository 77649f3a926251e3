-- Document 01, the two routines, and "The blade over a whole run": the plain machine.
use Rattle.std.specs.Prelude.{ℕ, List, [], ◌∷◌, ◌++◌, length, drop, ltb, if◌then◌else◌, Option, None, Some, Result, Ok, Err}
use Rattle.file_numbers.specs.Reading.{Got, got, refused}
use Rattle.road.specs.File.{Road}
use Rattle.road.specs.Exact.{total}
use Rattle.road.specs.Listed.{next_listed}
use Rattle.road.specs.Rules.{accepted}
use Rattle.road.specs.Line.{line}
use Rattle.road.specs.Faults.{fault_number}
use Rattle.road.specs.declared.refusal.Refusal.{Refusal}

-- ---- the two routines

-- the paper's answers: "the number and a place", a line's length, a station, or that there is none
pub data Answer : Type 0 where
  refusal : (number place : ℕ) → Answer
  wrote : (length : ℕ) → Answer
  station : (least : ℕ) → Answer
  no_station : Answer

-- what the code's results stand for
abbrev pub of_row : Result ℕ Refusal → Answer
of_row (Err e) = refusal (fault_number e.fault) e.place
of_row (Ok n) = wrote n

abbrev pub of_next : Result (Option ℕ) Refusal → Answer
of_next (Err e) = refusal (fault_number e.fault) e.place
of_next (Ok (Some s)) = station s
of_next (Ok None) = no_station

-- 20. "The buffer is shorter than 96 bytes (place 0)." 21. "The station is beyond T (place 0)."
abbrev pub row_of : Road → (station room : ℕ) → Answer
row_of r s room =
    if ltb room 96 then refusal 20 0
    else (if ltb (total r) s then refusal 21 0
    else wrote (length (line r s)))

abbrev pub row_on : (station room : ℕ) → Got Road → Answer
row_on s room (refused n p) = refusal n p
row_on s room (got r _) = row_of r s room

-- the answer to a row call: the refusals in their order, else the line's length
unfoldable pub row_answer : List ℕ → (station room : ℕ) → Answer
row_answer f s room = row_on s room (accepted f)

-- "putting the exact road's line there over the first bytes of its buffer"
unfoldable pub overwrite : (line buffer : List ℕ) → List ℕ
overwrite l b = l ++ drop (length l) b

-- "All 21 leave the buffer untouched."
abbrev pub buffer_of : Road → (station : ℕ) → List ℕ → List ℕ
buffer_of r s b =
    if ltb (length b) 96 then b
    else (if ltb (total r) s then b
    else overwrite (line r s) b)

abbrev pub buffer_on : (station : ℕ) → List ℕ → Got Road → List ℕ
buffer_on s b (refused _ _) = b
buffer_on s b (got r _) = buffer_of r s b

-- the buffer after a row call
unfoldable pub row_buffer : List ℕ → (station : ℕ) → List ℕ → List ℕ
row_buffer f s b = buffer_on s b (accepted f)

-- "After the file's refusals it answers the least listed station not below that one, or that there is none."
abbrev pub station_or : Option ℕ → Answer
station_or (Some s) = station s
station_or None = no_station

abbrev pub next_of : Road → (station : ℕ) → Answer
next_of r s = station_or (next_listed r s)

abbrev pub next_on : (station : ℕ) → Got Road → Answer
next_on s (refused n p) = refusal n p
next_on s (got r _) = next_of r s

unfoldable pub next_answer : List ℕ → (station : ℕ) → Answer
next_answer f s = next_on s (accepted f)

-- ---- the plain machine

-- "any list of calls of these two routines on one file, at any stations"
pub data Call : Type 0 where
  row : (station : ℕ) → Call
  next : (station : ℕ) → Call

-- what is seen after a call: its answer, and every byte of the buffer
pub record After : Type 0 where
  pub answer : Answer
  pub buffer : List ℕ

unfoldable pub step : List ℕ → List ℕ → Call → After
step f b (row s) = record { answer = row_answer f s (length b); buffer = row_buffer f s b }
step f b (next s) = record { answer = next_answer f s; buffer = b }

-- "given the file, the first buffer and the calls": what is seen after each call in turn; "each row call gets the buffer as the last one left it"
unfoldable pub trace : List ℕ → List ℕ → List Call → List After
trace f b [] = []
trace f b (c ∷ cs) = step f b c ∷ trace f (step f b c).buffer cs
