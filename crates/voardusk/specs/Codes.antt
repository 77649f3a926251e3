-- The answers as numbers: what a call returns, and what it leaves in the numbers it was lent.
use Rattle.std.specs.Prelude.{◌≡◌, List, ℕ, Option, Some, None, Result}
use Rattle.std.proofs.Common.{sym, ap, ◌∙◌}
use Rattle.road.specs.Faults.{Said, value, of_result}
use Rattle.road.specs.Faults as faults
use Rattle.road.specs.Machine.{Answer, refusal, wrote, station, no_station, of_row, of_next}
use Rattle.road.specs.declared.refusal.Refusal.{Refusal}
use Rattle.walk.specs.declared.Chunk.{Chunk}

-- stands for "there is none": all 64 bits set
abbrev pub mark_for_none : ℕ
mark_for_none = 18446744073709551615

-- a station, or that there is none
abbrev pub station_number : Option ℕ → ℕ
station_number (Some s) = s
station_number None = mark_for_none

-- ---- what is said of a file
-- what a call returns: the refusal's number, 0 beside a value
abbrev pub said_number : {A : Type 0} → Said A → ℕ
said_number (faults.refusal n p) = n
said_number (value a) = 0

-- what it leaves in `answer`: the refusal's place, or a number
abbrev pub said_answer : Said ℕ → ℕ
said_answer (faults.refusal n p) = p
said_answer (value n) = n

-- ---- the two routines of document 01
-- what a call returns: the refusal's number, 0 where there is none
abbrev pub returned_number : Answer → ℕ
returned_number (refusal n p) = n
returned_number (wrote n) = 0
returned_number (station s) = 0
returned_number no_station = 0

-- what it leaves in `answer`: the refusal's place, the line's length, the station
abbrev pub answer_number : Answer → ℕ
answer_number (refusal n p) = p
answer_number (wrote n) = n
answer_number (station s) = s
answer_number no_station = mark_for_none

-- ---- many rows
abbrev pub list_returned_number : Said Chunk → ℕ
list_returned_number = said_number

-- the refusal's place, or how many bytes were written
abbrev pub list_answer_number : Said Chunk → ℕ
list_answer_number (faults.refusal n p) = p
list_answer_number (value c) = c.bytes

-- the station to go on from
abbrev pub list_next_number : Said Chunk → ℕ
list_next_number (faults.refusal n p) = mark_for_none
list_next_number (value c) = station_number c.next

-- ---- the seven marks
abbrev pub marks_returned_number : Said ℕ → ℕ
marks_returned_number = said_number

-- the refusal's place, or the set
abbrev pub marks_answer_number : Said ℕ → ℕ
marks_answer_number = said_answer

-- ---- a result that is another's, of which an answer is known, has the numbers of that answer
pub row-said : {given taken : Result ℕ Refusal} {a : Answer} {l m : List ℕ} → given ≡ taken → (of_row given ≡ a) × (l ≡ m) → (returned_number (of_row taken) ≡ returned_number a) × ((answer_number (of_row taken) ≡ answer_number a) × (l ≡ m))
row-said e g = let q = sym (ap of_row e) ∙ g.0 in (ap returned_number q, (ap answer_number q, g.1))

pub next-said : {given taken : Result (Option ℕ) Refusal} {a : Answer} → given ≡ taken → of_next given ≡ a → (returned_number (of_next taken) ≡ returned_number a) × (answer_number (of_next taken) ≡ answer_number a)
next-said e g = let q = sym (ap of_next e) ∙ g in (ap returned_number q, ap answer_number q)

pub list_said_lem : {given taken : Result Chunk Refusal} {a : Said Chunk} {l m : List ℕ} → given ≡ taken → (of_result given ≡ a) × (l ≡ m) → (list_returned_number (of_result taken) ≡ list_returned_number a) × ((list_answer_number (of_result taken) ≡ list_answer_number a) × ((list_next_number (of_result taken) ≡ list_next_number a) × (l ≡ m)))
list_said_lem e g = let q = sym (ap of_result e) ∙ g.0 in (ap list_returned_number q, (ap list_answer_number q, (ap list_next_number q, g.1)))

pub marks-said : {given taken : Result ℕ Refusal} {a : Said ℕ} → given ≡ taken → of_result given ≡ a → (marks_returned_number (of_result taken) ≡ marks_returned_number a) × (marks_answer_number (of_result taken) ≡ marks_answer_number a)
marks-said e g = let q = sym (ap of_result e) ∙ g in (ap marks_returned_number q, ap marks_answer_number q)
