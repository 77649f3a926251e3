-- The list of a file in parts: the rows of the listed stations from a station on, as many whole rows as a buffer has room for.
use Rattle.std.specs.Prelude.{◌≡◌, List, ℕ, ◌≤◌, ◌<◌, length, ltb, if◌then◌else◌}
use Rattle.std.proofs.Math.Path.{refl}
use Rattle.std.proofs.Common.{ap, lt-ltb, le-ltb}
use Rattle.file_numbers.specs.Reading.{Got, got, refused}
use Rattle.road.specs.File.{Road}
use Rattle.road.specs.Rules.{accepted}
use Rattle.road.specs.Faults.{Said, value, refusal, of_got}
use Rattle.road.specs.Said.{Gives, gives_by, said-value, said-refusal}
use Rattle.road.specs.Machine.{overwrite}
use Rattle.walk.specs.FittingRows.{chunk, answer}
use Rattle.walk.specs.declared.Chunk.{Chunk}

-- the file's refusals; then 20 for a buffer under 96 bytes; else as many rows as fit
abbrev pub list_from : Road → (station room : ℕ) → Said Chunk
list_from r s room = if ltb room 96 then refusal 20 0 else value (answer (chunk r s room))

abbrev pub list_on : (station room : ℕ) → Got Road → Said Chunk
list_on s room (refused n p) = refusal n p
list_on s room (got r _) = list_from r s room

unfoldable pub list_answer : List ℕ → (station room : ℕ) → Said Chunk
list_answer f s room = list_on s room (accepted f)

-- the rows over the first bytes of the buffer; a refusal leaves it untouched
abbrev pub rows_from : Road → (station : ℕ) → List ℕ → List ℕ
rows_from r s b = if ltb (length b) 96 then b else overwrite (chunk r s (length b)).text b

abbrev pub rows_on : (station : ℕ) → List ℕ → Got Road → List ℕ
rows_on s b (refused _ _) = b
rows_on s b (got r _) = rows_from r s b

unfoldable pub list_buffer : List ℕ → (station : ℕ) → List ℕ → List ℕ
list_buffer f s b = rows_on s b (accepted f)

-- ---- laws
abbrev pub ListGives : (r : Road) (s : ℕ) (b : List ℕ) (given : Said Chunk) (final : List ℕ) → Type 0
ListGives r s b given final = Gives (list_from r s (length b)) (rows_from r s b) given final

module _ (r : Road) (s : ℕ) (b : List ℕ) where
  pub list_short : length b < 96 → ListGives r s b (refusal 20 0) b
  list_short h = record { answered = rw (lt-ltb (length b) 96 h); buffer = rw (lt-ltb (length b) 96 h) }

  pub list_part : 96 ≤ length b → ListGives r s b (value (answer (chunk r s (length b)))) (overwrite (chunk r s (length b)).text b)
  list_part h = record { answered = rw (le-ltb (length b) 96 h); buffer = rw (le-ltb (length b) 96 h) }

module _ (f : List ℕ) (s : ℕ) (b : List ℕ) where
  abbrev pub ListAsked : (given : Said Chunk) (final : List ℕ) → Type 0
  ListAsked given final = Gives (list_answer f s (length b)) (list_buffer f s b) given final

  pub list_accepted : (r : Road) (end : ℕ) {given : Said Chunk} {final : List ℕ} → accepted f ≡ got r end → ListGives r s b given final → ListAsked given final
  unfolding list_answer list_buffer
  list_accepted r end e g = gives_by (list_on s (length b)) (rows_on s b) e g

  pub list_refused : (n p : ℕ) → accepted f ≡ refused n p → ListAsked (refusal n p) b
  unfolding list_answer list_buffer
  list_refused n p e = gives_by (list_on s (length b)) (rows_on s b) e (record { answered = refl; buffer = refl })

-- the same by what accepting the file gave
module _ (f : List ℕ) (s : ℕ) where
  pub list_answer-ok : (room : ℕ) {r : Road} → value r ≡ of_got (accepted f) → list_answer f s room ≡ list_from r s room
  unfolding list_answer
  list_answer-ok room h = ap (list_on s room) (said-value (accepted f) h).was

  pub list_answer-err : (room : ℕ) {k p : ℕ} → refusal k p ≡ of_got (accepted f) → list_answer f s room ≡ refusal k p
  unfolding list_answer
  list_answer-err room h = ap (list_on s room) (said-refusal (accepted f) h)

  pub list_buffer-ok : (b : List ℕ) {r : Road} → value r ≡ of_got (accepted f) → list_buffer f s b ≡ rows_from r s b
  unfolding list_buffer
  list_buffer-ok b h = ap (rows_on s b) (said-value (accepted f) h).was

  pub list_buffer-err : (b : List ℕ) {k p : ℕ} → refusal k p ≡ of_got (accepted f) → list_buffer f s b ≡ b
  unfolding list_buffer
  list_buffer-err b h = ap (rows_on s b) (said-refusal (accepted f) h)

pub ruleset answers = (list_answer-ok, list_answer-err, list_buffer-ok, list_buffer-err)
