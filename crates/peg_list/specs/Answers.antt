-- What a call for pegs answers and leaves in the buffer, by the outcome of each test.
use Rattle.std.specs.Prelude.{◌≡◌, List, ℕ, ◌*◌, ◌/◌, ◌%◌, ◌≤◌, ◌<◌, length, None, Some}
use Rattle.std.proofs.Math.Path.{refl}
use Rattle.std.proofs.Common.{ap, arith, div-add-mod', mod-lt, lt-ltb, le-ltb}
use Rattle.file_numbers.specs.Reading.{got, refused}
use Rattle.road.specs.File.{Road}
use Rattle.road.specs.Exact.{total}
use Rattle.road.specs.Rules.{accepted}
use Rattle.road.specs.Faults as faults
use Rattle.road.specs.Faults.{value, of_got}
use Rattle.road.specs.Said.{Gives, gives_by, said-value, said-refusal}
use Rattle.road.specs.Machine.{Answer, refusal, wrote, overwrite}
use Rattle.peg_list.specs.Pegs.{first_bad, lines, pegs_of, pegs_on, pegs_answer, buffer_of, buffer_on, pegs_buffer}

-- 96 bytes for each of n pegs, by a quotient
pub too_short : (room n : ℕ) → room / 96 < n → room < 96 * n
too_short room n h = let l : room % 96 < 96 = mod-lt room (omega arith) in omega (arith, div-add-mod' room 96)

pub long_enough : (room n : ℕ) → n ≤ room / 96 → 96 * n ≤ room
long_enough room n h = omega (arith, div-add-mod' room 96)

-- what a call for pegs answers, and what it leaves in the buffer
abbrev pub PegsGive : (r : Road) (pegs b : List ℕ) (answer : Answer) (final : List ℕ) → Type 0
PegsGive r pegs b answer final = Gives (pegs_of r pegs (length b)) (buffer_of r pegs b) answer final

module _ (r : Road) (pegs b : List ℕ) where
  -- 20
  pub pegs-short : length b < 96 * length pegs → PegsGive r pegs b (refusal 20 0) b
  pegs-short h = record { answered = rw (lt-ltb (length b) (96 * length pegs) h); buffer = rw (lt-ltb (length b) (96 * length pegs) h) }

  module _ (h : 96 * length pegs ≤ length b) where
    -- 24
    pub pegs-bad : (i : ℕ) → first_bad (total r) pegs ≡ Some i → PegsGive r pegs b (refusal 24 i) b
    pegs-bad i e = record { answered = rw (le-ltb (length b) (96 * length pegs) h, e); buffer = rw (le-ltb (length b) (96 * length pegs) h, e) }

    pub pegs-written : first_bad (total r) pegs ≡ None → PegsGive r pegs b (wrote (length (lines r pegs))) (overwrite (lines r pegs) b)
    pegs-written e = record { answered = rw (le-ltb (length b) (96 * length pegs) h, e); buffer = rw (le-ltb (length b) (96 * length pegs) h, e) }

module _ (f pegs b : List ℕ) where
  abbrev pub PegsAsked : (answer : Answer) (final : List ℕ) → Type 0
  PegsAsked answer final = Gives (pegs_answer f pegs (length b)) (pegs_buffer f pegs b) answer final

  pub pegs-accepted : (r : Road) (end : ℕ) {answer : Answer} {final : List ℕ} → accepted f ≡ got r end → PegsGive r pegs b answer final → PegsAsked answer final
  unfolding pegs_answer pegs_buffer
  pegs-accepted r end e g = gives_by (pegs_on pegs (length b)) (buffer_on pegs b) e g

  pub pegs-refused : (n p : ℕ) → accepted f ≡ refused n p → PegsAsked (refusal n p) b
  unfolding pegs_answer pegs_buffer
  pegs-refused n p e = gives_by (pegs_on pegs (length b)) (buffer_on pegs b) e (record { answered = refl; buffer = refl })

-- the same by what accepting the file gave
module _ (f pegs : List ℕ) where
  pub pegs_answer-ok : (room : ℕ) {r : Road} → value r ≡ of_got (accepted f) → pegs_answer f pegs room ≡ pegs_of r pegs room
  unfolding pegs_answer
  pegs_answer-ok room h = ap (pegs_on pegs room) (said-value (accepted f) h).was

  pub pegs_answer-err : (room : ℕ) {k p : ℕ} → faults.refusal k p ≡ of_got (accepted f) → pegs_answer f pegs room ≡ refusal k p
  unfolding pegs_answer
  pegs_answer-err room h = ap (pegs_on pegs room) (said-refusal (accepted f) h)

  pub pegs_buffer-ok : (b : List ℕ) {r : Road} → value r ≡ of_got (accepted f) → pegs_buffer f pegs b ≡ buffer_of r pegs b
  unfolding pegs_buffer
  pegs_buffer-ok b h = ap (buffer_on pegs b) (said-value (accepted f) h).was

  pub pegs_buffer-err : (b : List ℕ) {k p : ℕ} → faults.refusal k p ≡ of_got (accepted f) → pegs_buffer f pegs b ≡ b
  unfolding pegs_buffer
  pegs_buffer-err b h = ap (buffer_on pegs b) (said-refusal (accepted f) h)

pub ruleset answers = (pegs_answer-ok, pegs_answer-err, pegs_buffer-ok, pegs_buffer-err)
