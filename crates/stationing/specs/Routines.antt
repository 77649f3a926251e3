-- What the two routines answer, by what the file gave and by the outcome of each test.
use Rattle.std.specs.Prelude.{◌≡◌, List, ◌++◌, ℕ, ◌+◌, ◌≤◌, ◌<◌, length, drop}
use Rattle.std.proofs.Math.Path.{refl, sym}
use Rattle.std.proofs.Common.{ap, ◌∙◌, arith, lt-ltb, le-ltb}
use Rattle.file_numbers.specs.Reading.{got, refused}
use Rattle.decimal.specs.Written.{Wrote, written}
use Rattle.road.specs.File.{Road}
use Rattle.road.specs.Exact.{total}
use Rattle.road.specs.Line.{line}
use Rattle.road.specs.Rules.{accepted}
use Rattle.road.specs.Faults.{value, of_got}
use Rattle.road.specs.Faults as faults
use Rattle.road.specs.Said.{Gives, gives_by, said-value, said-refusal}
use Rattle.road.specs.Machine.{Answer, refusal, wrote, row_of, row_on, buffer_of, buffer_on, overwrite, row_answer, row_buffer, next_of, next_on, next_answer}

-- a line written from the buffer's start on
pub overwritten : {b a x : List ℕ} {r : ℕ} → Wrote b a 0 x r → (r ≡ length x) × (a ≡ overwrite x b)
unfolding written overwrite
overwritten {b} {a} {x} {r} w =
    let e : 0 + length x ≡ length x = omega arith in
    (w.end ∙ e, w.bytes ∙ ap (λ (n : ℕ). x ++ drop n b) e)

-- what a row call answers, and what it leaves in the buffer
abbrev pub RowGives : (r : Road) (s : ℕ) (b : List ℕ) (answer : Answer) (final : List ℕ) → Type 0
RowGives r s b answer final = Gives (row_of r s (length b)) (buffer_of r s b) answer final

module _ (r : Road) (s : ℕ) (b : List ℕ) where
  -- 20
  pub row-short : length b < 96 → RowGives r s b (refusal 20 0) b
  row-short h = record { answered = rw (lt-ltb (length b) 96 h); buffer = rw (lt-ltb (length b) 96 h) }

  -- 21
  pub row-beyond : 96 ≤ length b → total r < s → RowGives r s b (refusal 21 0) b
  row-beyond h l = record { answered = rw (le-ltb (length b) 96 h, lt-ltb (total r) s l); buffer = rw (le-ltb (length b) 96 h, lt-ltb (total r) s l) }

  pub row_written : 96 ≤ length b → s ≤ total r → RowGives r s b (wrote (length (line r s))) (overwrite (line r s) b)
  row_written h l = record { answered = rw (le-ltb (length b) 96 h, le-ltb (total r) s l); buffer = rw (le-ltb (length b) 96 h, le-ltb (total r) s l) }

-- the answers of an accepted file are those of its road; a refused one keeps its refusal
module _ (f : List ℕ) (s : ℕ) where
  abbrev pub RowAsked : (b : List ℕ) (answer : Answer) (final : List ℕ) → Type 0
  RowAsked b answer final = Gives (row_answer f s (length b)) (row_buffer f s b) answer final

  module _ (b : List ℕ) where
    pub row-accepted : (r : Road) (end : ℕ) {answer : Answer} {final : List ℕ} → accepted f ≡ got r end → RowGives r s b answer final → RowAsked b answer final
    unfolding row_answer row_buffer
    row-accepted r end e g = gives_by (row_on s (length b)) (buffer_on s b) e g

    pub row-refused : (n p : ℕ) → accepted f ≡ refused n p → RowAsked b (refusal n p) b
    unfolding row_answer row_buffer
    row-refused n p e = gives_by (row_on s (length b)) (buffer_on s b) e (record { answered = refl; buffer = refl })

  pub next-accepted : (r : Road) (end : ℕ) → accepted f ≡ got r end → next_of r s ≡ next_answer f s
  unfolding next_answer
  next-accepted r end e = sym (ap (next_on s) e)

  pub next-refused : (n p : ℕ) → accepted f ≡ refused n p → refusal n p ≡ next_answer f s
  unfolding next_answer
  next-refused n p e = sym (ap (next_on s) e)

-- the same by what accepting the file gave
module _ (f : List ℕ) (s : ℕ) where
  pub row_answer-ok : (n : ℕ) {r : Road} → value r ≡ of_got (accepted f) → row_answer f s n ≡ row_of r s n
  unfolding row_answer
  row_answer-ok n h = ap (row_on s n) (said-value (accepted f) h).was

  pub row_answer-err : (n : ℕ) {k p : ℕ} → faults.refusal k p ≡ of_got (accepted f) → row_answer f s n ≡ refusal k p
  unfolding row_answer
  row_answer-err n h = ap (row_on s n) (said-refusal (accepted f) h)

  pub row_buffer-ok : (b : List ℕ) {r : Road} → value r ≡ of_got (accepted f) → row_buffer f s b ≡ buffer_of r s b
  unfolding row_buffer
  row_buffer-ok b h = ap (buffer_on s b) (said-value (accepted f) h).was

  pub row_buffer-err : (b : List ℕ) {k p : ℕ} → faults.refusal k p ≡ of_got (accepted f) → row_buffer f s b ≡ b
  unfolding row_buffer
  row_buffer-err b h = ap (buffer_on s b) (said-refusal (accepted f) h)

  pub next_answer-ok : {r : Road} → value r ≡ of_got (accepted f) → next_answer f s ≡ next_of r s
  unfolding next_answer
  next_answer-ok h = ap (next_on s) (said-value (accepted f) h).was

  pub next_answer-err : {k p : ℕ} → faults.refusal k p ≡ of_got (accepted f) → next_answer f s ≡ refusal k p
  unfolding next_answer
  next_answer-err h = ap (next_on s) (said-refusal (accepted f) h)

pub ruleset answers = (row_answer-ok, row_answer-err, row_buffer-ok, row_buffer-err, next_answer-ok, next_answer-err)
