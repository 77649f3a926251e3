-- Each answer of the plain machine stands in a recorded one, of the routine that was called.
use Rattle.std.specs.Prelude.{◌≡◌, refl, Bool, true, false, if◌then◌else◌, List, ℕ, zero, suc, length, ltb, Option, Some, None, Result, Ok, Err}
use Rattle.std.proofs.Common.{◌⊎◌, inl, inr, ap, arith}
use Rattle.file_numbers.specs.Reading.{Got, got, refused}
use Rattle.road.specs.File.{Road, read}
use Rattle.road.specs.Exact.{total}
use Rattle.road.specs.Faults.{fault_number}
use Rattle.road.specs.Line.{line}
use Rattle.road.specs.Listed.{next_listed}
use Rattle.road.specs.Rules.{order, accepted}
use Rattle.road.specs.declared.refusal.Fault.{Fault}
use Rattle.road.specs.declared.refusal.Fault.TheVariants.{LongFile, BrokenNumber, OutOfRange, BytesBehind, Broken, ShortBuffer, BeyondEnd, NoDay}
use Rattle.road.specs.declared.refusal.Refusal.{Refusal}
use Rattle.road.specs.Machine as machine
use Rattle.road.specs.Machine.{Call, row, next, refusal, wrote, station, no_station, of_row, of_next, row_on, row_answer, station_or, next_on, next_answer, step}
use Rattle.laws_of_acceptance.specs.Judging.{rule_at}
use Rattle.laws_of_acceptance.specs.Refusals.{ByRule, WithinOr, refused_iff, read_number}
use Rattle.runs.specs.Answers.{answer_of, asks_row, answers_row}
use Rattle.runs.specs.declared.Answer.{Answer}
use Rattle.runs.specs.declared.Answer.TheVariants as answered

-- what a file that does not read is refused for
read-fault : (n : ℕ) → WithinOr 1 4 22 n → (e : Fault) × (fault_number e ≡ n)
read-fault zero (inl w) = absurd (let l = w.low in omega arith)
read-fault (suc zero) (inl w) = (LongFile, refl)
read-fault (suc (suc zero)) (inl w) = (BrokenNumber, refl)
read-fault (suc (suc (suc zero))) (inl w) = (OutOfRange, refl)
read-fault (suc (suc (suc (suc zero)))) (inl w) = (BytesBehind, refl)
read-fault (suc (suc (suc (suc (suc n))))) (inl w) = absurd (let h = w.high in omega arith)
read-fault n (inr e) = (NoDay, cc)

-- what a file is turned away for
fault : (f : List ℕ) (n p : ℕ) → accepted f ≡ refused n p → (e : Fault) × (fault_number e ≡ n)
fault f n p e = go ((refused_iff f n p).0 e)
  where
    go : (read f ≡ refused n p) ⊎ ByRule f n p → (e : Fault) × (fault_number e ≡ n)
    go (inl r) = read-fault n (read_number f n p r)
    go (inr b) = (Broken (rule_at order b.lowest.place), b.lowest.number)

-- a result of the row routine says the machine's answer
pub row-answer : (f : List ℕ) (s room : ℕ) → (r : Result ℕ Refusal) × (of_row r ≡ row_answer f s room)
unfolding row_answer
row-answer f s room = by (accepted f) refl
  where
    by : (g : Got Road) → accepted f ≡ g → (r : Result ℕ Refusal) × (of_row r ≡ row_on s room g)
    by (refused n p) e = let w = fault f n p e in (Err (record { fault = w.0; place = p }), ap (λ (k : ℕ). refusal k p) w.1)
    by (got r end) e = tests (ltb room 96) (ltb (total r) s)
      where
        tests : (c d : Bool) → (a : Result ℕ Refusal) × (of_row a ≡ (if c then refusal 20 0 else (if d then refusal 21 0 else wrote (length (line r s)))))
        tests true d = (Err (record { fault = ShortBuffer; place = 0 }), refl)
        tests false true = (Err (record { fault = BeyondEnd; place = 0 }), refl)
        tests false false = (Ok (length (line r s)), refl)

-- so does one of the next routine
pub next-answer : (f : List ℕ) (s : ℕ) → (r : Result (Option ℕ) Refusal) × (of_next r ≡ next_answer f s)
unfolding next_answer
next-answer f s = by (accepted f) refl
  where
    listed : (o : Option ℕ) → of_next (Ok o) ≡ station_or o
    listed (Some x) = refl
    listed None = refl

    by : (g : Got Road) → accepted f ≡ g → (r : Result (Option ℕ) Refusal) × (of_next r ≡ next_on s g)
    by (refused n p) e = let w = fault f n p e in (Err (record { fault = w.0; place = p }), ap (λ (k : ℕ). refusal k p) w.1)
    by (got r end) e = (Ok (next_listed r s), listed (next_listed r s))

-- whatever the file, the buffer and the call
pub answer_back : (f b : List ℕ) (c : Call) → (x : Answer) × (answer_of x ≡ (step f b c).answer) × (answers_row x ≡ asks_row c)
unfolding step
answer_back f b (row s) = let r = row-answer f s (length b) in (answered.Row r.0, r.1, refl)
answer_back f b (next s) = let r = next-answer f s in (answered.Next r.0, r.1, refl)

-- the answers that a call may have: a refusal of any fault, a row call a line's length, a next call a station or that there is none
abbrev pub AnswerFor : Call → machine.Answer → Type 0
AnswerFor c (refusal n p) = (e : Fault) × (fault_number e ≡ n)
AnswerFor (row s) (wrote n) = Unit {0}
AnswerFor (row s) (station x) = ⊥
AnswerFor (row s) no_station = ⊥
AnswerFor (next s) (wrote n) = ⊥
AnswerFor (next s) (station x) = Unit {0}
AnswerFor (next s) no_station = Unit {0}

-- each of them stands in a recorded one, too
pub any_answer : (c : Call) (a : machine.Answer) → AnswerFor c a → (x : Answer) × (answer_of x ≡ a) × (answers_row x ≡ asks_row c)
any_answer (row s) (refusal n p) w = (answered.Row (Err (record { fault = w.0; place = p })), ap (λ (k : ℕ). refusal k p) w.1, refl)
any_answer (next s) (refusal n p) w = (answered.Next (Err (record { fault = w.0; place = p })), ap (λ (k : ℕ). refusal k p) w.1, refl)
any_answer (row s) (wrote n) w = (answered.Row (Ok n), refl, refl)
any_answer (row s) (station x) w = absurd w
any_answer (row s) no_station w = absurd w
any_answer (next s) (wrote n) w = absurd w
any_answer (next s) (station x) w = (answered.Next (Ok (Some x)), refl, refl)
any_answer (next s) no_station w = (answered.Next (Ok None), refl, refl)
