-- A file that is turned away gets the same refusal at every call, the buffer stays as it was, and there is no row.
use Rattle.std.proofs.Common.{◌≡◌, refl, ap, ◌∙◌, ℕ, zero, suc, List, [], ◌∷◌, map, length, replicate, slice_get, Some}
use Rattle.std.proofs.lemmas.List.{length-map}
use Rattle.file_numbers.specs.Reading.{Got, refused}
use Rattle.road.specs.File.{Road}
use Rattle.road.specs.Rules.{accepted}
use Rattle.road.specs.Machine.{Call, row, next, refusal, After, row_on, buffer_on, next_on, row_answer, row_buffer, next_answer, step, trace}
use Rattle.runs.specs.Answers.{answer_of}
use Rattle.runs.specs.Calls.{call_of, calls_of, run_of}
use Rattle.runs.specs.Recorded.{Recorded, last_buffer}
use Rattle.runs.specs.RecordedRows.{TurnedAway}
use Rattle.runs.specs.declared.Call as lent
use Rattle.runs.specs.declared.Answer as written

-- what is seen after each call
abbrev away : (n p : ℕ) (b : List ℕ) → After
away n p b = record { answer = refusal n p; buffer = b }

last-same : (n p : ℕ) (b : List ℕ) (k : ℕ) → last_buffer b (replicate k (away n p b)) ≡ b
last-same n p b zero = refl
last-same n p b (suc k) = last-same n p b k

-- none of it is a row
answers-away : (n p : ℕ) (b : List ℕ) (xs : List written.Answer) (k i : ℕ) (x : written.Answer)
    → map answer_of xs ≡ map (λ (t : After). t.answer) (replicate k (away n p b)) → slice_get xs i ≡ Some x → answer_of x ≡ refusal n p
answers-away n p b [] k i x e is = cc
answers-away n p b (y ∷ xs) zero i x e is = cc
answers-away n p b (y ∷ xs) (suc k) zero x e is = cc
answers-away n p b (y ∷ xs) (suc k) (suc i) x e is = answers-away n p b xs k i x (cc) is

module _ (f : List ℕ) {n p : ℕ} (e : accepted f ≡ refused n p) where
  step-away : (b : List ℕ) (c : Call) → step f b c ≡ away n p b
  unfolding step row_answer row_buffer next_answer
  step-away b (row s) = ap (λ (g : Got Road). record { answer = row_on s (length b) g; buffer = buffer_on s b g }) e
  step-away b (next s) = ap (λ (g : Got Road). record { answer = next_on s g; buffer = b }) e

  -- of any list of calls, row and next alike
  pub same-refusal : (b : List ℕ) (calls : List Call) → trace f b calls ≡ replicate (length calls) (away n p b)
  unfolding trace
  same-refusal b [] = refl
  same-refusal b (c ∷ calls) =
      ap (λ (t : After). t ∷ trace f t.buffer calls) (step-away b c)
      ∙ ap (λ (ts : List After). away n p b ∷ ts) (same-refusal b calls)

  module _ {b : List ℕ} {calls : List lent.Call} {b' : List ℕ} {xs : List written.Answer} {fs : List ℕ} (r : Recorded f b calls b' xs fs) where
    run-away : run_of f b calls ≡ replicate (length calls) (away n p b)
    unfolding run_of
    run-away = same-refusal b (calls_of calls) ∙ ap (λ (k : ℕ). replicate k (away n p b)) (length-map calls call_of)

    pub turned-away : TurnedAway n p b calls b' xs fs
    turned-away = record {
      buffer = r.buffer ∙ ap (last_buffer b) run-away ∙ last-same n p b (length calls);
      seen = r.seen ∙ run-away;
      no_row = λ i s m w. let z = answers-away n p b xs (length calls) i _ (r.answers ∙ ap (map (λ (t : After). t.answer)) run-away) w.given in cc;
    }
