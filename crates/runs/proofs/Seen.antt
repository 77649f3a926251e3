-- What is read back from a record: one more call behind those before, and the machine's whole run.
use Rattle.std.proofs.Common.{◌≡◌, refl, sym, ap, ◌∙◌, ℕ, ◌*◌, ◌≤◌, List, [], ◌∷◌, ◌++◌, map, length, take, drop, arith, zero-mul, suc-mul, add_comm, drop-drop, length-drop, take-add, take_all}
use Rattle.std.proofs.lemmas.List.{take-append-le, drop-append-le}
use Rattle.road.specs.Machine.{After}
use Rattle.runs.specs.Answers.{answer_of}
use Rattle.runs.specs.Calls.{run_of}
use Rattle.runs.specs.Recorded.{Recorded, frames_of, last_buffer, seen_in}
use Rattle.runs.specs.declared.Call.{Call}
use Rattle.runs.specs.declared.Answer.{Answer}

-- ---- one more call

-- what lies behind the frames of the calls is not read
pub seen-front : (size : ℕ) (xs : List Answer) (fs gs : List ℕ) → length xs * size ≤ length fs → seen_in size xs (fs ++ gs) ≡ seen_in size xs fs
seen-front size [] fs gs h = refl
seen-front size (x ∷ xs) fs gs h =
    let m = suc-mul (length xs) size in
    let s : size ≤ length fs = omega arith in
    rw (take-append-le size fs gs s, drop-append-le size fs gs s)
    (ap (λ ts. record { answer = answer_of x; buffer = take size fs } ∷ ts) (seen-front size xs (drop size fs) gs (omega (arith, length-drop size fs))))

pub seen_more : (size : ℕ) (xs : List Answer) (x : Answer) (fs : List ℕ)
    → seen_in size (xs ++ (x ∷ [])) fs ≡ seen_in size xs fs ++ (record { answer = answer_of x; buffer = take size (drop (length xs * size) fs) } ∷ [])
seen_more size [] x fs = rw zero-mul
seen_more size (y ∷ xs) x fs =
    ap (λ ts. record { answer = answer_of y; buffer = take size fs } ∷ ts) (seen_more size xs x (drop size fs))
    ∙ rw (drop-drop (length xs * size) size fs, add_comm size (length xs * size), suc-mul (length xs) size)

-- ---- the whole record

-- its answers
seen_answers : (size : ℕ) (xs : List Answer) (fs : List ℕ) → map (λ (t : After). t.answer) (seen_in size xs fs) ≡ map answer_of xs
seen_answers size [] fs = refl
seen_answers size (x ∷ xs) fs = ap (λ l. answer_of x ∷ l) (seen_answers size xs (drop size fs))

-- its frames
seen_frames : (size : ℕ) (xs : List Answer) (fs : List ℕ) → frames_of (seen_in size xs fs) ≡ take (length xs * size) fs
seen_frames size [] fs = rw zero-mul
seen_frames size (x ∷ xs) fs =
    ap (λ l. take size fs ++ l) (seen_frames size xs (drop size fs))
    ∙ rw (suc-mul (length xs) size, add_comm (length xs * size) size, take-add size (length xs * size) fs)

-- what was seen is the machine's run, and so is all that was written down
pub recorded : (f b : List ℕ) (calls : List Call) (b' : List ℕ) (xs : List Answer) (fs : List ℕ)
    → length fs ≡ length xs * length b → b' ≡ last_buffer b (run_of f b calls) → seen_in (length b) xs fs ≡ run_of f b calls
    → Recorded f b calls b' xs fs
recorded f b calls b' xs fs long last seen = record {
  buffer = last;
  answers = sym (seen_answers (length b) xs fs) ∙ ap (map (λ (t : After). t.answer)) seen;
  frames = sym (take_all (length xs * length b) fs (omega arith)) ∙ sym (seen_frames (length b) xs fs) ∙ ap frames_of seen;
  seen = seen;
}
