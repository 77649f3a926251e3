-- What the claims of `runs::run` ask for is met: sizes that fit, a record of any run, a file that is turned away, rows, and the listing's run with a row at each listed station.
use Rattle.std.proofs.Common.{◌≡◌, refl, sym, ap, ◌∙◌, subst, subst₂, true, ℕ, zero, suc, ◌*◌, ◌≤◌, ◌<◌, map, length, get_or, slice_get, Some, None, Ok, Err, arith, suc-mul, zero-mul, length-append, take_at, drop_at}
use mathlib.Core.List.Memᴰ
use mathlib.Core.List.{List, [], ◌∷◌, Memᴰ}
use Rattle.file_numbers.specs.Reading.{got, refused}
use Rattle.road.specs.File.{Road}
use Rattle.integers.specs.Fraction.{◌-ᶠ◌, size, ◌≤ᶠ◌}
use Rattle.road.specs.Exact.{Side, total, edge}
use Rattle.road.specs.Blade.{blade, bound}
use Rattle.road.specs.Demand.{printed_height}
use Rattle.road.specs.Listed.{listed}
use Rattle.road.specs.Line.{line}
use Rattle.road.specs.Rules.{accepted}
use Rattle.road.specs.Machine as machine
use Rattle.road.specs.Machine.{After, row_answer, step, trace}
use Rattle.road.specs.Listing.{listing_calls}
use Rattle.road.specs.Compute.{computed}
use Rattle.laws_of_lines.specs.Buffer.{step-length}
use Rattle.laws_of_search.specs.Members.{item_has}
use Rattle.laws_of_blade.specs.Neighbours.{listed-neighbouring}
use Rattle.laws_of_stations.specs.Visits.{row_at}
use Rattle.stationing.specs.Routines.{row_written, row-accepted}
use Rattle.runs.specs.Answers.{answer_of}
use Rattle.runs.specs.Calls.{call_of, calls_of, lent, calls_back, run_of}
use Rattle.runs.specs.Recorded.{Recorded, RoutinesRecorded, sized, last_buffer, frames_of, seen_in}
use Rattle.runs.specs.RecordedRows.{Close, IsRow, BladeRecorded, TurnedAway}
use Rattle.runs.specs.Listing.{ListingRecorded}
use Rattle.runs.specs.declared.Call.{Call}
use Rattle.runs.specs.declared.Answer.{Answer}
use Rattle.runs.specs.declared.Call.TheVariants as asked
use Rattle.runs.specs.declared.Answer.TheVariants as answered
use Rattle.runs.specs.Answered.{answer_back}
use Rattle.runs.proofs.Sizes.{fit-sized}
use Rattle.runs.proofs.Seen.{recorded}
use Rattle.runs.proofs.RowsBack.{RowCall, row-call, blade-recorded}
use Rattle.runs.proofs.Refused.{turned-away}
use Rattle.runs.proofs.Listing.{listing-recorded}

-- ---- any run is recorded in slices of sizes that fit

answers-of : (f b : List ℕ) → List Call → List Answer
answers-of f b [] = []
answers-of f b (c ∷ calls) = (answer_back f b (call_of c)).0 ∷ answers-of f (step f b (call_of c)).buffer calls

answers-length : (f b : List ℕ) (calls : List Call) → length (answers-of f b calls) ≡ length calls
unfolding answers-of
answers-length f b [] = refl
answers-length f b (c ∷ calls) = ap suc (answers-length f (step f b (call_of c)).buffer calls)

frames-length : (f b : List ℕ) (calls : List Call) (size : ℕ) → length b ≡ size → length (frames_of (run_of f b calls)) ≡ length calls * size
unfolding run_of trace
frames-length f b [] size e = sym (zero-mul size)
frames-length f b (c ∷ calls) size e =
    let t = step f b (call_of c) in
    let k : length t.buffer ≡ size = step-length f b (call_of c) ∙ e in
    omega (arith, length-append t.buffer (frames_of (run_of f t.buffer calls)), frames-length f t.buffer calls size k, suc-mul (length calls) size)

run-seen : (f b : List ℕ) (calls : List Call) (size : ℕ) → length b ≡ size → seen_in size (answers-of f b calls) (frames_of (run_of f b calls)) ≡ run_of f b calls
unfolding run_of trace answers-of
run-seen f b [] size e = refl
run-seen f b (c ∷ calls) size e =
    let t = step f b (call_of c) in
    let k : length t.buffer ≡ size = step-length f b (call_of c) ∙ e in
    let rest = frames_of (run_of f t.buffer calls) in
    rw (take_at t.buffer rest size k, drop_at t.buffer rest size k, (answer_back f b (call_of c)).1, run-seen f t.buffer calls size k)

answers_own : (f b : List ℕ) (calls : List Call) → RoutinesRecorded calls (answers-of f b calls)
unfolding answers-of
answers_own f b [] = refl
answers_own f b (c ∷ calls) = rw ((answer_back f b (call_of c)).2, answers_own f (step f b (call_of c)).buffer calls)

-- a record of the run on these calls
pub record RunRecord (f b : List ℕ) (calls : List Call) : Type 0 where
  pub last : List ℕ
  pub answers : List Answer
  pub frames : List ℕ
  pub fits : sized (length calls) (length answers) (length b) (length frames) ≡ true
  pub recorded : Recorded f b calls last answers frames
  pub routines : RoutinesRecorded calls answers

pub run-recorded : (f b : List ℕ) (calls : List Call) → RunRecord f b calls
run-recorded f b calls =
    let xs = answers-of f b calls in
    let fs = frames_of (run_of f b calls) in
    let even = answers-length f b calls in
    let full = frames-length f b calls (length b) refl in
    record {
      last = last_buffer b (run_of f b calls);
      answers = xs;
      frames = fs;
      fits = fit-sized (length calls) (length xs) (length b) (length fs) even full;
      recorded = recorded f b calls _ xs fs (full ∙ ap (λ n. n * length b) (sym even)) refl (run-seen f b calls (length b) refl);
      routines = answers_own f b calls;
    }

-- ---- any run on the empty file, which is refused "2 at 0"

empty-refused : accepted [] ≡ refused 2 0
unfolding computed
empty-refused = refl

pub empty-turned-away : (b : List ℕ) (calls : List Call) → (let w = run-recorded [] b calls in TurnedAway 2 0 b calls w.last w.answers w.frames)
empty-turned-away b calls = turned-away [] empty-refused (run-recorded [] b calls).recorded

-- ---- a row call up to T, of an accepted file and in a buffer of 96 bytes or more, leaves a row

module _ (f : List ℕ) (r : Road) (end : ℕ) (e : accepted f ≡ got r end) where
  -- the machine's answer to it
  step_row : (b : List ℕ) (s : ℕ) → 96 ≤ length b → s ≤ total r → (step f b (machine.row s)).answer ≡ machine.wrote (length (line r s))
  unfolding step
  step_row b s room h = sym (row-accepted f s b r end e (row_written r s b room h)).answered

  -- only a row call's length says so
  length-given : (x : Answer) (n : ℕ) → answer_of x ≡ machine.wrote n → x ≡ answered.Row (Ok n)
  length-given (answered.Row (Ok m)) n h = cc
  length-given (answered.Row (Err e)) n h = cc
  length-given (answered.Next (Err e)) n h = cc
  length-given (answered.Next (Ok (Some s))) n h = cc
  length-given (answered.Next (Ok None)) n h = cc

  row-given-in : (b : List ℕ) (calls : List Call) (xs : List Answer) (i s : ℕ) → 96 ≤ length b → map answer_of xs ≡ map (λ (t : After). t.answer) (run_of f b calls)
      → slice_get calls i ≡ Some (asked.Row s) → s ≤ total r → IsRow calls xs i s (length (line r s))
  unfolding run_of trace
  row-given-in b [] xs i s room h q l = cc
  row-given-in b (c ∷ calls) [] i s room h q l = cc
  row-given-in b (c ∷ calls) (x ∷ xs) zero s room h q l =
      let c-is : c ≡ asked.Row s = cc in
      let said : answer_of x ≡ (step f b (call_of c)).answer = cc in
      record { asked = q; given = ap Some (length-given x (length (line r s)) (said ∙ ap (λ (d : Call). (step f b (call_of d)).answer) c-is ∙ step_row b s room l)) }
  row-given-in b (c ∷ calls) (x ∷ xs) (suc i) s room h q l =
      let w = row-given-in (step f b (call_of c)).buffer calls xs i s (omega (arith, step-length f b (call_of c))) (cc) q l in
      record { asked = w.asked; given = w.given }

  pub row-given : {b : List ℕ} {calls : List Call} {b' : List ℕ} {xs : List Answer} {fs : List ℕ} → Recorded f b calls b' xs fs
      → 96 ≤ length b → (i s : ℕ) → slice_get calls i ≡ Some (asked.Row s) → s ≤ total r → IsRow calls xs i s (length (line r s))
  row-given {b} {calls} {b'} {xs} w room i s q l = row-given-in b calls xs i s room w.answers q l

-- ---- the listing's run

-- a recorded run that makes the listing program's calls, in which each listed station has its row
pub record ListingRecord (f b : List ℕ) (r : Road) : Type 0 where
  pub calls : List Call
  pub run : RunRecord f b calls
  pub the_calls : calls_of calls ≡ listing_calls f
  pub rows : (x : ℕ) → Memᴰ x (listed r) → RowCall (length b) calls run.answers run.frames (row_at r x)

pub listing_met : (f b : List ℕ) (r : Road) (end : ℕ) → accepted f ≡ got r end → 96 ≤ length b → ListingRecord f b r
unfolding ListingRecorded
listing_met f b r end e room =
    let calls = map lent (listing_calls f) in
    let back = calls_back (listing_calls f) in
    let run = run-recorded f b calls in
    let all = (listing-recorded run.recorded back r end e room).lines_are in
    record {
      calls = calls;
      run = run;
      the_calls = back;
      rows = λ x m. row-call (length b) calls run.answers run.frames (subst (Memᴰ (row_at r x)) (sym all) (Memᴰ.map (row_at r) m));
    }

-- demand 3 of it, of the rows of any two listed stations
pub listed-blade : (f b : List ℕ) (r : Road) (end : ℕ) → accepted f ≡ got r end → 96 ≤ length b → (x y : ℕ) → Memᴰ x (listed r) → Memᴰ y (listed r) → Close r (row_at r x) (row_at r y)
unfolding BladeRecorded
listed-blade f b r end e room x y mx my =
    let w = listing_met f b r end e room in
    let cx = w.rows x mx in
    let cy = w.rows y my in
    subst₂ (Close r) cx.row_is cy.row_is (blade-recorded w.run.recorded r end e _ _ _ cx.is_row _ _ _ cy.is_row)

-- and so of the rows of each two successive listed stations, which are neighbouring
pub successive_blade : (f b : List ℕ) (r : Road) (end : ℕ) → accepted f ≡ got r end → 96 ≤ length b → (i : ℕ) → suc i < length (listed r)
    → (d : Side) (x : ℕ) → get_or (listed r) i 0 ≤ x → x ≤ get_or (listed r) (suc i) 0
    → size (blade (printed_height d (row_at r (get_or (listed r) i 0))) (printed_height d (row_at r (get_or (listed r) (suc i) 0))) (get_or (listed r) i 0) (get_or (listed r) (suc i) 0) x -ᶠ edge d r x)
    ≤ᶠ bound r (get_or (listed r) i 0) (get_or (listed r) (suc i) 0)
unfolding Close
successive_blade f b r end e room i h = listed-blade f b r end e room _ _ (item_has 0 (listed r) i (omega arith)) (item_has 0 (listed r) (suc i) h) (listed-neighbouring r i h)
