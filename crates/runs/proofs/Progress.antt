-- How far a recorded run has come after k calls: what is written down is the machine's run on those.
use Rattle.std.proofs.Common.{◌≡◌, refl, sym, ap, ap₂, ◌∙◌, Bool, ℕ, suc, ◌+◌, ◌*◌, ◌<◌, ◌≤◌, List, [], ◌∷◌, ◌++◌, length, take, drop, set, get_or, map, arith, add-one, suc-mul, take_all, take-append-drop, length-set, length-append, length-drop, take-suc, take-suc-set, length-take-le, take_at, drop_at, mul-le-mul_right}
use Rattle.std.proofs.lemmas.List.{map-append}
use borrow.Rule.Slice.PartMut.{put_mid, post_of}
use Rattle.road.specs.Machine as machine
use Rattle.road.specs.Machine.{After, step, trace}
use Rattle.laws_of_lines.specs.Buffer.{step-length}
use Rattle.runs.specs.Answers.{answer_of, asks_row, answers_row}
use Rattle.runs.specs.Calls.{call_of, calls_of, run_of}
use Rattle.runs.specs.Recorded.{Recorded, RoutinesRecorded, last_buffer, seen_in}
use Rattle.runs.specs.declared.Call.{Call}
use Rattle.runs.specs.declared.Answer.{Answer}
use Rattle.runs.proofs.Seen.{seen-front, seen_more, recorded}

-- ---- the machine's run on one more call

last_more : (b : List ℕ) (ts : List After) (t : After) → last_buffer b (ts ++ (t ∷ [])) ≡ t.buffer
last_more b [] t = refl
last_more b (u ∷ ts) t = last_more u.buffer ts t

trace_more : (f b : List ℕ) (calls : List machine.Call) (c : machine.Call) → trace f b (calls ++ (c ∷ [])) ≡ trace f b calls ++ (step f (last_buffer b (trace f b calls)) c ∷ [])
unfolding trace
trace_more f b [] c = refl
trace_more f b (d ∷ calls) c = ap (λ ts. step f b d ∷ ts) (trace_more f (step f b d).buffer calls c)

run_more : (f b : List ℕ) (calls : List Call) (c : Call) → run_of f b (calls ++ (c ∷ [])) ≡ run_of f b calls ++ (step f (last_buffer b (run_of f b calls)) (call_of c) ∷ [])
unfolding run_of
run_more f b calls c = ap (trace f b) (map-append call_of calls (c ∷ [])) ∙ trace_more f b (calls_of calls) (call_of c)

-- ---- what is read back of one more frame

frame_more : (size k : ℕ) (xs : List Answer) (x : Answer) (fs b : List ℕ) → length xs ≡ k → k * size + size ≤ length fs → length b ≡ size
    → seen_in size (xs ++ (x ∷ [])) (put_mid (k * size) size fs b) ≡ seen_in size xs fs ++ (record { answer = answer_of x; buffer = b } ∷ [])
frame_more size k xs x fs b e room long =
    let front = take (k * size) fs in
    let rest = post_of (k * size) size fs in
    let same : length xs * size ≡ k * size = ap (λ n. n * size) e in
    let front-long : length front ≡ length xs * size = length-take-le (k * size) fs (omega arith) ∙ sym same in
    let before : seen_in size xs (put_mid (k * size) size fs b) ≡ seen_in size xs fs =
    seen-front size xs front (b ++ rest) (omega arith)
    ∙ sym (seen-front size xs front (drop (k * size) fs) (omega arith))
    ∙ ap (seen_in size xs) (take-append-drop (k * size) fs)
    in
    let here : take size (drop (length xs * size) (put_mid (k * size) size fs b)) ≡ b =
    ap (take size) (drop_at front (b ++ rest) (length xs * size) front-long) ∙ take_at b rest size long
    in
    seen_more size xs x (put_mid (k * size) size fs b)
    ∙ ap₂ (λ ts (l : List ℕ). ts ++ (record { answer = answer_of x; buffer = l } ∷ [])) before here

-- the frames stay as long as they were
length-put_mid : (a k : ℕ) (fs b : List ℕ) → a + k ≤ length fs → length b ≡ k → length (put_mid a k fs b) ≡ length fs
length-put_mid a k fs b room e =
    let rest = post_of a k fs in
    omega (arith, length-append (take a fs) (b ++ rest), length-append b rest, length-take-le a fs (omega arith), length-drop k (drop a fs), length-drop a fs)

-- ---- the record

pub record Progress (f b₀ : List ℕ) (calls : List Call) (k : ℕ) (b : List ℕ) (xs : List Answer) (fs : List ℕ) : Type 0 where
  pub size : length b ≡ length b₀
  pub answers-size : length xs ≡ length calls
  pub frames-size : length fs ≡ length calls * length b₀
  pub buffer : b ≡ last_buffer b₀ (run_of f b₀ (take k calls))
  pub seen : seen_in (length b₀) (take k xs) fs ≡ run_of f b₀ (take k calls)

-- call k has its frame
pub frame_fits : (k n size : ℕ) → k < n → k * size + size ≤ n * size
frame_fits k n size h = let h : suc k ≤ n = omega arith in omega (arith, mul-le-mul_right size h, suc-mul k size)

-- no call yet
pub none : {f b : List ℕ} {calls : List Call} {xs : List Answer} {fs : List ℕ} → length xs ≡ length calls → length fs ≡ length calls * length b → Progress f b calls 0 b xs fs
unfolding run_of trace
none a l = record { size = refl; answers-size = a; frames-size = l; buffer = refl; seen = refl }

-- one more call, and one more answer
asked : (calls : List Call) {k : ℕ} (d : Call) → k < length calls → take (k + 1) calls ≡ take k calls ++ (get_or calls k d ∷ [])
asked calls {k} d h = rw (add-one k) (take-suc calls k d h)

written : (xs : List Answer) {k n : ℕ} (x : Answer) → k < n → length xs ≡ n → take (k + 1) (set xs k x) ≡ take k xs ++ (x ∷ [])
written xs {k} x h e = rw (add-one k) (take-suc-set xs k x (omega arith))

module _ {f b₀ : List ℕ} {calls : List Call} {k : ℕ} {b : List ℕ} {xs : List Answer} {fs : List ℕ} (p : Progress f b₀ calls k b xs fs) where
  -- one more: its answer, the buffer after it, and that buffer in its frame
  pub turn : (d : Call) (x : Answer) {b' frame : List ℕ} {width : ℕ} → k < length calls
      → answer_of x ≡ (step f b (call_of (get_or calls k d))).answer → b' ≡ (step f b (call_of (get_or calls k d))).buffer
      → frame ≡ b' → width ≡ length b₀
      → Progress f b₀ calls (k + 1) b' (set xs k x) (put_mid (k * length b₀) width fs frame)
  turn d x {b'} h said left same wide =
      let size = length b₀ in
      let c : Call = get_or calls k d in
      let t : After = step f b (call_of c) in
      let room : k * size + size ≤ length fs = omega (arith, frame_fits k (length calls) size h, p.frames-size) in
      let long : length b' ≡ size = ap length left ∙ step-length f b (call_of c) ∙ p.size in
      let more : run_of f b₀ (take (k + 1) calls) ≡ run_of f b₀ (take k calls) ++ (t ∷ []) =
      ap (run_of f b₀) (asked calls d h)
      ∙ run_more f b₀ (take k calls) c
      ∙ ap (λ l. run_of f b₀ (take k calls) ++ (step f l (call_of c) ∷ [])) (sym p.buffer)
      in
      rw (same, wide)
      (record {
        size = long;
        answers-size = length-set xs k x ∙ p.answers-size;
        frames-size = length-put_mid (k * size) size fs b' room long ∙ p.frames-size;
        buffer = left ∙ sym (last_more b₀ (run_of f b₀ (take k calls)) t) ∙ ap (last_buffer b₀) (sym more);
        seen =
            ap (λ l. seen_in size l (put_mid (k * size) size fs b')) (written xs x h p.answers-size)
            ∙ frame_more size k (take k xs) x fs b' (length-take-le k xs (omega (arith, p.answers-size))) room long
            ∙ ap₂ (λ ts u. ts ++ (u ∷ [])) p.seen (ap₂ (λ y (l : List ℕ). record { answer = y; buffer = l }) said left)
            ∙ sym more;
      })

  -- all of them
  pub done : length calls ≤ k → Recorded f b₀ calls b xs fs
  done h =
      let all : take k calls ≡ calls = take_all k calls h in
      let whole : take k xs ≡ xs = take_all k xs (omega (arith, p.answers-size)) in
      recorded f b₀ calls b xs fs (p.frames-size ∙ ap (λ n. n * length b₀) (sym p.answers-size)) (rw all at p.buffer) (rw (all, whole) at p.seen)

-- ---- the same, with each answer of the routine that its call asks

pub record ProgressByRoutine (f b₀ : List ℕ) (calls : List Call) (k : ℕ) (b : List ℕ) (xs : List Answer) (fs : List ℕ) : Type 0 where
  pub progress : Progress f b₀ calls k b xs fs
  pub routines : RoutinesRecorded (take k calls) (take k xs)

pub none_by_routine : {f b : List ℕ} {calls : List Call} {xs : List Answer} {fs : List ℕ} → length xs ≡ length calls → length fs ≡ length calls * length b → ProgressByRoutine f b calls 0 b xs fs
none_by_routine a l = record { progress = none a l; routines = refl }

module _ {f b₀ : List ℕ} {calls : List Call} {k : ℕ} {b : List ℕ} {xs : List Answer} {fs : List ℕ} (p : ProgressByRoutine f b₀ calls k b xs fs) where
  pub turn_by_routine : (d : Call) (x : Answer) {b' frame : List ℕ} {width : ℕ} → k < length calls
      → answer_of x ≡ (step f b (call_of (get_or calls k d))).answer → answers_row x ≡ asks_row (call_of (get_or calls k d))
      → b' ≡ (step f b (call_of (get_or calls k d))).buffer
      → frame ≡ b' → width ≡ length b₀
      → ProgressByRoutine f b₀ calls (k + 1) b' (set xs k x) (put_mid (k * length b₀) width fs frame)
  turn_by_routine d x h said own left same wide =
      let c : Call = get_or calls k d in
      record {
        progress = turn p.progress d x h said left same wide;
        routines =
            ap (map answers_row) (written xs x h p.progress.answers-size)
            ∙ map-append answers_row (take k xs) (x ∷ [])
            ∙ ap₂ (λ bs (t : Bool). bs ++ (t ∷ [])) p.routines own
            ∙ sym (map-append asks_row (calls_of (take k calls)) (call_of c ∷ []))
            ∙ sym (ap (map asks_row) (ap calls_of (asked calls d h) ∙ map-append call_of (take k calls) (c ∷ [])));
      }

  pub done_routines : length calls ≤ k → RoutinesRecorded calls xs
  done_routines h =
      let all : take k calls ≡ calls = take_all k calls h in
      let whole : take k xs ≡ xs = take_all k xs (omega (arith, p.progress.answers-size)) in
      rw (all, whole) at p.routines
