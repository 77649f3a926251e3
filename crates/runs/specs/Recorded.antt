-- What the lent slices hold after a run: each answer, and every byte of the buffer after each call, one behind another.
use Rattle.std.specs.Prelude.{ℕ, ◌*◌, Bool, ◌&&◌, ◌≡◌, List, [], ◌∷◌, ◌++◌, map, eqb, length, take, drop}
use Rattle.road.specs.Machine.{After}
use Rattle.runs.specs.Answers.{answer_of, asks_row, answers_row}
use Rattle.runs.specs.Calls.{calls_of, run_of}
use Rattle.runs.specs.declared.Call.{Call}
use Rattle.runs.specs.declared.Answer.{Answer}

-- the buffer at the end of a run
abbrev pub last_buffer : (buffer : List ℕ) → List After → List ℕ
last_buffer b [] = b
last_buffer b (t ∷ ts) = last_buffer t.buffer ts

-- the buffers after each call, one behind another
abbrev pub frames_of : List After → List ℕ
frames_of [] = []
frames_of (t ∷ ts) = t.buffer ++ frames_of ts

-- what a record says was seen after each call: its answer, and the next size bytes of the frames
abbrev pub seen_in : (size : ℕ) → List Answer → (frames : List ℕ) → List After
seen_in size [] fs = []
seen_in size (x ∷ xs) fs = record { answer = answer_of x; buffer = take size fs } ∷ seen_in size xs (drop size fs)

-- the machine's run on file f, first buffer b and these calls, with last buffer b', answers xs and frames fs
pub record Recorded (f b : List ℕ) (calls : List Call) (b' : List ℕ) (xs : List Answer) (fs : List ℕ) : Type 0 where
  pub buffer : b' ≡ last_buffer b (run_of f b calls)
  pub answers : map answer_of xs ≡ map (λ (t : After). t.answer) (run_of f b calls)
  pub frames : fs ≡ frames_of (run_of f b calls)
  pub seen : seen_in (length b) xs fs ≡ run_of f b calls

-- each answer is of the routine that its call asks
abbrev pub RoutinesRecorded : List Call → List Answer → Type 0
RoutinesRecorded calls xs = map answers_row xs ≡ map asks_row (calls_of calls)

-- whether what is lent has the sizes that the record of a run takes, with this count of calls and this size of buffer
abbrev pub sized : (count answers size frames : ℕ) → Bool
sized count answers size frames = eqb answers count && eqb frames (count * size)
