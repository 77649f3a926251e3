-- Document 01, "The blade over a whole run": the rows of a recorded run, read from what was written down, and what holds of them.
use Rattle.std.specs.Prelude.{ℕ, ◌*◌, ◌≤◌, ◌≡◌, length, take, drop, replicate, slice_get, Some, Ok}
use mathlib.Core.List.{List, Memᴰ}
use Rattle.file_numbers.specs.Reading.{got}
use Rattle.integers.specs.Fraction.{◌-ᶠ◌, size, ◌≤ᶠ◌}
use Rattle.road.specs.File.{Road}
use Rattle.road.specs.Exact.{Side, edge}
use Rattle.road.specs.Rules.{accepted}
use Rattle.road.specs.Machine as machine
use Rattle.road.specs.Machine.{After, refusal}
use Rattle.road.specs.Blade.{Neighbouring, blade, bound}
use Rattle.road.specs.Demand.{Row, rows_of, printed_height}
use Rattle.runs.specs.Recorded.{seen_in}
use Rattle.runs.specs.declared.Call.{Call}
use Rattle.runs.specs.declared.Answer.{Answer}
use Rattle.runs.specs.declared.Call.TheVariants as asked
use Rattle.runs.specs.declared.Answer.TheVariants as answered

-- demand 3's claim of two rows: where they are neighbouring, at each whole station, their own included, and at either edge
unfoldable pub Close : Road → (a c : Row) → Type 0
Close r a c =
    Neighbouring r a.station c.station
    → (d : Side) (x : ℕ) → a.station ≤ x → x ≤ c.station
    → size (blade (printed_height d a) (printed_height d c) a.station c.station x -ᶠ edge d r x) ≤ᶠ bound r a.station c.station

-- demand 3 of what was seen after each call
unfoldable pub BladeSeen : (file : List ℕ) → List machine.Call → List After → Type 0
BladeSeen f calls ts =
    (r : Road) (end : ℕ) → accepted f ≡ got r end
    → (a c : Row) → Memᴰ a (rows_of calls ts) → Memᴰ c (rows_of calls ts) → Close r a c

-- call i of a recorded run is a row call of that station that was not refused, and returned that length
pub record IsRow (calls : List Call) (answers : List Answer) (i station length : ℕ) : Type 0 where
  pub asked : slice_get calls i ≡ Some (asked.Row station)
  pub given : slice_get answers i ≡ Some (answered.Row (Ok length))

-- its row: the first bytes of the buffer as it left it, up to the length that it returned
abbrev pub recorded_row : (size : ℕ) (frames : List ℕ) (i station length : ℕ) → Row
recorded_row size fs i s n = record { station = s; bytes = take n (take size (drop (i * size) fs)) }

-- demand 3 of a recorded run: of any two of its rows
unfoldable pub BladeRecorded : (file : List ℕ) (size : ℕ) → List Call → List Answer → (frames : List ℕ) → Type 0
BladeRecorded f size calls xs fs =
    (r : Road) (end : ℕ) → accepted f ≡ got r end
    → (i s m : ℕ) → IsRow calls xs i s m → (j t n : ℕ) → IsRow calls xs j t n
    → Close r (recorded_row size fs i s m) (recorded_row size fs j t n)

-- a recorded run on a file that is turned away by refusal n at place p: the same refusal at every call, the buffer as it was, and no row
pub record TurnedAway (n p : ℕ) (b : List ℕ) (calls : List Call) (b' : List ℕ) (xs : List Answer) (fs : List ℕ) : Type 0 where
  pub buffer : b' ≡ b
  pub seen : seen_in (length b) xs fs ≡ replicate (length calls) (record { answer = refusal n p; buffer = b })
  pub no_row : (i s m : ℕ) → IsRow calls xs i s m → ⊥
