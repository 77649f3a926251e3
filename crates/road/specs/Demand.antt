-- Document 01, "The blade over a whole run": the rows of a run, and demand 3.
use Rattle.std.specs.Prelude.{ℕ, ◌≤◌, ◌≡◌, take, ℤ}
use mathlib.Core.List.{List, [], ◌∷◌, Memᴰ}
use Rattle.file_numbers.specs.Reading.{got}
use Rattle.integers.specs.Fraction.{◌-ᶠ◌, size, ◌≤ᶠ◌}
use Rattle.decimal.specs.Decimal.{number_in}
use Rattle.road.specs.File.{Road}
use Rattle.road.specs.Exact.{Side, left, right, edge}
use Rattle.road.specs.Rules.{accepted}
use Rattle.road.specs.Machine.{Call, row, next, Answer, refusal, wrote, station, no_station, After, trace}
use Rattle.road.specs.Blade.{Neighbouring, blade, bound}

-- ---- the rows of a run

-- a station that was asked for, and the line that was left
pub record Row : Type 0 where
  pub station : ℕ
  pub bytes : List ℕ

-- "the line that a row call not refused left in the buffer, its first bytes up to the length returned"
abbrev pub row_in : Call → Answer → List ℕ → List Row → List Row
row_in (row s) (wrote n) buffer rows = record { station = s; bytes = take n buffer } ∷ rows
row_in (row s) (refusal _ _) buffer rows = rows
row_in (row s) (station _) buffer rows = rows
row_in (row s) no_station buffer rows = rows
row_in (next s) answer buffer rows = rows

-- the rows of what was seen after each call
unfoldable pub rows_of : List Call → List After → List Row
rows_of [] ts = []
rows_of (c ∷ cs) [] = []
rows_of (c ∷ cs) (t ∷ ts) = row_in c t.answer t.buffer (rows_of cs ts)

-- "its sixth and seventh numbers are its printed edge heights"
abbrev pub edge_number : Side → ℕ
edge_number left = 5
edge_number right = 6

abbrev pub printed_height : Side → Row → ℤ
printed_height d a = number_in (edge_number d) a.bytes

-- ---- the claim

-- demand 3: between any two neighbouring rows of the run, at each whole station, the rows' own included, and at either edge
unfoldable pub BladeClose : (file buffer : List ℕ) → List Call → Type 0
BladeClose f b calls =
    (r : Road) (end : ℕ) → accepted f ≡ got r end
    → (a c : Row) → Memᴰ a (rows_of calls (trace f b calls)) → Memᴰ c (rows_of calls (trace f b calls))
    → Neighbouring r a.station c.station
    → (d : Side) (x : ℕ) → a.station ≤ x → x ≤ c.station
    → size (blade (printed_height d a) (printed_height d c) a.station c.station x -ᶠ edge d r x) ≤ᶠ bound r a.station c.station

-- over every whole run
abbrev pub Demand3 : Type 0
Demand3 = (f b : List ℕ) (calls : List Call) → BladeClose f b calls
