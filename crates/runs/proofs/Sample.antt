-- Document 01, "One list, whole": a recorded run of two row calls on that file, at neighbouring listed stations, and what demand 3 says of its rows.
use Rattle.std.proofs.Common.{◌≡◌, refl, subst₂, ℕ, ◌≤◌, List, [], ◌∷◌, length, replicate, arith}
use Rattle.integers.specs.Fraction.{◌-ᶠ◌, size, ◌≤ᶠ◌}
use Rattle.road.specs.Text.{printed_line}
use Rattle.road.specs.Exact.{Side, total, edge}
use Rattle.road.specs.Line.{line}
use Rattle.road.specs.Blade.{Neighbouring, blade, bound}
use Rattle.road.specs.Demand.{Row, printed_height}
use Rattle.road.specs.Sample.{file, road, sample_accepted}
use Rattle.road.specs.Compute.{computed}
use Rattle.laws_of_blade.specs.Neighbours.{listed-neighbouring}
use Rattle.runs.specs.Calls.{run_of}
use Rattle.runs.specs.Recorded.{Recorded, frames_of}
use Rattle.runs.specs.RecordedRows.{IsRow, recorded_row, Close, BladeRecorded}
use Rattle.runs.specs.declared.Call.{Call}
use Rattle.runs.specs.declared.Call.TheVariants as asked
use Rattle.runs.specs.declared.Answer.{Answer}
use Rattle.runs.proofs.RowsBack.{blade-recorded}
use Rattle.runs.proofs.Witnesses.{RunRecord, run-recorded, row-given, ListingRecord, listing_met}

abbrev calls : List Call
calls = asked.Row 80000 ∷ asked.Row 100000 ∷ []

abbrev buffer : List ℕ
buffer = replicate 96 0

abbrev before : Row
before = record { station = 80000; bytes = printed_line "80000 501600 20000 -25000 -25000 501531 501531 0" }

abbrev after : Row
after = record { station = 100000; bytes = printed_line "100000 501800 0 -25000 -25000 501731 501731 0" }

-- the rows of the machine's run
row_before : recorded_row 96 (frames_of (run_of file buffer calls)) 0 80000 (length (line road 80000)) ≡ before
unfolding computed run_of
row_before = refl

row-after : recorded_row 96 (frames_of (run_of file buffer calls)) 1 100000 (length (line road 100000)) ≡ after
unfolding computed run_of
row-after = refl

-- both stations are on the road
on-road : total road ≡ 200000
unfolding computed
on-road = refl

-- the two are successive in the list
sample_neighbours : Neighbouring road 80000 100000
unfolding computed
sample_neighbours = listed-neighbouring road 2 (omega arith)

-- of any record of that run
module _ {b' : List ℕ} {xs : List Answer} {fs : List ℕ} (w : Recorded file buffer calls b' xs fs) where
  pub sample_first : IsRow calls xs 0 80000 (length (line road 80000))
  sample_first = row-given file road 48 sample_accepted w (omega arith) 0 80000 refl (omega (arith, on-road))

  pub sample_second : IsRow calls xs 1 100000 (length (line road 100000))
  sample_second = row-given file road 48 sample_accepted w (omega arith) 1 100000 refl (omega (arith, on-road))

  -- between the lines of the two stations
  pub sample_blade : (d : Side) (x : ℕ) → 80000 ≤ x → x ≤ 100000
      → size (blade (printed_height d before) (printed_height d after) 80000 100000 x -ᶠ edge d road x) ≤ᶠ bound road 80000 100000
  unfolding BladeRecorded Close
  sample_blade =
      let is-before : recorded_row 96 fs 0 80000 (length (line road 80000)) ≡ before = rw w.frames row_before in
      let is-after : recorded_row 96 fs 1 100000 (length (line road 100000)) ≡ after = rw w.frames row-after in
      subst₂ (Close road) is-before is-after (blade-recorded w road 48 sample_accepted 0 80000 _ sample_first 1 100000 _ sample_second) sample_neighbours

-- there is one, and one of the listing's run
pub sample_run : RunRecord file buffer calls
sample_run = run-recorded file buffer calls

pub sample_listing : ListingRecord file buffer road
sample_listing = listing_met file buffer road 48 sample_accepted (omega arith)
