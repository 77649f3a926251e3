-- Document 01, "The blade over a whole run": the listing program's run, read from what was written down.
use Rattle.std.specs.Prelude.{◌≡◌, List, [], ◌∷◌, ◌++◌, map, ℕ, ◌≤◌, length}
use Rattle.file_numbers.specs.Reading.{got}
use Rattle.road.specs.File.{Road}
use Rattle.road.specs.Exact.{total}
use Rattle.road.specs.Listed.{listed}
use Rattle.road.specs.Rules.{accepted}
use Rattle.road.specs.Demand.{Row, rows_of}
use Rattle.road.specs.Listing.{listing_calls}
use Rattle.laws_of_stations.specs.Visits.{row_at}
use Rattle.runs.specs.Calls.{calls_of}
use Rattle.runs.specs.Recorded.{seen_in}
use Rattle.runs.specs.declared.Call.{Call}
use Rattle.runs.specs.declared.Answer.{Answer}

-- "the stations of its rows are exactly the listed ones, in order", from 0 to T, and its rows are the lines there
pub record ListingRows (r : Road) (rows : List Row) : Type 0 where
  pub stations_are : map (λ (a : Row). a.station) rows ≡ listed r
  pub lines_are : rows ≡ map (row_at r) (listed r)
  pub after_first : List ℕ
  pub first : listed r ≡ 0 ∷ after_first
  pub before_last : List ℕ
  pub last : listed r ≡ before_last ++ (total r ∷ [])

-- of a recorded run whose calls are the listing program's, "on a file that is not turned away and in a buffer of 96 bytes or more"
unfoldable pub ListingRecorded : (file buffer : List ℕ) → List Call → List Answer → (frames : List ℕ) → Type 0
ListingRecorded f b calls xs fs =
    calls_of calls ≡ listing_calls f
    → (r : Road) (end : ℕ) → accepted f ≡ got r end → 96 ≤ length b
    → ListingRows r (rows_of (calls_of calls) (seen_in (length b) xs fs))
