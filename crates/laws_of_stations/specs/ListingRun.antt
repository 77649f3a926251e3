-- Document 01: the listing program's run has a row for each listed station, in order, and what it writes is their lines.
use Rattle.std.specs.Prelude.{◌≡◌, refl, List, [], ◌∷◌, ◌++◌, map, ℕ, ◌≤◌, length}
use Rattle.std.proofs.Common.{ap, ◌∙◌, arith}
use Rattle.file_numbers.specs.Reading.{Got, got, refused}
use Rattle.road.specs.Base.{joined}
use Rattle.road.specs.File.{Road}
use Rattle.road.specs.Listed.{listed}
use Rattle.road.specs.Rules.{accepted}
use Rattle.road.specs.Line.{line}
use Rattle.road.specs.Demand.{Row}
use Rattle.road.specs.Listing.{listing_rows, output, listing, list_by, list_of, ListingRun}
use Rattle.laws_of_acceptance.specs.Positive.{accepted-road, facts}
use Rattle.laws_of_stations.specs.Stations.{stations-inside}
use Rattle.laws_of_stations.specs.Visits.{row_at, listing-rows}

rows_of : (f b : List ℕ) (r : Road) (end : ℕ) → accepted f ≡ got r end → 96 ≤ length b → listing_rows f b ≡ map (row_at r) (listed r)
rows_of f b r end e h =
    let a = accepted-road f r end e in
    let step = a.ranges.head.step.low in
    listing-rows f r end e (stations-inside (facts a) (omega arith)) b h

stations_of_lem : (r : Road) (l : List ℕ) → map (λ (a : Row). a.station) (map (row_at r) l) ≡ l
stations_of_lem r [] = refl
stations_of_lem r (s ∷ l) = ap (λ (x : List ℕ). s ∷ x) (stations_of_lem r l)

lines_of : (r : Road) (l : List ℕ) → joined (λ (a : Row). a.bytes) (map (row_at r) l) ≡ joined (line r) l
unfolding joined
lines_of r [] = refl
lines_of r (s ∷ l) = ap (λ (x : List ℕ). line r s ++ x) (lines_of r l)

pub listing-run : ListingRun
listing-run f b r end e h = ap (map (λ (a : Row). a.station)) (rows_of f b r end e h) ∙ stations_of_lem r (listed r)

-- good and bad files alike
pub listing-is : (f b : List ℕ) → 96 ≤ length b → listing f b ≡ list_of f
unfolding listing list_of
listing-is f b h = go (accepted f) refl
  where
    go : (g : Got Road) → accepted f ≡ g → output f b g ≡ list_by g
    go (refused n p) e = refl
    go (got r end) e = ap (joined (λ (a : Row). a.bytes)) (rows_of f b r end e h) ∙ lines_of r (listed r)
