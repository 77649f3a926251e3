-- The listed stations of a road as pegs: they are taken where there are no more than 2,000, their rows are the list, and each two successive ones are neighbouring.
use Rattle.std.specs.Prelude.{◌≡◌, List, ℕ, suc, ◌*◌, ◌≤◌, ◌<◌, length}
use Rattle.std.proofs.Math.Path.{ap}
use Rattle.std.proofs.Common.{arith}
use Rattle.file_numbers.specs.Reading.{got}
use Rattle.integers.specs.Fraction.{◌-ᶠ◌, size, ◌≤ᶠ◌}
use Rattle.decimal.specs.Decimal.{number_in}
use Rattle.road.specs.File.{Road}
use Rattle.road.specs.Exact.{Side, total, edge}
use Rattle.road.specs.Listed.{listed}
use Rattle.road.specs.Listing.{list_by, list_of}
use Rattle.road.specs.Rules.{accepted}
use Rattle.road.specs.Machine.{wrote}
use Rattle.road.specs.Blade.{blade, bound}
use Rattle.road.specs.Demand.{edge_number}
use Rattle.laws_of_lists.specs.All.{all-at}
use Rattle.laws_of_search.specs.Ascends.{ascending-all}
use Rattle.laws_of_acceptance.specs.Positive.{Accepted, accepted-road, facts}
use Rattle.laws_of_stations.specs.Stations.{stations-inside, listed_strictly}
use Rattle.laws_of_blade.specs.Neighbours.{listed-neighbouring}
use Rattle.peg_list.specs.Pegs.{peg_at, lines, pegs_answer}
use Rattle.peg_list.specs.Search.{Good}
use Rattle.laws_of_pegs.specs.Text.{line_of}
use Rattle.laws_of_pegs.specs.SingleCalls.{good_answered, text}
use Rattle.laws_of_pegs.specs.Blade.{pegs-blade}

pub listed_good : {r : Road} → Accepted r → length (listed r) ≤ 2000 → Good (total r) (listed r)
unfolding listed
listed_good {r} A few =
    let step = A.ranges.head.step.low in
    record {
      few = few;
      rises = λ i h. let l = listed_strictly r i h in omega arith;
      within = λ i h. all-at 0 i (ascending-all (stations-inside (facts A) (omega arith))) h;
    }

module _ (f b : List ℕ) (r : Road) (end : ℕ) (was : accepted f ≡ got r end) (few : length (listed r) ≤ 2000) (room : 96 * length (listed r) ≤ length b) where
  -- the answer is the list's length
  pub listed-answered : pegs_answer f (listed r) (length b) ≡ wrote (length (lines r (listed r)))
  listed-answered = good_answered f (listed r) b r end was (listed_good (accepted-road f r end was) few) room

  -- the rows are the list
  pub listed-lines : list_of f ≡ lines r (listed r)
  unfolding list_of lines
  listed-lines = ap list_by was

  -- demand 3 between each two successive ones, read from what was written
  pub listed-pegs-blade : (i : ℕ) → suc i < length (listed r) → (d : Side) (x : ℕ) → peg_at (listed r) i ≤ x → x ≤ peg_at (listed r) (suc i)
      → (let t = text f (listed r) b (length (lines r (listed r))) listed-answered in size (blade (number_in (edge_number d) (line_of i t)) (number_in (edge_number d) (line_of (suc i) t)) (peg_at (listed r) i) (peg_at (listed r) (suc i)) x -ᶠ edge d r x) ≤ᶠ bound r (peg_at (listed r) i) (peg_at (listed r) (suc i)))
  listed-pegs-blade i h = pegs-blade f (listed r) b (length (lines r (listed r))) listed-answered r end was i (suc i) (omega arith) h (listed-neighbouring r i h)
