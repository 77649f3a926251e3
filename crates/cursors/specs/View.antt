-- What a view of a station says: the segment there serves up to the next joint.
use Rattle.std.specs.Prelude.{◌≡◌, ℕ, ◌+◌, ◌/◌, ◌%◌, ◌≤◌, ◌<◌}
use mathlib.Core.List.{Memᴰ}
use Rattle.std.proofs.Common.{arith, div-add-mod'}
use Rattle.std.proofs.Math.Decide.{ℕ_discrete}
use Rattle.road.specs.File.{Road}
use Rattle.road.specs.Exact.{total}
use Rattle.road.specs.Listed.{listed}
use Rattle.laws_of_stations.specs.Stations.{Named, end-station, multiple, listed_exactly}
use Rattle.laws_of_acceptance.specs.Guaranteed.{Guaranteed}
use Rattle.segment.specs.Segment.{Shows}
use Rattle.cursors.specs.Places.{PlaceReached}
use Rattle.cursors.specs.declared.View.{View}

pub record Viewed (r : Road) (v : View) (x : ℕ) : Type 0 where
  -- the place may be moved on to any later station
  pub place : (y : ℕ) → x ≤ y → PlaceReached r v.place y
  pub beyond : x < v.joint
  pub end : v.joint ≤ total r + 1
  -- the segment says what the exact road says at every station up to the joint
  pub shows : (y : ℕ) → x ≤ y → y < v.joint → y ≤ total r → Shows r v.segment y
  -- between x and the joint only multiples of step are listed, and the joint itself is
  pub between : (z : ℕ) → Memᴰ z (listed r) → x < z → z < v.joint → z % r.head.step ≡ 0
  pub listed : v.joint ≤ total r → Memᴰ v.joint (listed r)

-- at the station itself
pub viewed-shows : {r : Road} {v : View} {x : ℕ} → Viewed r v x → x ≤ total r → Shows r v.segment x
viewed-shows {x = x} s h = s.shows x (omega arith) s.beyond h

-- the same at a later station before the joint
pub viewed_later : {r : Road} {v : View} {x y : ℕ} → Viewed r v x → x ≤ y → y < v.joint → Viewed r v y
viewed_later s l h = record {
  place = λ z k. s.place z (omega arith);
  beyond = h;
  end = s.end;
  shows = λ z k. s.shows z (omega arith);
  between = λ z m k. s.between z m (omega arith);
  listed = s.listed;
}

-- a multiple of step up to T is listed
pub multiple-listed : {r : Road} → Guaranteed r → (z : ℕ) → z % r.head.step ≡ 0 → z ≤ total r → Memᴰ z (listed r)
multiple-listed {r} G z e l = (listed_exactly G.facts_of (let s = G.step.low in omega arith) z).1 (go (ℕ_discrete z (total r)))
  where
    go : Dec (z ≡ total r) → Named r z
    go (yes q) = end-station q
    go (no q) = let d = div-add-mod' z r.head.step in multiple (z / r.head.step) (omega arith) (omega (arith, q))
