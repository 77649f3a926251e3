-- The crossfall points of a road in order: the first at 0, each beyond its forerunner, the last at T; so each station has its pair of points.
use Rattle.std.specs.Prelude.{◌≡◌, ℕ, suc, ◌-◌, ◌<◌, length}
use Rattle.std.proofs.Common.{arith}
use Rattle.road.specs.File.{Road}
use Rattle.road.specs.Exact.{point_of, point_at, total}
use Rattle.laws_of_search.specs.Last.{Rising, Begun, begun}

pub record PointOrder (r : Road) : Type 0 where
  pub first : (point_of r 0).station ≡ 0
  pub ascend : (i : ℕ) → suc i < length r.crossfalls → (point_of r i).station < (point_of r (suc i)).station
  pub last : (i : ℕ) → suc i ≡ length r.crossfalls → (point_of r i).station ≡ total r

-- the stations of the points, up to the last
pub points-rise : {r : Road} → PointOrder r → Rising (λ i. (point_of r i).station) (length r.crossfalls - 1)
unfolding Rising
points-rise P i h = let l = P.ascend i (omega arith) in omega arith

-- the pair of points of a station
pub pair-at : {r : Road} → PointOrder r → (s : ℕ) → 0 < length r.crossfalls - 1 → Begun (λ i. (point_of r i).station) (length r.crossfalls - 1) s (point_at r s)
unfolding point_at
pair-at {r} P s h = let z = P.first in begun (λ i. (point_of r i).station) (length r.crossfalls - 1) s h (omega arith)
