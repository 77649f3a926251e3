-- What an accepted file guarantees of its road, as one record of facts for the layers above.
use Rattle.std.specs.Prelude.{◌≡◌, true, List, ℕ, suc, ◌+◌, ◌-◌, ◌≤◌, ◌<◌, length, nat_abs}
use Rattle.std.proofs.Common.{arith}
use Rattle.file_numbers.specs.Reading.{got}
use Rattle.road.specs.File.{Road}
use Rattle.road.specs.Exact.{element_of, tangent_of, point_of, is_arc, element_start, tangent_start, total, vertex_count, vertex, half_length, Side, crossfall_of}
use Rattle.road.specs.declared.Kind.TheVariants.{Arc, Clothoid}
use Rattle.road.specs.declared.Class.TheVariants as classes
use Rattle.road.specs.declared.Terrain.TheVariants as terrains
use Rattle.road.specs.Lane.{lane_width}
use Rattle.road.specs.Rules.{accepted}
use Rattle.laws_of_acceptance.specs.PlanOrder.{Stands, PlanOrder}
use Rattle.laws_of_acceptance.specs.Links.{Egg, egg_arcs}
use Rattle.laws_of_acceptance.specs.Ranged.{Within, StartRange}
use Rattle.laws_of_acceptance.specs.Positive.{Accepted, accepted-road, plan_ordered, facts}
use Rattle.laws_of_acceptance.specs.Table.{lane_range}
use Rattle.laws_of_acceptance.specs.Facts.{Facts, Level, points-inside, curve-begins, curve-ends}
use Rattle.laws_of_acceptance.specs.Ranges.{element_in, tangent_in, crossfall_in_lem, total-small, total-positive, element-inside, tangent-inside, level}

pub record Guaranteed (r : Road) : Type 0 where
  -- in range, and no rule broken
  pub accepted_as : Accepted r
  -- tangents add up to T, points ascend from 0 to T, curves lie inside their tangents
  pub facts_of : Facts r
  -- the head
  pub class : r.head.class ≡ classes.Other → ⊥
  pub terrain : r.head.terrain ≡ terrains.Other → ⊥
  pub step : Within 1000 100000 r.head.step
  pub ramp : Within 1 20000 r.head.ramp
  pub lane : Within 2750 3500 (lane_width r)
  -- the counts
  pub plan-count : Within 1 200 (length r.plan)
  pub tangent-count : Within 1 100 (length r.tangents)
  pub point-count : Within 2 200 (length r.crossfalls)
  -- T
  pub whole : Within 1 100000000 (total r)
  -- the plan: what follows a straight and an arc; the arcs beside an egg
  pub plan-order : PlanOrder r
  pub egg : (i : ℕ) → Stands r Arc i → Stands r Clothoid (suc i) → Stands r Arc (suc (suc i)) → Egg (element_of r i).radius (element_of r (suc (suc i))).radius
  pub element-length : (i : ℕ) → i < length r.plan → Within 1 10000000 (element_of r i).length
  pub radius : (i : ℕ) → i < length r.plan → is_arc (element_of r i) ≡ true → Within 10000 10000000 (nat_abs (element_of r i).radius)
  pub element-start : (i : ℕ) → i ≤ length r.plan → element_start r i ≤ total r
  -- the profile
  pub start : StartRange r.start
  pub start-size : nat_abs r.start ≤ 3000000
  pub tangent-length : (i : ℕ) → i < length r.tangents → Within 1 10000000 (tangent_of r i).length
  pub grade : (i : ℕ) → i < length r.tangents → nat_abs (tangent_of r i).grade ≤ 120000
  pub half : (i : ℕ) → i < length r.tangents → half_length r i ≤ 1000000
  -- no curve follows the last tangent
  pub last-half : half_length r (length r.tangents - 1) ≡ 0
  -- h = 0 only where the grades agree
  pub level_vertex : Level r
  pub tangent-start : (i : ℕ) → i ≤ length r.tangents → tangent_start r i ≤ total r
  -- curves lie between 0 and T, one behind another
  pub curve-start : (i : ℕ) → i < vertex_count r → half_length r i ≤ vertex r i
  pub curve-end : (i : ℕ) → i < vertex_count r → vertex r i + half_length r i ≤ total r
  -- the crossfall points
  pub point-station : (i : ℕ) → i < length r.crossfalls → (point_of r i).station ≤ total r
  pub crossfall : (d : Side) (i : ℕ) → i < length r.crossfalls → nat_abs (crossfall_of d (point_of r i)) ≤ 80000

pub of_accepted : {r : Road} → Accepted r → Guaranteed r
of_accepted {r} A =
    let F = facts A in
    record {
      accepted_as = A;
      facts_of = F;
      class = A.ranges.head.class;
      terrain = A.ranges.head.terrain;
      step = A.ranges.head.step;
      ramp = A.ranges.head.ramp;
      lane = lane_range r;
      plan-count = A.ranges.plan.count;
      tangent-count = A.ranges.profile.tangents.count;
      point-count = A.ranges.points.count;
      whole = record { low = total-positive A; high = total-small A };
      plan-order = plan_ordered A;
      egg = egg_arcs A;
      element-length = λ i h. (element_in A i h).length;
      radius = λ i h. (element_in A i h).radius.arc;
      element-start = element-inside A;
      start = A.ranges.profile.start-range;
      start-size = A.ranges.profile.start;
      tangent-length = λ i h. (tangent_in A i h).length;
      grade = λ i h. (tangent_in A i h).grade;
      half = λ i h. (tangent_in A i h).half;
      last-half = A.ranges.profile.last-half;
      level_vertex = level A;
      tangent-start = tangent-inside A;
      curve-start = λ i h. omega (arith, curve-begins F i h);
      curve-end = curve-ends F;
      point-station = points-inside F;
      crossfall = crossfall_in_lem A;
    }

pub guaranteed : (f : List ℕ) (r : Road) (end : ℕ) → accepted f ≡ got r end → Guaranteed r
guaranteed f r end e = of_accepted (accepted-road f r end e)
