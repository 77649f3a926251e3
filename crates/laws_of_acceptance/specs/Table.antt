-- What holds of every row of the table, by one computed test.
use Rattle.road.specs.Lane.{lane_width}
use Rattle.std.specs.Prelude.{Bool, ◌&&◌, List, [], ℕ, ◌-◌, ◌/◌, ◌≤◌, ◌<◌, get_or, leb, ltb}
use Rattle.std.proofs.Common.{arith, leb→le, ltb→lt}
use Rattle.road.specs.File.{Road}
use Rattle.std.specs.List.{list_all}
use Rattle.laws_of_lists.specs.Each.{each, each_below}
use Rattle.laws_of_lists.specs.Tests.{and_T}
use Rattle.road.specs.declared.Class.{Class}
use Rattle.road.specs.declared.Terrain.{Terrain}
use Rattle.road.specs.Limits.{speeds, class_row, terrain_column, speed, table, cell, limits_at, limits_of, limits}
use Rattle.road.specs.declared.Limits.{Limits}
use Rattle.laws_of_acceptance.specs.Ranged.{Within}

speed_most : (class : Class) (terrain : Terrain) → speed class terrain ≤ 100
unfolding speed
speed_most class terrain =
    let v : ℕ = get_or (get_or speeds (class_row class) []) (terrain_column terrain) 0 in
    leb→le v 100 (each (λ v. leb v 100) 0 (get_or speeds (class_row class) []) (each (list_all (λ v. leb v 100)) [] speeds tt tt (class_row class)) tt (terrain_column terrain))

-- what the laws above the table ask of a row, the same in both rule books
pub record Sound (l : Limits) : Type 0 where
  pub sag : 0 < l.sag_radius
  pub crest : 0 < l.crest_radius
  pub lane : Within 2750 3500 l.lane

abbrev sound : List ℕ → Bool
sound row = ltb 0 (get_or row 7 0) && (ltb 0 (get_or row 8 0) && (leb 2750 (get_or row 9 0) && leb (get_or row 9 0) 3500))

pub limits-sound : (r : Road) → Sound (limits r)
unfolding limits limits_of limits_at cell
limits-sound r =
    let v : ℕ = speed r.head.class r.head.terrain in
    let h = speed_most r.head.class r.head.terrain in
    let row : List ℕ = get_or table ((v - 40) / 10) [] in
    let a = and_T (ltb 0 (get_or row 7 0)) _ (each_below sound [] table tt ((v - 40) / 10) (omega arith)) in
    let b = and_T (ltb 0 (get_or row 8 0)) _ a.1 in
    let c = and_T (leb 2750 (get_or row 9 0)) _ b.1 in
    record { sag = ltb→lt 0 _ a.0; crest = ltb→lt 0 _ b.0; lane = record { low = leb→le 2750 _ c.0; high = leb→le _ 3500 c.1 } }

-- "Lane width": 2.75 to 3.5 m
pub lane_range : (r : Road) → Within 2750 3500 (lane_width r)
unfolding lane_width
lane_range r = (limits-sound r).lane
