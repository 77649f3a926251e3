-- Document 01, "Speed and its row", with the rule book that request A.1 gives to the contract's date.
use Rattle.std.specs.Prelude.{ℕ, ◌≡◌, ◌+◌, ◌-◌, ◌/◌, List, [], ◌∷◌, Bool, true, false, get_or, ltb, eqb, if◌then◌else◌, Option, None, Some}
use Rattle.std.proofs.Common.{ap₂, arith}
use Rattle.road.specs.File.{Road}
use Rattle.road.specs.declared.Limits.{Limits}
use Rattle.road.specs.declared.Contract.{Contract}
use Rattle.road.specs.declared.Contract.TheVariants.{Undated, Dated}
use Rattle.road.specs.declared.LeastClothoid.{LeastClothoid}
use Rattle.road.specs.declared.LeastClothoid.TheVariants.{Parameter, Length}
use Rattle.road.specs.declared.Class.{Class}
use Rattle.road.specs.declared.Class.TheVariants as classes
use Rattle.road.specs.declared.Class.TheVariants.{LongDistance, Connecting, Collecting, Access}
use Rattle.road.specs.declared.Terrain.{Terrain}
use Rattle.road.specs.declared.Terrain.TheVariants as terrains
use Rattle.road.specs.declared.Terrain.TheVariants.{Flat, Hilly, Mountain}
use Rattle.road.specs.declared.Head.{Head}

-- "Speed in km/h by terrain 1, 2, 3", classes 1 to 4
abbrev pub speeds : List (List ℕ)
speeds =
    (100 ∷ 100 ∷ 80 ∷ [])
    ∷ (100 ∷ 80 ∷ 70 ∷ [])
    ∷ (80 ∷ 60 ∷ 50 ∷ [])
    ∷ (60 ∷ 50 ∷ 40 ∷ [])
    ∷ []

-- the row of a class, and the column of a terrain; any other stands past the table
abbrev pub class_row : Class → ℕ
class_row LongDistance = 0
class_row Connecting = 1
class_row Collecting = 2
class_row Access = 3
class_row classes.Other = 4

abbrev pub terrain_column : Terrain → ℕ
terrain_column Flat = 0
terrain_column Hilly = 1
terrain_column Mountain = 2
terrain_column terrains.Other = 3

unfoldable pub speed : Class → Terrain → ℕ
speed class terrain = get_or (get_or speeds (class_row class) []) (terrain_column terrain) 0

-- the numbers by which a file names them; any other has one past these
abbrev pub class_number : Class → ℕ
class_number class = class_row class + 1

abbrev pub terrain_number : Terrain → ℕ
terrain_number terrain = terrain_column terrain + 1

-- the speed of the class and the terrain that two numbers name; the number 0 counts as 1, and past the table the speed is 0
unfoldable pub speed_at : (class terrain : ℕ) → ℕ
speed_at class terrain = get_or (get_or speeds (class - 1) []) (terrain - 1) 0

pub named_speed : (class : Class) (terrain : Terrain) → speed_at (class_number class) (terrain_number terrain) ≡ speed class terrain
unfolding speed speed_at
named_speed class terrain =
    let row : class_number class - 1 ≡ class_row class = omega arith in
    let column : terrain_number terrain - 1 ≡ terrain_column terrain = omega arith in
    ap₂ (λ (r c : ℕ). get_or (get_or speeds r []) c 0) row column

-- the mark for "-", "no such rule"
abbrev pub no_rule : ℕ
no_rule = 4_294_967_295

-- the limit that a cell holds
abbrev pub limit_of_cell : ℕ → Option ℕ
limit_of_cell x = if eqb x no_rule then None else Some x

-- today's rule book, rows 40 to 100 km/h; straight max, straight min, R min, R', A min, arc min, grade max, sag R, crest R, lane; in mm, grade in ppm
abbrev pub table : List (List ℕ)
table =
    (no_rule ∷ no_rule ∷ 45_000 ∷ no_rule ∷ 35_000 ∷ 22_000 ∷ 100_000 ∷ 550_000 ∷ 400_000 ∷ 2750 ∷ [])
    ∷ (no_rule ∷ no_rule ∷ 75_000 ∷ no_rule ∷ 55_000 ∷ 28_000 ∷ 90_000 ∷ 900_000 ∷ 800_000 ∷ 3000 ∷ [])
    ∷ (1_200_000 ∷ 120_000 ∷ 120_000 ∷ no_rule ∷ 75_000 ∷ 33_000 ∷ 80_000 ∷ 1_250_000 ∷ 1_250_000 ∷ 3000 ∷ [])
    ∷ (1_400_000 ∷ 140_000 ∷ 175_000 ∷ no_rule ∷ 100_000 ∷ 39_000 ∷ 70_000 ∷ 1_800_000 ∷ 2_000_000 ∷ 3250 ∷ [])
    ∷ (1_600_000 ∷ 160_000 ∷ 250_000 ∷ 2_500_000 ∷ 125_000 ∷ 44_000 ∷ 60_000 ∷ 2_500_000 ∷ 3_500_000 ∷ 3250 ∷ [])
    ∷ (1_800_000 ∷ 180_000 ∷ 350_000 ∷ 2_500_000 ∷ 155_000 ∷ 50_000 ∷ 55_000 ∷ 3_250_000 ∷ 5_500_000 ∷ 3500 ∷ [])
    ∷ (2_000_000 ∷ 200_000 ∷ 450_000 ∷ 3_000_000 ∷ 195_000 ∷ 56_000 ∷ 50_000 ∷ 4_250_000 ∷ 8_000_000 ∷ 3500 ∷ [])
    ∷ []

-- the old handbook's rows 40 to 100 km/h: R min, least clothoid length; in mm
abbrev pub handbook : List (List ℕ)
handbook =
    (45_000 ∷ 30_000 ∷ [])
    ∷ (75_000 ∷ 40_000 ∷ [])
    ∷ (120_000 ∷ 50_000 ∷ [])
    ∷ (180_000 ∷ 60_000 ∷ [])
    ∷ (250_000 ∷ 70_000 ∷ [])
    ∷ (350_000 ∷ 90_000 ∷ [])
    ∷ (450_000 ∷ 100_000 ∷ [])
    ∷ []

-- a cell of the row of a speed
unfoldable pub cell : List (List ℕ) → (speed column : ℕ) → ℕ
cell rows v column = get_or (get_or rows ((v - 40) / 10) []) column 0

-- "Roads contracted before 20120101 were designed by the old handbook"; "From 20120101 onward, and without a date, the limits are today's."
abbrev pub is_old : Contract → Bool
is_old Undated = false
is_old (Dated day) = ltb day 20_120_101

-- "Before it, R min at 70 km/h is 180 m"
unfoldable pub radius_min_at : (speed : ℕ) → (old : Bool) → ℕ
radius_min_at v true = cell handbook v 0
radius_min_at v false = cell table v 2

-- "in refusal 12 A min gives way to a least clothoid length"
unfoldable pub clothoid_at : (speed : ℕ) → (old : Bool) → LeastClothoid
clothoid_at v true = Length (cell handbook v 1)
clothoid_at v false = Parameter (cell table v 4)

-- "The row of the speed decides every limit below"; refusals 17 and 19 have the crossfalls in ppm
unfoldable pub limits_at : (speed : ℕ) → Contract → Limits
limits_at v contract = record {
  straight_max = limit_of_cell (cell table v 0);
  straight_min = limit_of_cell (cell table v 1);
  radius_min = radius_min_at v (is_old contract);
  radius_both = limit_of_cell (cell table v 3);
  clothoid = clothoid_at v (is_old contract);
  arc_min = cell table v 5;
  grade_max = cell table v 6;
  sag_radius = cell table v 7;
  crest_radius = cell table v 8;
  lane = cell table v 9;
  crossfall_min = 25_000;
  crossfall_max = 70_000;
  crown = 25_000;
}

-- the limits of a road: those of its own speed and its own contract
unfoldable pub limits_of : Head → Limits
limits_of h = limits_at (speed h.class h.terrain) h.contract

unfoldable pub limits : Road → Limits
limits r = limits_of r.head
