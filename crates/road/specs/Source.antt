-- The speeds and the tables of limits against their sources: annex 2 of the rule book (source document 001), table 3-03 and chapter 10; arc lengths and the old handbook's table from source document 003.
use Rattle.std.specs.Prelude.{ℕ, ◌*◌, ◌≡◌, refl, List, [], ◌∷◌, map, get_or, take, drop, leb, eqb, true, false, if◌then◌else◌}
use Rattle.road.specs.Base.{count_from}
use Rattle.road.specs.File.{class_of, terrain_of}
use Rattle.road.specs.Limits.{speed, no_rule, table, cell, is_old, radius_min_at, clothoid_at, limits_at}
use Rattle.road.specs.declared.Contract.{Contract}
use Rattle.road.specs.declared.Contract.TheVariants.{Undated}
use Rattle.road.specs.declared.LeastClothoid.TheVariants.{Length}

-- table 3-03, "Вредности рачунске брзине (V_r)", in km/h and in the source's order:
-- a row for даљински, везни, сабирни, приступни (classes 1 to 4), a column for равничарски, брдовит, планински (terrains 1 to 3)
abbrev pub table3_03 : List (List ℕ)
table3_03 =
    (130 ∷ 100 ∷ 80 ∷ [])
    ∷ (100 ∷ 80 ∷ 70 ∷ [])
    ∷ (80 ∷ 60 ∷ 50 ∷ [])
    ∷ (60 ∷ 50 ∷ 40 ∷ [])
    ∷ []

-- the table's only note, a mark at 130: "за двотрачне и вишетрачне путеве V_r ≤ 100 km/h", for two-lane and multi-lane roads
abbrev pub two_lane : ℕ → ℕ
two_lane v = if leb v 100 then v else 100

-- the speed of each class and terrain is the source's, cut by its note
pub speeds_from_source : map (λ class. map (λ terrain. speed (class_of class) (terrain_of terrain)) (count_from 1 3)) (count_from 1 4) ≡ map (map two_lane) table3_03
unfolding count_from speed
speeds_from_source = refl

-- a row of chapter 10 at 40, 50, .. , 100 km/h, and how many mm (ppm, for the grade) one of its units is; 0 stands for "-"
pub record SourceRow : Type 0 where
  pub unit : ℕ
  pub values : List ℕ

abbrev row : ℕ → List ℕ → SourceRow
row unit values = record { unit = unit; values = values }

abbrev pub chapter10 : List SourceRow
chapter10 =
    -- straight max, straight min, R min, R' (crossfall −2.5%), A min: m
    row 1000 (0 ∷ 0 ∷ 1200 ∷ 1400 ∷ 1600 ∷ 1800 ∷ 2000 ∷ [])
    ∷ row 1000 (0 ∷ 0 ∷ 120 ∷ 140 ∷ 160 ∷ 180 ∷ 200 ∷ [])
    ∷ row 1000 (45 ∷ 75 ∷ 120 ∷ 175 ∷ 250 ∷ 350 ∷ 450 ∷ [])
    ∷ row 1000 (0 ∷ 0 ∷ 0 ∷ 0 ∷ 2500 ∷ 2500 ∷ 3000 ∷ [])
    ∷ row 1000 (35 ∷ 55 ∷ 75 ∷ 100 ∷ 125 ∷ 155 ∷ 195 ∷ [])
    -- arc min: m
    ∷ row 1000 (22 ∷ 28 ∷ 33 ∷ 39 ∷ 44 ∷ 50 ∷ 56 ∷ [])
    -- grade max: tenths of a percent
    ∷ row 1000 (100 ∷ 90 ∷ 80 ∷ 70 ∷ 60 ∷ 55 ∷ 50 ∷ [])
    -- sag R, crest R: m
    ∷ row 1000 (550 ∷ 900 ∷ 1250 ∷ 1800 ∷ 2500 ∷ 3250 ∷ 4250 ∷ [])
    ∷ row 1000 (400 ∷ 800 ∷ 1250 ∷ 2000 ∷ 3500 ∷ 5500 ∷ 8000 ∷ [])
    -- lane width: cm
    ∷ row 10 (275 ∷ 300 ∷ 300 ∷ 325 ∷ 325 ∷ 350 ∷ 350 ∷ [])
    ∷ []

abbrev limit_of : SourceRow → List ℕ
limit_of s = map (λ v. if eqb v 0 then no_rule else v * s.unit) s.values

-- column c of the table of limits
abbrev column : ℕ → List ℕ
column c = map (λ (limits : List ℕ). get_or limits c 0) table

-- each column of the table is a row of the source
pub table_from_source : map column (count_from 0 10) ≡ map limit_of chapter10
unfolding count_from
table_from_source = refl

-- ---- the old handbook

-- source document 003, its second table: "Vr (km/h)", and at these speeds "Lmin (m)" and "Rmin (m)"
abbrev pub handbook_speeds : List ℕ
handbook_speeds = 30 ∷ 40 ∷ 50 ∷ 60 ∷ 70 ∷ 80 ∷ 90 ∷ 100 ∷ 110 ∷ 120 ∷ []

abbrev pub least_lengths : SourceRow
least_lengths = row 1000 (25 ∷ 30 ∷ 40 ∷ 50 ∷ 60 ∷ 70 ∷ 90 ∷ 100 ∷ 110 ∷ 120 ∷ [])

abbrev pub least_radii : SourceRow
least_radii = row 1000 (25 ∷ 45 ∷ 75 ∷ 120 ∷ 180 ∷ 250 ∷ 350 ∷ 450 ∷ 600 ∷ 750 ∷ [])

-- the speeds of document 01: the second to the eighth of the table
abbrev ours : List ℕ → List ℕ
ours values = take 7 (drop 1 values)

-- they are document 01's seven
pub handbook-speeds : ours handbook_speeds ≡ 40 ∷ 50 ∷ 60 ∷ 70 ∷ 80 ∷ 90 ∷ 100 ∷ []
handbook-speeds = refl

-- at each of them R min and the least length of a clothoid are the source's
pub radii_from_source : map (λ v. radius_min_at v true) (ours handbook_speeds) ≡ ours (limit_of least_radii)
unfolding radius_min_at cell
radii_from_source = refl

pub lengths_from_source : map (λ v. clothoid_at v true) (ours handbook_speeds) ≡ map (λ n. Length n) (ours (limit_of least_lengths))
unfolding clothoid_at cell
lengths_from_source = refl

-- "R min at 70 km/h is 180 m": at every other speed both books have the same
pub radii_differ : map (λ v. eqb (radius_min_at v true) (radius_min_at v false)) (ours handbook_speeds) ≡ true ∷ true ∷ true ∷ false ∷ true ∷ true ∷ true ∷ []
unfolding radius_min_at cell
radii_differ = refl

-- every other limit is the same in both books, at any speed and under any contract
pub others_alike : (v : ℕ) (contract : Contract) → limits_at v contract ≡ record {
  straight_max = (limits_at v Undated).straight_max;
  straight_min = (limits_at v Undated).straight_min;
  radius_min = radius_min_at v (is_old contract);
  radius_both = (limits_at v Undated).radius_both;
  clothoid = clothoid_at v (is_old contract);
  arc_min = (limits_at v Undated).arc_min;
  grade_max = (limits_at v Undated).grade_max;
  sag_radius = (limits_at v Undated).sag_radius;
  crest_radius = (limits_at v Undated).crest_radius;
  lane = (limits_at v Undated).lane;
  crossfall_min = (limits_at v Undated).crossfall_min;
  crossfall_max = (limits_at v Undated).crossfall_max;
  crown = (limits_at v Undated).crown;
}
unfolding limits_at
others_alike v contract = refl
