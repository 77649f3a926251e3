-- Document 01, "Stakes at the edge": the starred items, about the meanings, as a table with one theorem.
use Rattle.std.specs.Prelude.{ℕ, ◌+◌, ◌*◌, ◌≡◌, refl, List, [], ◌∷◌, ◌++◌, map, ℤ, pos, negsuc}
use Rattle.file_numbers.specs.Reading.{Got, got, refused}
use Rattle.road.specs.Base.{joined}
use Rattle.file_numbers.specs.Number.{number, shortest}
use Rattle.road.specs.File.{Road}
use Rattle.file_numbers.specs.Number.{written}
use Rattle.integers.specs.Rounding.{rounded}
use Rattle.road.specs.Exact.{Side, left, right, edge_drop, curvature}
use Rattle.road.specs.Rules.{accepted}
use Rattle.road.specs.Machine.{Answer, row_answer}
use Rattle.road.specs.Compute.{computed}

-- ---- small files, at 40 km/h where no speed is given

-- class 4 and terrain 3: 40 km/h
abbrev pub at40 : List ℕ
at40 = 4 ∷ 3 ∷ []

abbrev pub file : List ℕ → List ℕ
file numbers = joined shortest numbers

-- a file of its parts: class and terrain, ramp limit, elements, tangents and crossfall points with their counts
abbrev pub road_file : (speed : List ℕ) (ramp : ℕ) (plan profile crossfalls : List ℕ) → List ℕ
road_file speed ramp plan profile crossfalls = file (speed ++ 50_000 ∷ ramp ∷ plan ++ 0 ∷ profile ++ crossfalls)

-- one tangent of a grade
abbrev pub slope : (long : ℕ) (grade : ℤ) → List ℕ
slope long grade = 1 ∷ long ∷ written grade ∷ []

abbrev pub point : (station : ℕ) (left right : ℤ) → List ℕ
point station c d = station ∷ written c ∷ written d ∷ []

-- the same crossfalls from 0 to a station
abbrev pub even : (long : ℕ) (left right : ℤ) → List ℕ
even long c d = 2 ∷ point 0 c d ++ point long c d

-- one straight and one tangent of a grade, with crossfalls at both ends
abbrev pub straight_road : (speed : List ℕ) (ramp long : ℕ) (grade c d e f : ℤ) → List ℕ
straight_road speed ramp long grade c d e f =
    road_file speed ramp (1 ∷ 0 ∷ long ∷ []) (slope long grade) (2 ∷ point 0 c d ++ point long e f)

-- a bend between two straights of 1 mm, at one level, with even crossfalls
abbrev pub tilted_bend : (speed : List ℕ) (radius : ℤ) (before arc after : ℕ) (left right : ℤ) → List ℕ
tilted_bend speed radius before arc after c d =
    road_file speed 5000 (5 ∷ 0 ∷ 1 ∷ 2 ∷ before ∷ 1 ∷ arc ∷ written radius ∷ 2 ∷ after ∷ 0 ∷ 1 ∷ [])
    (slope (before + arc + after + 2) (pos 0))
    (even (before + arc + after + 2) c d)

-- a right bend with equal clothoids
abbrev pub bend_road : (speed : List ℕ) (radius clothoid arc : ℕ) → List ℕ
bend_road speed radius clothoid arc = tilted_bend speed (pos radius) clothoid arc clothoid (pos 25_000) (negsuc 24_999)

-- two tangents of one length, and the half length of the curve between them
abbrev pub vertex_road : (speed : List ℕ) (long : ℕ) (before : ℤ) (half : ℕ) (after : ℤ) → List ℕ
vertex_road speed long before half after =
    road_file speed 5000 (1 ∷ 0 ∷ 2 * long ∷ []) (2 ∷ long ∷ written before ∷ half ∷ long ∷ written after ∷ []) (even (2 * long) (pos 25_000) (pos 25_000))

-- ---- what is asked of some bytes, and what the definitions say

pub data Question : Type 0 where
  the_number : Question
  the_file : Question
  the_drop : Side → (station : ℕ) → Question
  the_curvature : (station : ℕ) → Question
  the_row : (station room : ℕ) → Question

pub data Outcome : Type 0 where
  value : ℕ → Outcome
  printed : ℤ → Outcome
  passes : Outcome
  turned_away : (number place : ℕ) → Outcome
  answered : Answer → Outcome

abbrev pub number_says : Got ℕ → Outcome
number_says (got v _) = value v
number_says (refused n p) = turned_away n p

abbrev pub road_says : (Road → Outcome) → Got Road → Outcome
road_says of (got r _) = of r
road_says of (refused n p) = turned_away n p

abbrev pub says : Question → List ℕ → Outcome
says the_number bytes = number_says (number bytes 0)
says the_file bytes = road_says (λ r. passes) (accepted bytes)
says (the_drop d s) bytes = road_says (λ r. printed (rounded (edge_drop d r s))) (accepted bytes)
says (the_curvature s) bytes = road_says (λ r. printed (rounded (curvature r s))) (accepted bytes)
says (the_row s room) bytes = answered (row_answer bytes s room)

pub record Item : Type 0 where
  pub asked : Question
  pub bytes : List ℕ
  pub answer : Outcome

abbrev pub item : Question → List ℕ → Outcome → Item
item q b o = record { asked = q; bytes = b; answer = o }

abbrev pub starred : List Item
starred =
    -- "300 is AC 02 hexadecimal; 80 00 is refused 2; empty file: 2 at 0."
    item the_number (0xAC ∷ 0x02 ∷ []) (value 300)
    ∷ item the_number (0x80 ∷ 0x00 ∷ []) (turned_away 2 0)
    ∷ item the_file (0x80 ∷ 0x00 ∷ []) (turned_away 2 0)
    ∷ item the_file [] (turned_away 2 0)
    -- "Radius 45,000 passes, 44,999 gives 10."
    ∷ item the_file (bend_road at40 45_000 27_223 22_000) passes
    ∷ item the_file (bend_road at40 44_999 27_223 22_000) (turned_away 10 2)
    -- "Radius 45,000: clothoid 27,223 passes, 27,222 gives 12."
    ∷ item the_file (bend_road at40 45_000 27_222 22_000) (turned_away 12 1)
    -- "Grades 20,000 and −20,000: h 8,000 passes, 7,999 gives 15."
    ∷ item the_file (vertex_road at40 8000 (pos 20_000) 8000 (negsuc 19_999)) passes
    ∷ item the_file (vertex_road at40 8000 (pos 20_000) 7999 (negsuc 19_999)) (turned_away 15 0)
    -- "Grade 100,000 passes, 100,001 gives 13."
    ∷ item the_file (straight_road at40 5000 1 (pos 100_000) (pos 25_000) (pos 25_000) (pos 25_000) (pos 25_000)) passes
    ∷ item the_file (straight_road at40 5000 1 (pos 100_001) (pos 25_000) (pos 25_000) (pos 25_000) (pos 25_000)) (turned_away 13 0)
    -- "Crossfall −25,000 to 25,000, ramp limit 5,000: 27,500 passes, 27,499 gives 18."
    ∷ item the_file (straight_road at40 5000 27_500 (pos 0) (negsuc 24_999) (negsuc 24_999) (pos 25_000) (pos 25_000)) passes
    ∷ item the_file (straight_road at40 5000 27_499 (pos 0) (negsuc 24_999) (negsuc 24_999) (pos 25_000) (pos 25_000)) (turned_away 18 0)
    -- "Lane 2,750", by request A.2: "crossfall −26,000 .. becomes −72, and 26,000 remains 72."
    ∷ item (the_drop left 0) (straight_road at40 5000 1 (pos 0) (negsuc 25_999) (pos 26_000) (negsuc 25_999) (pos 26_000)) (printed (negsuc 71))
    ∷ item (the_drop right 0) (straight_road at40 5000 1 (pos 0) (negsuc 25_999) (pos 26_000) (negsuc 25_999) (pos 26_000)) (printed (pos 72))
    -- "Radius 50,000, clothoid 30,000: curvature 10,000 halfway, right turn."
    ∷ item (the_curvature 15_001) (bend_road at40 50_000 30_000 22_000) (printed (pos 10_000))
    ∷ []

pub starred_hold : map (λ (i : Item). says i.asked i.bytes) starred ≡ map (λ (i : Item). i.answer) starred
unfolding computed
starred_hold = refl
