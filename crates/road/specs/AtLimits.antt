-- The limits of refusals 1 to 23 at both their sides, about the meanings, as a table with one theorem.
-- A limit that the table of speeds gives is tried at speeds whose rows differ there.
use Rattle.std.specs.Prelude.{ℕ, suc, ◌+◌, ◌*◌, ◌≡◌, refl, List, [], ◌∷◌, ◌++◌, map, length, take, drop, replicate, eqb, ℤ, pos, negsuc, neg_ℤ, if◌then◌else◌}
use Rattle.file_numbers.specs.Number.{written}
use Rattle.road.specs.Base.{count_from, joined, sum_of}
use Rattle.road.specs.Machine.{refusal, wrote}
use Rattle.road.specs.Starred.{at40, file, road_file, slope, point, even, straight_road, tilted_bend, bend_road, vertex_road, the_number, the_row, the_file, the_curvature, Outcome, value, printed, passes, turned_away, answered, says, Item, item}
use Rattle.road.specs.Compute.{computed}

-- ---- a class and a terrain of each speed in km/h

abbrev at50 : List ℕ
at50 = 4 ∷ 2 ∷ []

abbrev at60 : List ℕ
at60 = 3 ∷ 2 ∷ []

abbrev at70 : List ℕ
at70 = 2 ∷ 3 ∷ []

abbrev at80 : List ℕ
at80 = 2 ∷ 2 ∷ []

abbrev at100 : List ℕ
at100 = 1 ∷ 1 ∷ []

-- ---- how a row of the table is written

abbrev minus : ℕ → ℤ
minus n = neg_ℤ (pos n)

infix 70 ◌reads◌
abbrev ◌reads◌ : List ℕ → Outcome → Item
bytes reads answer = item the_number bytes answer

infix 70 ◌gives◌
abbrev ◌gives◌ : List ℕ → Outcome → Item
bytes gives answer = item the_file bytes answer

-- ---- refusals 1 to 4: one road, with another number in it or broken off

-- a right bend and two tangents, which keep every rule at every speed
abbrev numbers : List ℕ
numbers =
    4 ∷ 3 ∷ 50_000 ∷ 5000
    ∷ 5 ∷ 0 ∷ 1000 ∷ 2 ∷ 100_000 ∷ 1 ∷ 60_000 ∷ written (pos 1_000_000) ∷ 2 ∷ 100_000 ∷ 0 ∷ 1000
    ∷ 0 ∷ 2 ∷ 131_000 ∷ 0 ∷ 0 ∷ 131_000 ∷ 0
    ∷ even 262_000 (pos 25_000) (minus 25_000)

-- how many numbers stand before a field
abbrev class : ℕ
class = 0

abbrev terrain : ℕ
terrain = 1

abbrev step : ℕ
step = 2

abbrev ramp : ℕ
ramp = 3

abbrev plan_count : ℕ
plan_count = 4

abbrev kind : ℕ
kind = 5

abbrev element_length : ℕ
element_length = 6

abbrev radius : ℕ
radius = 11

abbrev start_height : ℕ
start_height = 16

abbrev tangent_count_of : ℕ
tangent_count_of = 17

abbrev tangent_length : ℕ
tangent_length = 18

abbrev grade : ℕ
grade = 19

abbrev half_length : ℕ
half_length = 20

abbrev crossfall_count_of : ℕ
crossfall_count_of = 23

abbrev last_station : ℕ
last_station = 27

abbrev last_left : ℕ
last_left = 28

abbrev last_right : ℕ
last_right = 29

-- the road with another number in a field
abbrev road_with : (field number : ℕ) → List ℕ
road_with f n = file (take f numbers ++ n ∷ drop (suc f) numbers)

-- the same, with nothing after it
abbrev ends_with : (field number : ℕ) → List ℕ
ends_with f n = file (take f numbers ++ n ∷ [])

-- the road's first bytes, and bytes 0 after its last
abbrev of_bytes : (count : ℕ) → List ℕ
of_bytes count = take count (file numbers ++ replicate count 0)

abbrev pub sizes : List Item
sizes =
    -- 1. 8,192 bytes; the road has 57
    of_bytes 8192 gives turned_away 4 57
    ∷ of_bytes 8193 gives turned_away 1 8192
    -- 2. the greatest number
    ∷ (0xFF ∷ 0xFF ∷ 0xFF ∷ 0xFF ∷ 0x0F ∷ []) reads value 4_294_967_295
    ∷ (0x80 ∷ 0x80 ∷ 0x80 ∷ 0x80 ∷ 0x10 ∷ []) reads turned_away 2 0
    -- 2. shortest form: the greatest number of one byte and the least of two, 1 in two bytes, the greatest in six
    ∷ (0x7F ∷ []) reads value 127
    ∷ (0x80 ∷ 0x01 ∷ []) reads value 128
    ∷ (0x81 ∷ 0x00 ∷ []) reads turned_away 2 0
    ∷ (0xFF ∷ 0xFF ∷ 0xFF ∷ 0xFF ∷ 0x8F ∷ 0x00 ∷ []) reads turned_away 2 0
    -- 2. the last number whole, one byte short and wholly missing
    ∷ of_bytes 57 gives passes
    ∷ of_bytes 56 gives turned_away 2 54
    ∷ of_bytes 54 gives turned_away 2 54
    -- 4. no byte after the last number, one byte, two bytes
    ∷ of_bytes 58 gives turned_away 4 57
    ∷ of_bytes 59 gives turned_away 4 57
    ∷ []

-- 3. the ends of each range; a number inside may be turned away later
abbrev pub ranges : List Item
ranges =
    -- class 1 to 4
    road_with class 0 gives turned_away 3 0
    ∷ road_with class 1 gives passes
    ∷ road_with class 4 gives passes
    ∷ road_with class 5 gives turned_away 3 0
    -- terrain 1 to 3
    ∷ road_with terrain 0 gives turned_away 3 1
    ∷ road_with terrain 1 gives passes
    ∷ road_with terrain 3 gives passes
    ∷ road_with terrain 4 gives turned_away 3 1
    -- step 1,000 to 100,000
    ∷ road_with step 999 gives turned_away 3 2
    ∷ road_with step 1000 gives passes
    ∷ road_with step 100_000 gives passes
    ∷ road_with step 100_001 gives turned_away 3 2
    -- ramp limit 1 to 20,000
    ∷ road_with ramp 0 gives turned_away 3 5
    ∷ road_with ramp 1 gives passes
    ∷ road_with ramp 20_000 gives passes
    ∷ road_with ramp 20_001 gives turned_away 3 5
    -- plan count 1 to 200; what should follow is missing
    ∷ ends_with plan_count 0 gives turned_away 3 7
    ∷ ends_with plan_count 1 gives turned_away 2 8
    ∷ ends_with plan_count 200 gives turned_away 2 9
    ∷ ends_with plan_count 201 gives turned_away 3 7
    -- kind 0 to 2
    ∷ road_with kind 0 gives passes
    ∷ road_with kind 2 gives turned_away 7 0
    ∷ road_with kind 3 gives turned_away 3 8
    -- an element's length 1 to 10,000,000
    ∷ road_with element_length 0 gives turned_away 3 9
    ∷ road_with element_length 1 gives turned_away 6 0
    ∷ road_with element_length 10_000_000 gives turned_away 6 0
    ∷ road_with element_length 10_000_001 gives turned_away 3 9
    -- radius 10,000 to 10,000,000 in size
    ∷ road_with radius (written (pos 9999)) gives turned_away 3 19
    ∷ road_with radius (written (pos 10_000)) gives turned_away 10 2
    ∷ road_with radius (written (pos 10_000_000)) gives passes
    ∷ road_with radius (written (pos 10_000_001)) gives turned_away 3 19
    ∷ road_with radius (written (minus 9999)) gives turned_away 3 19
    ∷ road_with radius (written (minus 10_000)) gives turned_away 10 2
    ∷ road_with radius (written (minus 10_000_000)) gives turned_away 19 2
    ∷ road_with radius (written (minus 10_000_001)) gives turned_away 3 19
    -- start height −500,000 to 3,000,000
    ∷ road_with start_height (written (minus 500_001)) gives turned_away 3 29
    ∷ road_with start_height (written (minus 500_000)) gives passes
    ∷ road_with start_height (written (pos 3_000_000)) gives passes
    ∷ road_with start_height (written (pos 3_000_001)) gives turned_away 3 29
    -- tangent count 1 to 100; what should follow is missing
    ∷ ends_with tangent_count_of 0 gives turned_away 3 30
    ∷ ends_with tangent_count_of 1 gives turned_away 2 31
    ∷ ends_with tangent_count_of 100 gives turned_away 2 31
    ∷ ends_with tangent_count_of 101 gives turned_away 3 30
    -- a tangent's length 1 to 10,000,000
    ∷ road_with tangent_length 0 gives turned_away 3 31
    ∷ road_with tangent_length 1 gives turned_away 6 0
    ∷ road_with tangent_length 10_000_000 gives turned_away 6 0
    ∷ road_with tangent_length 10_000_001 gives turned_away 3 31
    -- grade −120,000 to 120,000
    ∷ road_with grade (written (minus 120_001)) gives turned_away 3 34
    ∷ road_with grade (written (minus 120_000)) gives turned_away 13 0
    ∷ road_with grade (written (pos 120_000)) gives turned_away 13 0
    ∷ road_with grade (written (pos 120_001)) gives turned_away 3 34
    -- half length 0 to 1,000,000
    ∷ road_with half_length 0 gives passes
    ∷ road_with half_length 1_000_000 gives turned_away 14 0
    ∷ road_with half_length 1_000_001 gives turned_away 3 35
    -- crossfall count 2 to 200; what should follow is missing
    ∷ ends_with crossfall_count_of 1 gives turned_away 3 40
    ∷ ends_with crossfall_count_of 2 gives turned_away 2 41
    ∷ ends_with crossfall_count_of 200 gives turned_away 2 42
    ∷ ends_with crossfall_count_of 201 gives turned_away 3 40
    -- station 0 to 100,000,000
    ∷ road_with last_station 0 gives turned_away 16 1
    ∷ road_with last_station 100_000_000 gives turned_away 16 1
    ∷ road_with last_station 100_000_001 gives turned_away 3 48
    -- crossfall −80,000 to 80,000, left and right
    ∷ road_with last_left (written (minus 80_001)) gives turned_away 3 51
    ∷ road_with last_left (written (minus 80_000)) gives turned_away 17 1
    ∷ road_with last_left (written (pos 80_000)) gives turned_away 17 1
    ∷ road_with last_left (written (pos 80_001)) gives turned_away 3 51
    ∷ road_with last_right (written (minus 80_001)) gives turned_away 3 54
    ∷ road_with last_right (written (minus 80_000)) gives turned_away 17 1
    ∷ road_with last_right (written (pos 80_000)) gives turned_away 17 1
    ∷ road_with last_right (written (pos 80_001)) gives turned_away 3 54
    ∷ []

-- ---- refusals 5 to 12

-- three bends, each element 8,000,000 long, a last straight, and ten level tangents of 10,000,000
abbrev long_road : (last : ℕ) → List ℕ
long_road last =
    road_file at40 5000
    (13 ∷ joined (λ _. 0 ∷ 8_000_000 ∷ 2 ∷ 8_000_000 ∷ 1 ∷ 8_000_000 ∷ written (pos 1_000_000) ∷ 2 ∷ 8_000_000 ∷ []) (count_from 1 3) ++ 0 ∷ last ∷ [])
    (10 ∷ joined (λ _. 10_000_000 ∷ 0 ∷ 0 ∷ []) (count_from 1 9) ++ 10_000_000 ∷ 0 ∷ [])
    (even 100_000_000 (pos 25_000) (minus 25_000))

-- eleven straights of 10,000,000
abbrev many_straights : List ℕ
many_straights = road_file at40 5000 (11 ∷ joined (λ _. 0 ∷ 10_000_000 ∷ []) (count_from 1 11)) (slope 1 (pos 0)) (even 1 (pos 25_000) (pos 25_000))

-- a straight and a level tangent that may differ
abbrev unequal : (straight tangent : ℕ) → List ℕ
unequal straight tangent = road_file at40 5000 (1 ∷ 0 ∷ straight ∷ []) (slope tangent (pos 0)) (even straight (pos 25_000) (pos 25_000))

-- an element of a kind, 60 m long
abbrev element_of : (kind : ℕ) → List ℕ
element_of k = k ∷ 60_000 ∷ (if eqb k 1 then written (pos 1_000_000) ∷ [] else [])

abbrev kinds : List ℕ → List ℕ
kinds ks = road_file at40 5000 (length ks ∷ joined element_of ks) (slope (60_000 * length ks) (pos 0)) (even (60_000 * length ks) (pos 25_000) (minus 25_000))

-- a straight, level
abbrev straight : (speed : List ℕ) (long : ℕ) → List ℕ
straight speed long = straight_road speed 5000 long (pos 0) (pos 25_000) (pos 25_000) (pos 25_000) (pos 25_000)

-- the crossfalls of a right and of a left turn
abbrev turned : (station : ℕ) (radius : ℤ) → List ℕ
turned s (pos _) = point s (pos 25_000) (minus 25_000)
turned s (negsuc _) = point s (minus 25_000) (pos 25_000)

-- a left bend with equal clothoids
abbrev left_bend : (speed : List ℕ) (radius clothoid arc : ℕ) → List ℕ
left_bend speed r clothoid arc = tilted_bend speed (minus r) clothoid arc clothoid (minus 25_000) (pos 25_000)

abbrev bend_of : (radius : ℤ) → List ℕ
bend_of r = 2 ∷ 100_000 ∷ 1 ∷ 60_000 ∷ written r ∷ 2 ∷ 100_000 ∷ []

-- two bends and the straight between them; the crossfalls change between the arcs
abbrev two_bends : (speed : List ℕ) (first : ℤ) (between : ℕ) (second : ℤ) → List ℕ
two_bends speed first between second =
    road_file speed 5000
    (9 ∷ 0 ∷ 1 ∷ bend_of first ++ 0 ∷ between ∷ bend_of second ++ 0 ∷ 1 ∷ [])
    (slope (520_002 + between) (pos 0))
    (4 ∷ turned 0 first ++ turned 160_001 first ++ turned (360_001 + between) second ++ turned (520_002 + between) second)

abbrev pub plans : List Item
plans =
    -- 5. running length 100,000,000; the first element that passes it
    long_road 4_000_000 gives passes
    ∷ long_road 4_000_001 gives turned_away 5 12
    ∷ many_straights gives turned_away 5 10
    -- 6. the tangents and T: equal, 1 mm more, 1 mm less
    ∷ unequal 1000 1000 gives passes
    ∷ unequal 1000 1001 gives turned_away 6 0
    ∷ unequal 1000 999 gives turned_away 6 0
    -- 7. the pattern, whole
    ∷ kinds (0 ∷ []) gives passes
    ∷ kinds (0 ∷ 2 ∷ 1 ∷ 2 ∷ 0 ∷ []) gives passes
    ∷ kinds (0 ∷ 2 ∷ 1 ∷ 2 ∷ 0 ∷ 2 ∷ 1 ∷ 2 ∷ 0 ∷ []) gives passes
    -- 7. a wrong kind at each place of the pattern
    ∷ kinds (1 ∷ []) gives turned_away 7 0
    ∷ kinds (2 ∷ []) gives turned_away 7 0
    ∷ kinds (0 ∷ 0 ∷ 1 ∷ 2 ∷ 0 ∷ []) gives turned_away 7 1
    ∷ kinds (0 ∷ 1 ∷ 1 ∷ 2 ∷ 0 ∷ []) gives turned_away 7 1
    ∷ kinds (0 ∷ 2 ∷ 0 ∷ 2 ∷ 0 ∷ []) gives turned_away 7 2
    ∷ kinds (0 ∷ 2 ∷ 2 ∷ 2 ∷ 0 ∷ []) gives turned_away 7 2
    ∷ kinds (0 ∷ 2 ∷ 1 ∷ 0 ∷ 0 ∷ []) gives turned_away 7 3
    ∷ kinds (0 ∷ 2 ∷ 1 ∷ 1 ∷ 0 ∷ []) gives turned_away 7 3
    ∷ kinds (0 ∷ 2 ∷ 1 ∷ 2 ∷ 0 ∷ 2 ∷ 2 ∷ []) gives turned_away 7 6
    -- 7. it stops short
    ∷ kinds (0 ∷ 2 ∷ []) gives turned_away 7 2
    ∷ kinds (0 ∷ 2 ∷ 1 ∷ []) gives turned_away 7 3
    ∷ kinds (0 ∷ 2 ∷ 1 ∷ 2 ∷ []) gives turned_away 7 4
    -- 8. straight max; no rule at 40 and 50
    ∷ straight at40 10_000_000 gives passes
    ∷ straight at50 10_000_000 gives passes
    ∷ straight at60 1_200_000 gives passes
    ∷ straight at60 1_200_001 gives turned_away 8 0
    ∷ straight at70 1_400_000 gives passes
    ∷ straight at70 1_400_001 gives turned_away 8 0
    ∷ straight at80 1_600_000 gives passes
    ∷ straight at80 1_600_001 gives turned_away 8 0
    ∷ straight at100 2_000_000 gives passes
    ∷ straight at100 2_000_001 gives turned_away 8 0
    -- 8. the straight between two bends
    ∷ two_bends at60 (pos 500_000) 1_200_000 (pos 500_000) gives passes
    ∷ two_bends at60 (pos 500_000) 1_200_001 (pos 500_000) gives turned_away 8 4
    -- 9. straight min between right turns and between left turns; no rule at 40 and 50
    ∷ two_bends at40 (pos 500_000) 1 (pos 500_000) gives passes
    ∷ two_bends at50 (minus 500_000) 1 (minus 500_000) gives passes
    ∷ two_bends at60 (pos 500_000) 120_000 (pos 500_000) gives passes
    ∷ two_bends at60 (pos 500_000) 119_999 (pos 500_000) gives turned_away 9 4
    ∷ two_bends at70 (minus 500_000) 140_000 (minus 500_000) gives passes
    ∷ two_bends at70 (minus 500_000) 139_999 (minus 500_000) gives turned_away 9 4
    ∷ two_bends at80 (pos 500_000) 160_000 (pos 500_000) gives passes
    ∷ two_bends at80 (pos 500_000) 159_999 (pos 500_000) gives turned_away 9 4
    ∷ two_bends at100 (pos 500_000) 200_000 (pos 500_000) gives passes
    ∷ two_bends at100 (pos 500_000) 199_999 (pos 500_000) gives turned_away 9 4
    -- 9. opposite turns
    ∷ two_bends at100 (pos 500_000) 1 (minus 500_000) gives passes
    ∷ two_bends at100 (minus 500_000) 1 (pos 500_000) gives passes
    -- 10. R min, to the right and to the left
    ∷ bend_road at50 75_000 100_000 60_000 gives passes
    ∷ bend_road at50 74_999 100_000 60_000 gives turned_away 10 2
    ∷ bend_road at60 120_000 100_000 60_000 gives passes
    ∷ bend_road at60 119_999 100_000 60_000 gives turned_away 10 2
    ∷ bend_road at70 175_000 100_000 60_000 gives passes
    ∷ bend_road at70 174_999 100_000 60_000 gives turned_away 10 2
    ∷ left_bend at70 175_000 100_000 60_000 gives passes
    ∷ left_bend at70 174_999 100_000 60_000 gives turned_away 10 2
    ∷ bend_road at80 250_000 100_000 60_000 gives passes
    ∷ bend_road at80 249_999 100_000 60_000 gives turned_away 10 2
    ∷ bend_road at100 450_000 100_000 60_000 gives passes
    ∷ bend_road at100 449_999 100_000 60_000 gives turned_away 10 2
    -- 11. arc min
    ∷ bend_road at40 500_000 100_000 22_000 gives passes
    ∷ bend_road at40 500_000 100_000 21_999 gives turned_away 11 2
    ∷ bend_road at50 500_000 100_000 28_000 gives passes
    ∷ bend_road at50 500_000 100_000 27_999 gives turned_away 11 2
    ∷ bend_road at60 500_000 100_000 33_000 gives passes
    ∷ bend_road at60 500_000 100_000 32_999 gives turned_away 11 2
    ∷ bend_road at70 500_000 100_000 39_000 gives passes
    ∷ bend_road at70 500_000 100_000 38_999 gives turned_away 11 2
    ∷ bend_road at80 500_000 100_000 44_000 gives passes
    ∷ bend_road at80 500_000 100_000 43_999 gives turned_away 11 2
    ∷ bend_road at100 500_000 100_000 56_000 gives passes
    ∷ bend_road at100 500_000 100_000 55_999 gives turned_away 11 2
    -- 12. A min squared, met exactly: 55², 75², 100², 125², 195² m²
    ∷ bend_road at50 100_000 30_250 60_000 gives passes
    ∷ bend_road at50 100_000 30_249 60_000 gives turned_away 12 1
    ∷ bend_road at60 150_000 37_500 60_000 gives passes
    ∷ bend_road at60 150_000 37_499 60_000 gives turned_away 12 1
    ∷ bend_road at70 200_000 50_000 60_000 gives passes
    ∷ bend_road at70 200_000 49_999 60_000 gives turned_away 12 1
    ∷ bend_road at80 250_000 62_500 60_000 gives passes
    ∷ bend_road at80 250_000 62_499 60_000 gives turned_away 12 1
    ∷ bend_road at100 500_000 76_050 60_000 gives passes
    ∷ bend_road at100 500_000 76_049 60_000 gives turned_away 12 1
    -- 12. the clothoid before the arc, and the one after it, of a left turn
    ∷ tilted_bend at70 (minus 200_000) 50_000 60_000 50_000 (minus 25_000) (pos 25_000) gives passes
    ∷ tilted_bend at70 (minus 200_000) 49_999 60_000 50_000 (minus 25_000) (pos 25_000) gives turned_away 12 1
    ∷ tilted_bend at70 (minus 200_000) 50_000 60_000 49_999 (minus 25_000) (pos 25_000) gives turned_away 12 3
    ∷ []

-- ---- request A.3: eggs and reversing bends

-- a straight of 1 mm, a bend's clothoid and arc, and the clothoids between it and the next arc; then that arc, a clothoid and a straight of 1 mm; the crossfalls change between the arcs
abbrev linked : (speed : List ℕ) (straight : ℕ) (first : ℤ) (between : List ℕ) (second : ℤ) → List ℕ
linked speed long first between second =
    road_file speed 5000
    ((6 + length between) ∷ 0 ∷ long ∷ 2 ∷ 100_000 ∷ 1 ∷ 60_000 ∷ written first ∷ joined (λ n. 2 ∷ n ∷ []) between ++ 1 ∷ 60_000 ∷ written second ∷ 2 ∷ 100_000 ∷ 0 ∷ 1 ∷ [])
    (slope (long + 320_001 + sum_of (λ n. n) between) (pos 0))
    (4 ∷ turned 0 first ++ turned (long + 160_000) first ++ turned (long + 160_000 + sum_of (λ n. n) between) second ++ turned (long + 320_001 + sum_of (λ n. n) between) second)

abbrev egg : (speed : List ℕ) (first : ℤ) (long : ℕ) (second : ℤ) → List ℕ
egg speed first long second = linked speed 1 first (long ∷ []) second

abbrev reversing : (speed : List ℕ) (first : ℤ) (out into : ℕ) (second : ℤ) → List ℕ
reversing speed first out into second = linked speed 1 first (out ∷ into ∷ []) second

-- a reversing bend to the right and then to the left, a straight, and one more bend
abbrev reversing_then : (between : ℕ) (last : ℤ) → List ℕ
reversing_then between last =
    road_file at60 5000
    (12 ∷ 0 ∷ 1 ∷ bend_of (pos 500_000) ++ bend_of (minus 500_000) ++ 0 ∷ between ∷ bend_of last ++ 0 ∷ 1 ∷ [])
    (slope (780_002 + between) (pos 0))
    (6 ∷ turned 0 (pos 500_000) ++ turned 160_001 (pos 500_000) ++ turned 360_001 (minus 500_000) ++ turned 420_001 (minus 500_000) ++ turned (620_001 + between) last ++ turned (780_002 + between) last)

abbrev pub links : List Item
links =
    -- 7. an egg and a pair of clothoids are in order (all arcs are alike: 23); the place of 23 is the egg, and the second clothoid of the pair
    kinds (0 ∷ 2 ∷ 1 ∷ 2 ∷ 1 ∷ 2 ∷ 0 ∷ []) gives turned_away 23 3
    ∷ kinds (0 ∷ 2 ∷ 1 ∷ 2 ∷ 2 ∷ 1 ∷ 2 ∷ 0 ∷ []) gives turned_away 23 4
    -- 7. a pair leads into an arc
    ∷ kinds (0 ∷ 2 ∷ 1 ∷ 2 ∷ 2 ∷ 0 ∷ []) gives turned_away 7 5
    ∷ kinds (0 ∷ 2 ∷ 1 ∷ 2 ∷ 2 ∷ 2 ∷ []) gives turned_away 7 5
    -- 7. it stops short, and 7 comes before 23
    ∷ kinds (0 ∷ 2 ∷ 1 ∷ 2 ∷ 1 ∷ []) gives turned_away 7 5
    ∷ kinds (0 ∷ 2 ∷ 1 ∷ 2 ∷ 2 ∷ []) gives turned_away 7 5
    -- 23. an egg's radii: equal in size, of one turn, up to 1,000,000
    ∷ egg at40 (pos 500_000) 100_000 (pos 499_999) gives passes
    ∷ egg at40 (pos 500_000) 100_000 (pos 500_000) gives turned_away 23 3
    ∷ egg at40 (minus 500_000) 100_000 (minus 500_001) gives passes
    ∷ egg at40 (minus 500_000) 100_000 (minus 500_000) gives turned_away 23 3
    ∷ egg at40 (pos 500_000) 100_000 (minus 400_000) gives turned_away 23 3
    ∷ egg at40 (minus 500_000) 100_000 (pos 400_000) gives turned_away 23 3
    ∷ egg at40 (pos 1_000_000) 100_000 (pos 500_000) gives passes
    ∷ egg at40 (pos 1_000_001) 100_000 (pos 500_000) gives turned_away 23 3
    ∷ egg at40 (minus 500_000) 100_000 (minus 1_000_000) gives passes
    ∷ egg at40 (minus 500_000) 100_000 (minus 1_000_001) gives turned_away 23 3
    -- 23. the arcs around a pair, of any radii
    ∷ reversing at40 (pos 500_000) 100_000 100_000 (minus 500_000) gives passes
    ∷ reversing at40 (minus 2_000_000) 100_000 100_000 (pos 3_000_000) gives passes
    ∷ reversing at40 (pos 500_000) 100_000 100_000 (pos 400_000) gives turned_away 23 4
    ∷ reversing at40 (minus 500_000) 100_000 100_000 (minus 400_000) gives turned_away 23 4
    -- 23 before 8
    ∷ linked at60 1_200_001 (pos 500_000) (100_000 ∷ []) (pos 500_000) gives turned_away 23 3
    ∷ linked at60 1_200_001 (pos 500_000) (100_000 ∷ []) (pos 400_000) gives turned_away 8 0
    -- 9. the nearest arc before the straight is the last of the reversing bend
    ∷ reversing_then 119_999 (pos 500_000) gives passes
    ∷ reversing_then 120_000 (minus 500_000) gives passes
    ∷ reversing_then 119_999 (minus 500_000) gives turned_away 9 7
    -- 12. an egg's A squared, met exactly: 35² and 100² m²
    ∷ egg at40 (pos 49_000) 12_500 (pos 98_000) gives passes
    ∷ egg at40 (pos 49_000) 12_499 (pos 98_000) gives turned_away 12 3
    ∷ egg at70 (minus 400_000) 25_000 (minus 200_000) gives passes
    ∷ egg at70 (minus 400_000) 24_999 (minus 200_000) gives turned_away 12 3
    -- 12. by the old handbook its length
    ∷ egg (9 ∷ 20_111_231 ∷ at70) (pos 400_000) 60_000 (pos 200_000) gives passes
    ∷ egg (9 ∷ 20_111_231 ∷ at70) (pos 400_000) 59_999 (pos 200_000) gives turned_away 12 3
    -- 12. each clothoid of a pair with its own arc
    ∷ reversing at70 (pos 200_000) 50_000 40_000 (minus 250_000) gives passes
    ∷ reversing at70 (pos 200_000) 49_999 40_000 (minus 250_000) gives turned_away 12 3
    ∷ reversing at70 (pos 200_000) 50_000 39_999 (minus 250_000) gives turned_away 12 4
    -- the curvature of an egg: evenly from one arc's to the other's, to the right and to the left; an exact half away from zero
    ∷ item (the_curvature 160_001) (egg at40 (pos 50_000) 20_000 (pos 100_000)) (printed (pos 20_000))
    ∷ item (the_curvature 165_001) (egg at40 (pos 50_000) 20_000 (pos 100_000)) (printed (pos 17_500))
    ∷ item (the_curvature 180_001) (egg at40 (minus 50_000) 20_000 (minus 100_000)) (printed (minus 10_000))
    ∷ item (the_curvature 160_002) (egg at40 (pos 50_000) 20_000 (pos 100_000)) (printed (pos 20_000))
    ∷ item (the_curvature 160_002) (egg at40 (minus 50_000) 20_000 (minus 100_000)) (printed (minus 20_000))
    -- of a pair: "with curvature 0 where they meet"
    ∷ item (the_curvature 175_001) (reversing at40 (pos 50_000) 30_000 30_000 (minus 50_000)) (printed (pos 10_000))
    ∷ item (the_curvature 190_001) (reversing at40 (pos 50_000) 30_000 30_000 (minus 50_000)) (printed (pos 0))
    ∷ item (the_curvature 205_001) (reversing at40 (pos 50_000) 30_000 30_000 (minus 50_000)) (printed (minus 10_000))
    ∷ []

-- ---- refusal 22, and refusals 10 and 12 by the contract's date

-- a contract of a day, before the class and the terrain of a speed
abbrev contracted : (day : ℕ) (speed : List ℕ) → List ℕ
contracted day speed = 9 ∷ day ∷ speed

-- the last day of the old handbook, and the first of today's rule book
abbrev old : List ℕ → List ℕ
old speed = contracted 20_111_231 speed

abbrev new : List ℕ → List ℕ
new speed = contracted 20_120_101 speed

-- a straight of 1 m, contracted on a day
abbrev day : ℕ → List ℕ
day n = straight (contracted n at40) 1000

abbrev pub contracts : List Item
contracts =
    -- 22. the first day and the last
    day 19_491_231 gives turned_away 22 1
    ∷ day 19_500_101 gives passes
    ∷ day 20_991_231 gives passes
    ∷ day 21_000_101 gives turned_away 22 1
    -- 22. 29 February in every fourth year, in 2000 too
    ∷ day 20_000_229 gives passes
    ∷ day 20_010_229 gives turned_away 22 1
    ∷ day 20_010_228 gives passes
    ∷ day 20_040_229 gives passes
    ∷ day 20_040_230 gives turned_away 22 1
    -- 22. the last day of each month
    ∷ day 20_110_131 gives passes
    ∷ day 20_110_132 gives turned_away 22 1
    ∷ day 20_110_331 gives passes
    ∷ day 20_110_332 gives turned_away 22 1
    ∷ day 20_110_430 gives passes
    ∷ day 20_110_431 gives turned_away 22 1
    ∷ day 20_110_531 gives passes
    ∷ day 20_110_532 gives turned_away 22 1
    ∷ day 20_110_630 gives passes
    ∷ day 20_110_631 gives turned_away 22 1
    ∷ day 20_110_731 gives passes
    ∷ day 20_110_732 gives turned_away 22 1
    ∷ day 20_110_831 gives passes
    ∷ day 20_110_832 gives turned_away 22 1
    ∷ day 20_110_930 gives passes
    ∷ day 20_110_931 gives turned_away 22 1
    ∷ day 20_111_031 gives passes
    ∷ day 20_111_032 gives turned_away 22 1
    ∷ day 20_111_130 gives passes
    ∷ day 20_111_131 gives turned_away 22 1
    ∷ day 20_111_231 gives passes
    ∷ day 20_111_232 gives turned_away 22 1
    -- 22. no month 0 and none beyond 12, no day 0; the least number and the greatest
    ∷ day 20_110_001 gives turned_away 22 1
    ∷ day 20_110_100 gives turned_away 22 1
    ∷ day 20_111_301 gives turned_away 22 1
    ∷ day 0 gives turned_away 22 1
    ∷ day 4_294_967_295 gives turned_away 22 1
    -- 2 before 22; 22 before what follows, a class that no road has or nothing
    ∷ (9 ∷ []) gives turned_away 2 1
    ∷ (9 ∷ 0x80 ∷ 0x00 ∷ []) gives turned_away 2 1
    ∷ file (9 ∷ 20_110_229 ∷ 5 ∷ []) gives turned_away 22 1
    ∷ file (9 ∷ 20_110_228 ∷ 5 ∷ []) gives turned_away 3 5
    ∷ file (9 ∷ 20_110_229 ∷ []) gives turned_away 22 1
    ∷ file (9 ∷ 20_110_228 ∷ []) gives turned_away 2 5
    -- any other first number is the class
    ∷ file (8 ∷ 20_110_228 ∷ []) gives turned_away 3 0
    ∷ file (10 ∷ 20_110_228 ∷ []) gives turned_away 3 0
    -- 10. at 70 km/h 180 m before 20120101, 175 m from then on
    ∷ bend_road (old at70) 180_000 100_000 60_000 gives passes
    ∷ bend_road (old at70) 179_999 100_000 60_000 gives turned_away 10 2
    ∷ bend_road (new at70) 175_000 100_000 60_000 gives passes
    ∷ bend_road (new at70) 174_999 100_000 60_000 gives turned_away 10 2
    -- 10. on the first day and the last
    ∷ bend_road (contracted 19_500_101 at70) 180_000 100_000 60_000 gives passes
    ∷ bend_road (contracted 19_500_101 at70) 179_999 100_000 60_000 gives turned_away 10 2
    ∷ bend_road (contracted 20_991_231 at70) 175_000 100_000 60_000 gives passes
    ∷ bend_road (contracted 20_991_231 at70) 174_999 100_000 60_000 gives turned_away 10 2
    -- 10. at the other speeds the same
    ∷ bend_road (old at40) 45_000 100_000 60_000 gives passes
    ∷ bend_road (old at40) 44_999 100_000 60_000 gives turned_away 10 2
    ∷ bend_road (old at50) 75_000 100_000 60_000 gives passes
    ∷ bend_road (old at50) 74_999 100_000 60_000 gives turned_away 10 2
    ∷ bend_road (old at60) 120_000 100_000 60_000 gives passes
    ∷ bend_road (old at60) 119_999 100_000 60_000 gives turned_away 10 2
    ∷ bend_road (old at80) 250_000 100_000 60_000 gives passes
    ∷ bend_road (old at80) 249_999 100_000 60_000 gives turned_away 10 2
    ∷ bend_road (old at100) 450_000 100_000 60_000 gives passes
    ∷ bend_road (old at100) 449_999 100_000 60_000 gives turned_away 10 2
    -- 12. before 20120101 the least length, whatever the radius
    ∷ bend_road (old at40) 500_000 30_000 60_000 gives passes
    ∷ bend_road (old at40) 500_000 29_999 60_000 gives turned_away 12 1
    ∷ bend_road (old at40) 10_000_000 29_999 60_000 gives turned_away 12 1
    ∷ bend_road (old at50) 75_000 40_000 60_000 gives passes
    ∷ bend_road (old at50) 75_000 39_999 60_000 gives turned_away 12 1
    ∷ bend_road (old at60) 500_000 50_000 60_000 gives passes
    ∷ bend_road (old at60) 500_000 49_999 60_000 gives turned_away 12 1
    ∷ bend_road (old at70) 500_000 60_000 60_000 gives passes
    ∷ bend_road (old at70) 500_000 59_999 60_000 gives turned_away 12 1
    ∷ bend_road (old at80) 500_000 70_000 60_000 gives passes
    ∷ bend_road (old at80) 500_000 69_999 60_000 gives turned_away 12 1
    ∷ bend_road (old at100) 500_000 100_000 60_000 gives passes
    ∷ bend_road (old at100) 500_000 99_999 60_000 gives turned_away 12 1
    -- 12. from then on A min squared, and no least length
    ∷ bend_road (new at50) 75_000 40_334 60_000 gives passes
    ∷ bend_road (new at50) 75_000 40_333 60_000 gives turned_away 12 1
    ∷ bend_road (new at40) 500_000 2450 60_000 gives passes
    ∷ bend_road (new at40) 500_000 2449 60_000 gives turned_away 12 1
    ∷ []

-- ---- refusals 13 to 15

-- a straight of 1 m on a grade
abbrev graded : (speed : List ℕ) (grade : ℤ) → List ℕ
graded speed g = straight_road speed 5000 1000 g (pos 25_000) (pos 25_000) (pos 25_000) (pos 25_000)

-- three level tangents and the half lengths between them
abbrev three_tangents : (first half second half' third : ℕ) → List ℕ
three_tangents a h b k c =
    road_file at40 5000 (1 ∷ 0 ∷ (a + b + c) ∷ [])
    (3 ∷ a ∷ 0 ∷ h ∷ b ∷ 0 ∷ k ∷ c ∷ 0 ∷ [])
    (even (a + b + c) (pos 25_000) (pos 25_000))

abbrev pub profiles : List Item
profiles =
    -- 13. grade max of each class and terrain, up and down
    graded (1 ∷ 1 ∷ []) (pos 50_000) gives passes
    ∷ graded (1 ∷ 1 ∷ []) (pos 50_001) gives turned_away 13 0
    ∷ graded (1 ∷ 2 ∷ []) (minus 50_000) gives passes
    ∷ graded (1 ∷ 2 ∷ []) (minus 50_001) gives turned_away 13 0
    ∷ graded (1 ∷ 3 ∷ []) (pos 60_000) gives passes
    ∷ graded (1 ∷ 3 ∷ []) (pos 60_001) gives turned_away 13 0
    ∷ graded (2 ∷ 1 ∷ []) (minus 50_000) gives passes
    ∷ graded (2 ∷ 1 ∷ []) (minus 50_001) gives turned_away 13 0
    ∷ graded (2 ∷ 2 ∷ []) (pos 60_000) gives passes
    ∷ graded (2 ∷ 2 ∷ []) (pos 60_001) gives turned_away 13 0
    ∷ graded (2 ∷ 3 ∷ []) (minus 70_000) gives passes
    ∷ graded (2 ∷ 3 ∷ []) (minus 70_001) gives turned_away 13 0
    ∷ graded (3 ∷ 1 ∷ []) (pos 60_000) gives passes
    ∷ graded (3 ∷ 1 ∷ []) (pos 60_001) gives turned_away 13 0
    ∷ graded (3 ∷ 2 ∷ []) (minus 80_000) gives passes
    ∷ graded (3 ∷ 2 ∷ []) (minus 80_001) gives turned_away 13 0
    ∷ graded (3 ∷ 3 ∷ []) (pos 90_000) gives passes
    ∷ graded (3 ∷ 3 ∷ []) (pos 90_001) gives turned_away 13 0
    ∷ graded (4 ∷ 1 ∷ []) (minus 80_000) gives passes
    ∷ graded (4 ∷ 1 ∷ []) (minus 80_001) gives turned_away 13 0
    ∷ graded (4 ∷ 2 ∷ []) (pos 90_000) gives passes
    ∷ graded (4 ∷ 2 ∷ []) (pos 90_001) gives turned_away 13 0
    ∷ graded (4 ∷ 3 ∷ []) (minus 100_000) gives passes
    ∷ graded (4 ∷ 3 ∷ []) (minus 100_001) gives turned_away 13 0
    -- 13. the second tangent
    ∷ vertex_road at70 100_000 (pos 0) 70_000 (pos 70_000) gives passes
    ∷ vertex_road at70 100_000 (pos 0) 70_000 (pos 70_001) gives turned_away 13 1
    -- 14. each tangent as long as the half lengths at its ends; the first, the middle and the last 1 mm shorter
    ∷ three_tangents 1000 1000 3000 2000 2000 gives passes
    ∷ three_tangents 999 1000 3000 2000 2000 gives turned_away 14 0
    ∷ three_tangents 1000 1000 2999 2000 2000 gives turned_away 14 1
    ∷ three_tangents 1000 1000 3000 2000 1999 gives turned_away 14 2
    -- 15. sag R: 2% more
    ∷ vertex_road at40 100_000 (pos 0) 5500 (pos 20_000) gives passes
    ∷ vertex_road at40 100_000 (pos 0) 5499 (pos 20_000) gives turned_away 15 0
    ∷ vertex_road at50 100_000 (pos 0) 9000 (pos 20_000) gives passes
    ∷ vertex_road at50 100_000 (pos 0) 8999 (pos 20_000) gives turned_away 15 0
    ∷ vertex_road at60 100_000 (pos 0) 12_500 (pos 20_000) gives passes
    ∷ vertex_road at60 100_000 (pos 0) 12_499 (pos 20_000) gives turned_away 15 0
    ∷ vertex_road at70 100_000 (pos 0) 18_000 (pos 20_000) gives passes
    ∷ vertex_road at70 100_000 (pos 0) 17_999 (pos 20_000) gives turned_away 15 0
    ∷ vertex_road at80 100_000 (pos 0) 25_000 (pos 20_000) gives passes
    ∷ vertex_road at80 100_000 (pos 0) 24_999 (pos 20_000) gives turned_away 15 0
    ∷ vertex_road at100 100_000 (pos 0) 42_500 (pos 20_000) gives passes
    ∷ vertex_road at100 100_000 (pos 0) 42_499 (pos 20_000) gives turned_away 15 0
    -- 15. crest R: 2% less
    ∷ vertex_road at50 100_000 (pos 0) 8000 (minus 20_000) gives passes
    ∷ vertex_road at50 100_000 (pos 0) 7999 (minus 20_000) gives turned_away 15 0
    ∷ vertex_road at60 100_000 (pos 0) 12_500 (minus 20_000) gives passes
    ∷ vertex_road at60 100_000 (pos 0) 12_499 (minus 20_000) gives turned_away 15 0
    ∷ vertex_road at70 100_000 (pos 0) 20_000 (minus 20_000) gives passes
    ∷ vertex_road at70 100_000 (pos 0) 19_999 (minus 20_000) gives turned_away 15 0
    ∷ vertex_road at80 100_000 (pos 0) 35_000 (minus 20_000) gives passes
    ∷ vertex_road at80 100_000 (pos 0) 34_999 (minus 20_000) gives turned_away 15 0
    ∷ vertex_road at100 100_000 (pos 0) 80_000 (minus 20_000) gives passes
    ∷ vertex_road at100 100_000 (pos 0) 79_999 (minus 20_000) gives turned_away 15 0
    -- 15. a sag between falls, a crest between climbs
    ∷ vertex_road at70 100_000 (minus 40_000) 18_000 (minus 20_000) gives passes
    ∷ vertex_road at70 100_000 (minus 40_000) 17_999 (minus 20_000) gives turned_away 15 0
    ∷ vertex_road at70 100_000 (pos 40_000) 20_000 (pos 20_000) gives passes
    ∷ vertex_road at70 100_000 (pos 40_000) 19_999 (pos 20_000) gives turned_away 15 0
    -- 15. no curve: equal grades, and grades 1 ppm apart
    ∷ vertex_road at40 100_000 (pos 20_000) 0 (pos 20_000) gives passes
    ∷ vertex_road at40 100_000 (pos 20_000) 0 (pos 20_001) gives turned_away 15 0
    ∷ vertex_road at40 100_000 (pos 20_000) 0 (pos 19_999) gives turned_away 15 0
    ∷ []

-- ---- refusals 16 to 19

-- a straight of 1 m with points at stations
abbrev stationed : List ℕ → List ℕ
stationed stations = road_file at40 5000 (1 ∷ 0 ∷ 1000 ∷ []) (slope 1000 (pos 0)) (length stations ∷ joined (λ s. point s (pos 25_000) (pos 25_000)) stations)

-- a straight of 1 m with even crossfalls
abbrev tilted : (left right : ℤ) → List ℕ
tilted c d = straight_road at40 5000 1000 (pos 0) c d c d

-- a straight on which the left, the right crossfall changes
abbrev left_ramp : (speed : List ℕ) (ramp long : ℕ) (first last : ℤ) → List ℕ
left_ramp speed limit long c e = straight_road speed limit long (pos 0) c (pos 25_000) e (pos 25_000)

abbrev right_ramp : (speed : List ℕ) (ramp long : ℕ) (first last : ℤ) → List ℕ
right_ramp speed limit long d f = straight_road speed limit long (pos 0) (pos 25_000) d (pos 25_000) f

-- a bend with even crossfalls, long enough at every speed
abbrev bend : (speed : List ℕ) (radius left right : ℤ) → List ℕ
bend speed r c d = tilted_bend speed r 100_000 60_000 100_000 c d

-- a right bend with its arc from 200,000 to 300,000, and its crossfall points
abbrev arched : List (List ℕ) → List ℕ
arched points =
    road_file at40 5000 (5 ∷ 0 ∷ 100_000 ∷ 2 ∷ 100_000 ∷ 1 ∷ 100_000 ∷ written (pos 1_000_000) ∷ 2 ∷ 100_000 ∷ 0 ∷ 100_000 ∷ [])
    (slope 500_000 (pos 0))
    (length points ∷ joined (λ p. p) points)

-- both edges below the axis; the left edge above it and the right one below
abbrev crown : (station : ℕ) → List ℕ
crown s = point s (minus 25_000) (minus 25_000)

abbrev tilt : (station size : ℕ) → List ℕ
tilt s c = point s (pos c) (minus c)

abbrev pub crossfalls : List Item
crossfalls =
    -- 16. point 0 at 0
    stationed (0 ∷ 1000 ∷ []) gives passes
    ∷ stationed (1 ∷ 1000 ∷ []) gives turned_away 16 0
    -- 16. a point beyond its forerunner
    ∷ stationed (0 ∷ 500 ∷ 501 ∷ 1000 ∷ []) gives passes
    ∷ stationed (0 ∷ 500 ∷ 500 ∷ 1000 ∷ []) gives turned_away 16 2
    ∷ stationed (0 ∷ 500 ∷ 499 ∷ 1000 ∷ []) gives turned_away 16 2
    ∷ stationed (0 ∷ 0 ∷ 1000 ∷ []) gives turned_away 16 1
    -- 16. the last at T
    ∷ stationed (0 ∷ 999 ∷ []) gives turned_away 16 1
    ∷ stationed (0 ∷ 1001 ∷ []) gives turned_away 16 1
    -- 17. 25,000 and 70,000, of either sign on either side
    ∷ tilted (pos 25_000) (pos 70_000) gives passes
    ∷ tilted (pos 70_000) (pos 25_000) gives passes
    ∷ tilted (minus 25_000) (minus 70_000) gives passes
    ∷ tilted (minus 70_000) (minus 25_000) gives passes
    ∷ tilted (pos 24_999) (pos 50_000) gives turned_away 17 0
    ∷ tilted (minus 24_999) (pos 50_000) gives turned_away 17 0
    ∷ tilted (pos 70_001) (pos 50_000) gives turned_away 17 0
    ∷ tilted (minus 70_001) (pos 50_000) gives turned_away 17 0
    ∷ tilted (pos 50_000) (pos 24_999) gives turned_away 17 0
    ∷ tilted (pos 50_000) (minus 24_999) gives turned_away 17 0
    ∷ tilted (pos 50_000) (pos 70_001) gives turned_away 17 0
    ∷ tilted (pos 50_000) (minus 70_001) gives turned_away 17 0
    -- 17. the second point
    ∷ left_ramp at40 5000 100_000 (pos 50_000) (pos 70_000) gives passes
    ∷ left_ramp at40 5000 100_000 (pos 50_000) (pos 70_001) gives turned_away 17 1
    ∷ right_ramp at40 5000 100_000 (pos 50_000) (pos 24_999) gives turned_away 17 1
    -- 18. lanes of 3, 3.25 and 3.5 m, a crossfall that rises or falls by 5% on either side
    ∷ left_ramp at50 5000 30_000 (minus 25_000) (pos 25_000) gives passes
    ∷ left_ramp at50 5000 29_999 (minus 25_000) (pos 25_000) gives turned_away 18 0
    ∷ right_ramp at60 5000 30_000 (minus 25_000) (pos 25_000) gives passes
    ∷ right_ramp at60 5000 29_999 (minus 25_000) (pos 25_000) gives turned_away 18 0
    ∷ left_ramp at70 5000 32_500 (pos 25_000) (minus 25_000) gives passes
    ∷ left_ramp at70 5000 32_499 (pos 25_000) (minus 25_000) gives turned_away 18 0
    ∷ right_ramp at80 5000 32_500 (pos 25_000) (minus 25_000) gives passes
    ∷ right_ramp at80 5000 32_499 (pos 25_000) (minus 25_000) gives turned_away 18 0
    ∷ left_ramp at100 5000 35_000 (minus 25_000) (pos 25_000) gives passes
    ∷ left_ramp at100 5000 34_999 (minus 25_000) (pos 25_000) gives turned_away 18 0
    -- 18. the ramp limit itself
    ∷ right_ramp at70 4999 32_500 (minus 25_000) (pos 25_000) gives turned_away 18 0
    ∷ right_ramp at70 20_000 8125 (minus 25_000) (pos 25_000) gives passes
    ∷ right_ramp at70 20_000 8124 (minus 25_000) (pos 25_000) gives turned_away 18 0
    -- 18. the second pair of points
    ∷ arched (tilt 0 30_000 ∷ tilt 469_750 30_000 ∷ crown 500_000 ∷ []) gives passes
    ∷ arched (tilt 0 30_000 ∷ tilt 469_751 30_000 ∷ crown 500_000 ∷ []) gives turned_away 18 1
    -- 19. R' at 80 and 100, to the right and to the left
    ∷ bend at80 (pos 2_500_000) (minus 25_000) (minus 25_000) gives passes
    ∷ bend at80 (pos 2_499_999) (minus 25_000) (minus 25_000) gives turned_away 19 2
    ∷ bend at80 (minus 2_500_000) (minus 25_000) (minus 25_000) gives passes
    ∷ bend at80 (minus 2_499_999) (minus 25_000) (minus 25_000) gives turned_away 19 2
    ∷ bend at100 (pos 3_000_000) (minus 25_000) (minus 25_000) gives passes
    ∷ bend at100 (pos 2_999_999) (minus 25_000) (minus 25_000) gives turned_away 19 2
    -- 19. no R' at 40, 50, 60 and 70
    ∷ bend at40 (pos 10_000_000) (minus 25_000) (minus 25_000) gives turned_away 19 2
    ∷ bend at50 (pos 10_000_000) (minus 25_000) (minus 25_000) gives turned_away 19 2
    ∷ bend at60 (minus 10_000_000) (minus 25_000) (minus 25_000) gives turned_away 19 2
    ∷ bend at70 (pos 10_000_000) (minus 25_000) (minus 25_000) gives turned_away 19 2
    -- 19. −25,000 on both sides and no other
    ∷ bend at100 (pos 10_000_000) (minus 25_001) (minus 25_001) gives turned_away 19 2
    ∷ bend at100 (pos 10_000_000) (minus 25_000) (minus 25_001) gives turned_away 19 2
    ∷ bend at100 (pos 10_000_000) (minus 25_001) (minus 25_000) gives turned_away 19 2
    ∷ bend at100 (pos 10_000_000) (pos 25_000) (pos 25_000) gives turned_away 19 2
    -- 19. left = −right, the inner side negative: right and left turn
    ∷ bend at40 (pos 500_000) (pos 70_000) (minus 70_000) gives passes
    ∷ bend at40 (pos 500_000) (minus 70_000) (pos 70_000) gives turned_away 19 2
    ∷ bend at40 (minus 500_000) (minus 70_000) (pos 70_000) gives passes
    ∷ bend at40 (minus 500_000) (pos 70_000) (minus 70_000) gives turned_away 19 2
    ∷ bend at40 (pos 500_000) (pos 30_001) (minus 30_000) gives turned_away 19 2
    ∷ bend at40 (pos 500_000) (pos 30_000) (minus 30_001) gives turned_away 19 2
    -- 19. the crossfalls change up to the arc's start and from its end on
    ∷ arched (crown 0 ∷ tilt 200_000 30_000 ∷ tilt 300_000 30_000 ∷ crown 500_000 ∷ []) gives passes
    -- 19. a point on the arc that changes nothing
    ∷ arched (tilt 0 30_000 ∷ tilt 250_000 30_000 ∷ tilt 500_000 30_000 ∷ []) gives passes
    -- 19. by 1 ppm on the arc: both sides, left, right
    ∷ arched (crown 0 ∷ tilt 200_000 30_000 ∷ tilt 300_000 30_001 ∷ crown 500_000 ∷ []) gives turned_away 19 2
    ∷ arched (crown 0 ∷ tilt 200_000 30_000 ∷ point 300_000 (pos 30_001) (minus 30_000) ∷ crown 500_000 ∷ []) gives turned_away 19 2
    ∷ arched (crown 0 ∷ tilt 200_000 30_000 ∷ point 300_000 (pos 30_000) (minus 30_001) ∷ crown 500_000 ∷ []) gives turned_away 19 2
    -- 19. in the first and in the last millimetre of the arc
    ∷ arched (crown 0 ∷ tilt 200_001 30_000 ∷ tilt 300_000 30_000 ∷ crown 500_000 ∷ []) gives turned_away 19 2
    ∷ arched (crown 0 ∷ tilt 200_000 30_000 ∷ tilt 299_999 30_000 ∷ crown 500_000 ∷ []) gives turned_away 19 2
    ∷ []

-- ---- refusals 20 and 21, by the plain machine

abbrev pub rows : List Item
rows =
    -- 20. 96 bytes of buffer; the line is "1000 0 0 25000 25000 69 69 0" and a newline
    item (the_row 1000 96) (straight at40 1000) (answered (wrote 29))
    ∷ item (the_row 1000 95) (straight at40 1000) (answered (refusal 20 0))
    -- 21. T
    ∷ item (the_row 1001 96) (straight at40 1000) (answered (refusal 21 0))
    -- 20 before 21, and both after the file's refusals
    ∷ item (the_row 1001 95) (straight at40 1000) (answered (refusal 20 0))
    ∷ item (the_row 1_200_002 95) (straight at60 1_200_001) (answered (refusal 8 0))
    ∷ []

abbrev pub at_limits : List Item
at_limits = sizes ++ ranges ++ plans ++ links ++ contracts ++ profiles ++ crossfalls ++ rows

pub at_limits_hold : map (λ (i : Item). says i.asked i.bytes) at_limits ≡ map (λ (i : Item). i.answer) at_limits
unfolding computed
at_limits_hold = refl
