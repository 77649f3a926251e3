-- The marks at both sides of the limits of 90 km/h, which no class gives, of the lane widths and of both rule books, about the meanings, as a table with one theorem.
use Rattle.std.specs.Prelude.{ℕ, ◌+◌, ◌≡◌, refl, List, [], ◌∷◌, ◌++◌, map, replicate, ℤ, pos, neg_ℤ}
use Rattle.file_numbers.specs.Number.{written}
use Rattle.road.specs.Compute.{computed}
use Rattle.road.specs.Starred.{at40, road_file, slope, even, straight_road, tilted_bend, bend_road, vertex_road}
use Rattle.road.specs.Faults.{Said, value, refusal}
use Rattle.speed_marks.specs.Marks.{stands, set_of, marks, marks_answer}

-- ---- classes and terrains, with a contract or without

abbrev at70 : List ℕ
at70 = 2 ∷ 3 ∷ []

abbrev at100 : List ℕ
at100 = 1 ∷ 1 ∷ []

-- under the old handbook, and from the first day of the rule book in force
abbrev old : List ℕ → List ℕ
old speed = 9 ∷ 20_111_231 ∷ speed

abbrev new : List ℕ → List ℕ
new speed = 9 ∷ 20_120_101 ∷ speed

-- ---- roads

abbrev minus : ℕ → ℤ
minus n = neg_ℤ (pos n)

-- one straight, level or with a grade
abbrev straight : (speed : List ℕ) (long : ℕ) → List ℕ
straight speed long = straight_road speed 5000 long (pos 0) (pos 25_000) (pos 25_000) (pos 25_000) (pos 25_000)

abbrev graded : (grade : ℤ) → List ℕ
graded grade = straight_road at40 5000 1000 grade (pos 25_000) (pos 25_000) (pos 25_000) (pos 25_000)

-- a straight on which both crossfalls turn from −25,000 to 25,000
abbrev turning : (speed : List ℕ) (long : ℕ) → List ℕ
turning speed long = straight_road speed 5000 long (pos 0) (minus 25_000) (minus 25_000) (pos 25_000) (pos 25_000)

-- two right bends, and the straight between them
abbrev two_bends : (between : ℕ) → List ℕ
two_bends between =
    road_file at40 5000 (9 ∷ 0 ∷ 1000 ∷ bend ++ 0 ∷ between ∷ bend ++ 0 ∷ 1000 ∷ [])
    (slope (between + 522_000) (pos 0))
    (even (between + 522_000) (pos 25_000) (minus 25_000))
  where
    bend : List ℕ
    bend = 2 ∷ 100_000 ∷ 1 ∷ 60_000 ∷ written (pos 1_000_000) ∷ 2 ∷ 100_000 ∷ []

-- a right bend whose edges both lie below the axis
abbrev crowned : (radius : ℕ) → List ℕ
crowned radius = tilted_bend at40 (pos radius) 200_000 60_000 200_000 (minus 25_000) (minus 25_000)

-- a straight whose tangents do not add up to T
abbrev unequal : List ℕ
unequal = road_file at40 5000 (1 ∷ 0 ∷ 1000 ∷ []) (slope 999 (pos 0)) (even 1000 (pos 25_000) (pos 25_000))

-- ---- the marks: 40 km/h is 1, 50 is 2, 60 is 4, 70 is 8, 80 is 16, 90 is 32, 100 is 64

pub record Row : Type 0 where
  pub file : List ℕ
  pub answer : Said ℕ

infix 70 ◌has◌
abbrev ◌has◌ : List ℕ → ℕ → Row
f has set = record { file = f; answer = value set }

infix 70 ◌refuses◌at◌
abbrev ◌refuses◌at◌ : List ℕ → (number place : ℕ) → Row
f refuses n at p = record { file = f; answer = refusal n p }

abbrev pub at_speeds : List Row
at_speeds =
    -- a road that passes at every speed, whatever its class
    straight at40 1000 has 127
    ∷ straight at100 1000 has 127
    -- "a straight of 1,500 m fails at 70 and passes at 80"
    ∷ straight at70 1_500_000 has 115
    -- 8. straight max 1,800 m
    ∷ straight at40 1_800_000 has 99
    ∷ straight at40 1_800_001 has 67
    -- 9. straight min 180 m
    ∷ two_bends 180_000 has 63
    ∷ two_bends 179_999 has 31
    -- 10. R min 350 m
    ∷ bend_road at40 350_000 200_000 60_000 has 63
    ∷ bend_road at40 349_999 200_000 60_000 has 31
    -- 11. arc min 50 m
    ∷ bend_road at40 1_000_000 200_000 50_000 has 63
    ∷ bend_road at40 1_000_000 200_000 49_999 has 31
    -- 12. A min 155 m
    ∷ bend_road at40 1_000_000 24_025 60_000 has 63
    ∷ bend_road at40 1_000_000 24_024 60_000 has 31
    -- 13. grade max 5.5 %
    ∷ graded (minus 55_000) has 63
    ∷ graded (minus 55_001) has 31
    -- 15. sag R 3,250 m, crest R 5,500 m
    ∷ vertex_road at40 60_000 (minus 10_000) 32_500 (pos 10_000) has 63
    ∷ vertex_road at40 60_000 (minus 10_000) 32_499 (pos 10_000) has 31
    ∷ vertex_road at40 60_000 (pos 10_000) 55_000 (minus 10_000) has 63
    ∷ vertex_road at40 60_000 (pos 10_000) 54_999 (minus 10_000) has 31
    -- 18. lanes of 3.50, 3.25, 3.00 and 2.75 m, in a class whose own lane has 2.75 and in one whose own has 3.50
    ∷ turning at40 35_000 has 127
    ∷ turning at40 34_999 has 31
    ∷ turning at40 32_500 has 31
    ∷ turning at40 32_499 has 7
    ∷ turning at100 30_000 has 7
    ∷ turning at100 29_999 has 1
    ∷ turning at100 27_500 has 1
    ∷ turning at100 27_499 has 0
    -- 19. R' 2,500 m at 80 and 90, 3,000 m at 100, none below
    ∷ crowned 3_000_000 has 112
    ∷ crowned 2_500_000 has 48
    ∷ crowned 2_499_999 has 0
    -- the contract stays the road's own: R min at 70 km/h, least clothoid lengths of 90 and 100 m at 90 and 100 km/h
    ∷ bend_road (old at40) 179_999 220_000 60_000 has 7
    ∷ bend_road (new at40) 179_999 220_000 60_000 has 15
    ∷ bend_road (old at70) 10_000_000 90_000 60_000 has 63
    ∷ bend_road (old at70) 10_000_000 89_999 60_000 has 31
    ∷ bend_road (new at70) 10_000_000 89_999 60_000 has 127
    -- a rule that no speed changes
    ∷ unequal has 0
    -- refusals 1 to 4 and 22, and no marks
    ∷ replicate 8193 0 refuses 1 at 8192
    ∷ [] refuses 2 at 0
    ∷ straight (5 ∷ 3 ∷ []) 1000 refuses 3 at 0
    ∷ (straight at40 1000 ++ 0 ∷ []) refuses 4 at 32
    ∷ straight (9 ∷ 20_110_229 ∷ at40) 1000 refuses 22 at 1
    ∷ []

pub at_speeds_hold : map (λ (x : Row). marks_answer x.file) at_speeds ≡ map (λ (x : Row). x.answer) at_speeds
unfolding computed stands set_of marks marks_answer
at_speeds_hold = refl
