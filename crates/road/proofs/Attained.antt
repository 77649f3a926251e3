-- Document 01, "The blade over a whole run": neighbouring rows between which the blade is off by exactly what demand 3 allows, on a tangent and in a vertical curve.
-- At 25, 22,025 and 22,075 the exact height and, at lane 2,750 and crossfalls of −26,000 and −30,000, both drops are below zero and end in a half, which goes away from zero: each edge is printed 1 mm below the exact one.
use Rattle.std.specs.Prelude.{ℕ, ◌≤◌, ◌<◌, ◌≡◌, refl, Bool, true, false, ◌&&◌, ◌||◌, pos, negsuc, ◌*ℤ◌, replicate, ltb}
use Rattle.std.proofs.Common.{sym, subst, arith, lt-ltb, ltb-true}
use mathlib.Core.List.{List, [], ◌∷◌, Memᴰ}
use Rattle.file_numbers.specs.Reading.{got}
use Rattle.file_numbers.specs.Number.{shortest, written}
use Rattle.integers.specs.Fraction.{Frac, whole, ◌-ᶠ◌, size, ◌≤ᶠ◌, ◌≈ᶠ◌}
use Rattle.road.specs.Base.{joined}
use Rattle.std.proofs.lemmas.Bool.{and_from, both_ways, or_parts}
use Rattle.road.specs.Text.{printed_line}
use Rattle.road.specs.File.{Road}
use Rattle.road.specs.Exact.{Side, left, right, edge}
use Rattle.road.specs.Listed.{listed}
use Rattle.road.specs.Rules.{accepted}
use Rattle.road.specs.Blade.{Neighbouring, blade, bound}
use Rattle.road.specs.Demand.{Row, printed_height, BladeClose}
use Rattle.road.specs.Listing.{listing_calls, listing_rows}
use Rattle.road.specs.Sample as Sample
use Rattle.road.specs.declared.Kind.TheVariants.{Straight}
use Rattle.road.specs.declared.Class.TheVariants.{Access}
use Rattle.road.specs.declared.Terrain.TheVariants.{Mountain}
use Rattle.road.specs.declared.Contract.TheVariants.{Undated}
use Rattle.road.specs.Compute.{computed}

-- ---- the road: a crest of h 11,000 from 25 to 22,025, and 50 mm of tangent behind it

abbrev pub numbers : List ℕ
numbers =
    4 ∷ 3 ∷ 50_000 ∷ 5000
    ∷ 1 ∷ 0 ∷ 22_075
    ∷ written (negsuc 9) ∷ 2
    ∷ 11_025 ∷ written (pos 20_000) ∷ 11_000
    ∷ 11_050 ∷ written (negsuc 19_999)
    ∷ 2
    ∷ 0 ∷ written (negsuc 25_999) ∷ written (negsuc 29_999)
    ∷ 22_075 ∷ written (negsuc 25_999) ∷ written (negsuc 29_999)
    ∷ []

abbrev pub file : List ℕ
file = joined shortest numbers

abbrev pub road : Road
road = record {
  head = record { contract = Undated; class = Access; terrain = Mountain; step = 50_000; ramp = 5000 };
  plan = record { kind = Straight; length = 22_075; radius = pos 0 } ∷ [];
  start = negsuc 9;
  tangents = record { length = 11_025; grade = pos 20_000; half = 11_000 } ∷ record { length = 11_050; grade = negsuc 19_999; half = 0 } ∷ [];
  crossfalls = record { station = 0; left = negsuc 25_999; right = negsuc 29_999 } ∷ record { station = 22_075; left = negsuc 25_999; right = negsuc 29_999 } ∷ [];
}

pub file-road : accepted file ≡ got road 43
unfolding computed
file-road = refl

-- ---- its list, byte for byte

abbrev pub first : Row
first = record { station = 0; bytes = printed_line "0 -10 20000 -26000 -30000 -82 -93 0" }

abbrev pub second : Row
second = record { station = 25; bytes = printed_line "25 -10 20000 -26000 -30000 -82 -93 0" }

abbrev pub third : Row
third = record { station = 22_025; bytes = printed_line "22025 -10 -20000 -26000 -30000 -82 -93 0" }

abbrev pub last : Row
last = record { station = 22_075; bytes = printed_line "22075 -11 -20000 -26000 -30000 -83 -94 0" }

pub rows : listing_rows file (replicate 96 0) ≡ first ∷ second ∷ third ∷ last ∷ []
unfolding computed
rows = refl

-- ---- neighbouring stations and equal fractions, by computation

abbrev one_between : (a b : ℕ) → List ℕ → Bool
one_between a b [] = false
one_between a b (x ∷ l) = (ltb a x && ltb x b) || one_between a b l

none_between : (a b : ℕ) (l : List ℕ) → one_between a b l ≡ false → (x : ℕ) → Memᴰ x l → a < x → x < b → ⊥
none_between a b [] t x m low high = elim m [ ]
none_between a b (y ∷ l) t x (Memᴰ.head e) low high =
    both_ways (ltb a y && ltb y b) (or_parts (ltb a y && ltb y b) (one_between a b l) t).0 (and_from (ltb a y) (ltb y b) (lt-ltb a y (omega arith)) (lt-ltb y b (omega arith)))
none_between a b (y ∷ l) t x (Memᴰ.tail m) low high = none_between a b l (or_parts (ltb a y && ltb y b) (one_between a b l) t).1 x m low high

neighbours : (r : Road) (a b : ℕ) → ltb a b ≡ true → one_between a b (listed r) ≡ false → Neighbouring r a b
neighbours r a b s t = record { before = ltb-true a b s; free = none_between a b (listed r) t }

same : {a b : Frac} → ltb 0 a.den ≡ true → ltb 0 b.den ≡ true → a.num *ℤ pos b.den ≡ b.num *ℤ pos a.den → a ≈ᶠ b
same {a} {b} s t e = record { defined = ltb-true 0 a.den s; other-defined = ltb-true 0 b.den t; same = e }

-- ---- the bound is attained

-- how far the blade between two rows lies from the exact edge at x
abbrev pub off : Side → (a c : Row) (x : ℕ) → Frac
off d a c x = size (blade (printed_height d a) (printed_height d c) a.station c.station x -ᶠ edge d road x)

-- two neighbouring rows whose bound is some mm, and a station at which the blade is as many mm off, at either edge
pub record Attains (a c : Row) (x mm : ℕ) : Type 0 where
  pub neighbouring : Neighbouring road a.station c.station
  pub bounded : bound road a.station c.station ≈ᶠ whole (pos mm)
  pub far : (d : Side) → off d a c x ≈ᶠ whole (pos mm)

attains : {a c : Row} {x mm : ℕ} → Neighbouring road a.station c.station → bound road a.station c.station ≈ᶠ whole (pos mm)
    → off left a c x ≈ᶠ whole (pos mm) → off right a c x ≈ᶠ whole (pos mm) → Attains a c x mm
attains {a} {c} {x} {mm} n b l r = record { neighbouring = n; bounded = b; far = sides }
  where
    sides : (d : Side) → off d a c x ≈ᶠ whole (pos mm)
    sides left = l
    sides right = r

-- on the tangent, at a row's own station
pub at_row : Attains third last 22_025 1
unfolding computed
at_row = attains (neighbours road 22_025 22_075 refl refl) (same refl refl refl) (same refl refl refl) (same refl refl refl)

-- on the tangent, between the rows
pub on-tangent : Attains third last 22_035 1
unfolding computed
on-tangent = attains at_row.neighbouring at_row.bounded (same refl refl refl) (same refl refl refl)

-- at the vertex of the curve: 1 + 22,000² × 40,000 / (8 × 22,000 × 10⁶)
pub in_curve_lem : Attains second third 11_025 111
unfolding computed
in_curve_lem = attains (neighbours road 25 22_025 refl refl) (same refl refl refl) (same refl refl refl) (same refl refl refl)

-- in document 01's sample road: 1 + 20,000² × 40,000 / (8 × 40,000 × 10⁶) from 80,000 to 100,000; from 50,000 to 80,000 one row alone is in the curve
pub sample_bounds : (bound Sample.road 80_000 100_000 ≈ᶠ whole (pos 51)) × (bound Sample.road 50_000 80_000 ≈ᶠ whole (pos 1))
unfolding computed
sample_bounds = (same refl refl refl, same refl refl refl)

-- ---- demand 3 speaks of these rows: each of its conditions is met, at each whole station, the rows' own included

among : {a : Row} → Memᴰ a (first ∷ second ∷ third ∷ last ∷ []) → Memᴰ a (listing_rows file (replicate 96 0))
among {a} m = subst (Memᴰ a) (sym rows) m

pub claimed : BladeClose file (replicate 96 0) (listing_calls file) → (d : Side) (x : ℕ)
    → (25 ≤ x → x ≤ 22_025 → off d second third x ≤ᶠ bound road 25 22_025) × (22_025 ≤ x → x ≤ 22_075 → off d third last x ≤ᶠ bound road 22_025 22_075)
unfolding BladeClose listing_rows
claimed close d x =
    let two = among {a = second} (Memᴰ.tail (Memᴰ.head refl)) in
    let three = among {a = third} (Memᴰ.tail (Memᴰ.tail (Memᴰ.head refl))) in
    let four = among {a = last} (Memᴰ.tail (Memᴰ.tail (Memᴰ.tail (Memᴰ.head refl)))) in
    (close road 43 file-road second third two three in_curve_lem.neighbouring d x, close road 43 file-road third last three four on-tangent.neighbouring d x)
