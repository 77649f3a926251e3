-- A kind, and the speed of a class and a terrain, by any number: the tests and the speed of its case.
use Rattle.std.specs.Prelude.{◌≡◌, refl, ℕ, zero, suc, ◌-◌, ◌<◌, Bool, false, List, [], ◌∷◌, get_or, eqb}
use Rattle.std.proofs.Common.{sym, ap, ◌∙◌, arith, ne_eqb}
use Rattle.road.specs.File.{kind_of, straight_kind, arc_kind, clothoid_kind, class_of, terrain_of}
use Rattle.road.specs.Limits.{speeds, class_row, terrain_column, speed, speed_at}
use Rattle.road.specs.declared.Kind.{Kind}
use Rattle.road.specs.declared.Kind.TheVariants as kinds
use Rattle.road.specs.declared.Kind.TheVariants.{Straight, Arc, Clothoid}
use Rattle.road.specs.declared.Class.{Class}
use Rattle.road.specs.declared.Class.TheVariants as classes
use Rattle.road.specs.declared.Terrain.TheVariants as terrains

above : (n m : ℕ) → m < n → eqb n m ≡ false
above n m h = ne_eqb n m (λ (e : n ≡ m). omega arith)

-- ---- "kind 0 straight, 1 arc, 2 clothoid": no other number is one of them

other-kind : (n : ℕ) → 2 < n → kind_of n ≡ kinds.Other
other-kind n h = rw (above n 0 (omega arith), above n 1 (omega arith), above n 2 h)

-- a test that holds of the kind with one number alone
by_number : (test : Kind → Bool) (m : ℕ) → m < 3 → test Straight ≡ eqb 0 m → test Arc ≡ eqb 1 m → test Clothoid ≡ eqb 2 m → test kinds.Other ≡ false → (n : ℕ) → test (kind_of n) ≡ eqb n m
by_number test m h a b c o zero = a
by_number test m h a b c o (suc zero) = b
by_number test m h a b c o (suc (suc zero)) = c
by_number test m h a b c o (suc (suc (suc n))) = let k : ℕ = suc (suc (suc n)) in ap test (other-kind k (omega arith)) ∙ o ∙ sym (above k m (omega (arith, h)))

pub straight-number : (n : ℕ) → straight_kind (kind_of n) ≡ eqb n 0
straight-number = by_number straight_kind 0 (omega arith) refl refl refl refl

pub arc-number : (n : ℕ) → arc_kind (kind_of n) ≡ eqb n 1
arc-number = by_number arc_kind 1 (omega arith) refl refl refl refl

pub clothoid-number : (n : ℕ) → clothoid_kind (kind_of n) ≡ eqb n 2
clothoid-number = by_number clothoid_kind 2 (omega arith) refl refl refl refl

-- ---- the speed of any two numbers

other-class : (n : ℕ) → 4 < n → class_of n ≡ classes.Other
other-class n h = rw (above n 1 (omega arith), above n 2 (omega arith), above n 3 (omega arith), above n 4 h)

row-of : (n : ℕ) → get_or speeds n [] ≡ get_or speeds (class_row (class_of (suc n))) []
row-of zero = refl
row-of (suc zero) = refl
row-of (suc (suc zero)) = refl
row-of (suc (suc (suc zero))) = refl
row-of (suc (suc (suc (suc n)))) = sym (ap (λ (c : Class). get_or speeds (class_row c) []) (other-class (suc (suc (suc (suc (suc n))))) (omega arith)))

other-terrain : (n : ℕ) → 3 < n → terrain_of n ≡ terrains.Other
other-terrain n h = rw (above n 1 (omega arith), above n 2 (omega arith), above n 3 h)

column-of : (a b c n : ℕ) → get_or (a ∷ b ∷ c ∷ []) n 0 ≡ get_or (a ∷ b ∷ c ∷ []) (terrain_column (terrain_of (suc n))) 0
column-of a b c zero = refl
column-of a b c (suc zero) = refl
column-of a b c (suc (suc zero)) = refl
column-of a b c (suc (suc (suc n))) = sym (ap (λ (k : ℕ). get_or (a ∷ b ∷ c ∷ []) k 0) (ap terrain_column (other-terrain (suc (suc (suc (suc n)))) (omega arith))))

column-in : (class : Class) (n : ℕ) → get_or (get_or speeds (class_row class) []) n 0 ≡ get_or (get_or speeds (class_row class) []) (terrain_column (terrain_of (suc n))) 0
column-in classes.LongDistance n = column-of 100 100 80 n
column-in classes.Connecting n = column-of 100 80 70 n
column-in classes.Collecting n = column-of 80 60 50 n
column-in classes.Access n = column-of 60 50 40 n
column-in classes.Other n = refl

from_1 : (n m : ℕ) → speed_at (suc n) (suc m) ≡ speed (class_of (suc n)) (terrain_of (suc m))
unfolding speed speed_at
from_1 n m =
    let i : suc n - 1 ≡ n = omega arith in
    let j : suc m - 1 ≡ m = omega arith in
    rw (i, j) (ap (λ (row : List ℕ). get_or row m 0) (row-of n) ∙ column-in (class_of (suc n)) m)

-- the number 0 counts as 1
abbrev pub at_least_1 : ℕ → ℕ
at_least_1 zero = 1
at_least_1 (suc n) = suc n

pub speed-number : (n m : ℕ) → speed_at n m ≡ speed (class_of (at_least_1 n)) (terrain_of (at_least_1 m))
unfolding speed_at
speed-number zero zero = from_1 0 0
speed-number zero (suc m) = from_1 0 m
speed-number (suc n) zero = from_1 n 0
speed-number (suc n) (suc m) = from_1 n m
