-- Tests joined by "and" and "or".
use Rattle.std.specs.Prelude.{◌≡◌, ◌⊎◌, Bool, true, false, ◌&&◌, ◌||◌, T}
use Rattle.std.proofs.Common.{inl, inr}
use Rattle.std.proofs.Math.Bool.{or-true}
use Rattle.std.proofs.lemmas.Bool.{both_ways, and_parts, or_parts, or_cases}

pub and_T : (a b : Bool) → T (a && b) → T a × T b
and_T true b t = (tt, t)
and_T false b t = absurd t

pub or_T : (a b : Bool) → T (a || b) → T a ⊎ T b
or_T true b t = inl tt
or_T false b t = inr t

pub and_no_then : (a b : Bool) → (a && b) ≡ false → a ≡ true → b ≡ false
and_no_then true b e h = e
and_no_then false b e h = cc

-- ---- std's, under the names by which crates above cite them

pub true_false : (b : Bool) → b ≡ true → b ≡ false → ⊥
true_false b p q = both_ways b q p

pub and_left : (a b : Bool) → (a && b) ≡ true → a ≡ true
and_left a b e = (and_parts a b e).0

pub and_right : (a b : Bool) → (a && b) ≡ true → b ≡ true
and_right a b e = (and_parts a b e).1

pub and_yes : (a b : Bool) → (a && b) ≡ true → (a ≡ true) × (b ≡ true)
and_yes = and_parts

pub or_left : (a b : Bool) → (a || b) ≡ false → a ≡ false
or_left a b e = (or_parts a b e).0

pub or_right : (a b : Bool) → (a || b) ≡ false → b ≡ false
or_right a b e = (or_parts a b e).1

pub or_no : (a b : Bool) → (a || b) ≡ false → (a ≡ false) × (b ≡ false)
or_no = or_parts

pub or_yes : (a b : Bool) → (a || b) ≡ true → (a ≡ true) ⊎ (b ≡ true)
or_yes = or_cases

pub or_true : (a : Bool) → (a || true) ≡ true
or_true = or-true
