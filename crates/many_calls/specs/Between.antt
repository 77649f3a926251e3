-- What a file is after calls that each turn a bit of it.
use Rattle.std.specs.Prelude.{List, [], ◌∷◌, ℕ, zero, suc, ◌+◌, ◌-◌, ◌%◌, eqb, if◌then◌else◌}

-- the other number of the same half
abbrev pub other : ℕ → ℕ
other n = if eqb (n % 2) 0 then n + 1 else n - 1

-- the lowest bit of the third byte turned
abbrev pub turned : List ℕ → List ℕ
turned (a ∷ b ∷ c ∷ rest) = a ∷ b ∷ other c ∷ rest
turned (a ∷ b ∷ []) = a ∷ b ∷ []
turned (a ∷ []) = a ∷ []
turned [] = []

-- so many times
abbrev pub turned_often : ℕ → List ℕ → List ℕ
turned_often zero f = f
turned_often (suc n) f = turned (turned_often n f)
