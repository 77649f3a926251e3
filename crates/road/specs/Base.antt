-- Choice, search and sums.
use Rattle.std.specs.Prelude.{ℕ, zero, suc, ◌+◌, Bool, true, false, List, [], ◌∷◌, ◌++◌, Option, None, Some}

-- the least of i, .. , i + n - 1 that passes a test
unfoldable pub first_from : (ℕ → Bool) → ℕ → ℕ → Option ℕ
first_from test zero i = None
first_from test (suc n) i = elim (test i) [ true ↦ Some i | false ↦ first_from test n (suc i) ]

-- the least number below n that passes a test
unfoldable pub first_that : (ℕ → Bool) → ℕ → Option ℕ
first_that test n = first_from test n 0

-- the greatest number below n that passes a test; 0 where none does
unfoldable pub last_that : (ℕ → Bool) → ℕ → ℕ
last_that test zero = 0
last_that test (suc n) = elim (test n) [ true ↦ n | false ↦ last_that test n ]

-- i, i + 1, .. , i + n - 1
unfoldable pub count_from : ℕ → ℕ → List ℕ
count_from i zero = []
count_from i (suc n) = i ∷ count_from (suc i) n

unfoldable pub sum_of : {A : Type 0} → (A → ℕ) → List A → ℕ
sum_of f [] = 0
sum_of f (x ∷ xs) = f x + sum_of f xs

-- what each item gives, one behind another
unfoldable pub joined : {A : Type 0} → (A → List ℕ) → List A → List ℕ
joined f [] = []
joined f (x ∷ xs) = f x ++ joined f xs
