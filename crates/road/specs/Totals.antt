-- A sum as std's iterators give it is the sum of the definitions.
use Rattle.std.specs.Prelude.{◌≡◌, refl, ℕ, ◌+◌, List, [], ◌∷◌}
use Rattle.std.proofs.Common.{ap, ◌∙◌}
use Rattle.std.specs.List.{sum_by}
use Rattle.std.proofs.lemmas.List.Sums.{sum_by-cons}
use Rattle.road.specs.Base.{sum_of}

pub sum-is : {A : Type 0} (f : A → ℕ) (xs : List A) → sum_by f xs ≡ sum_of f xs
unfolding sum_of
sum-is f [] = refl
sum-is f (x ∷ xs) = sum_by-cons f x xs ∙ ap (λ (n : ℕ). f x + n) (sum-is f xs)
