-- A test that holds of each item of a list, by one computed test.
use Rattle.std.specs.Prelude.{Bool, List, [], ◌∷◌, ℕ, zero, suc, ◌<◌, length, get_or, T}
use Rattle.std.specs.List.{list_all}
use Rattle.std.proofs.Common.{arith}
use Rattle.laws_of_lists.specs.Tests.{and_T}

-- an item of the list, and one past its end
pub each : {A : Type 0} (test : A → Bool) (d : A) (l : List A) → T (list_all test l) → T (test d) → (i : ℕ) → T (test (get_or l i d))
each test d [] t e i = e
each test d (x ∷ l) t e zero = (and_T (test x) (list_all test l) t).0
each test d (x ∷ l) t e (suc i) = each test d l (and_T (test x) (list_all test l) t).1 e i

pub each_below : {A : Type 0} (test : A → Bool) (d : A) (l : List A) → T (list_all test l) → (i : ℕ) → i < length l → T (test (get_or l i d))
each_below test d [] t i h = absurd (omega arith)
each_below test d (x ∷ l) t zero h = (and_T (test x) (list_all test l) t).0
each_below test d (x ∷ l) t (suc i) h = each_below test d l (and_T (test x) (list_all test l) t).1 i (omega arith)
