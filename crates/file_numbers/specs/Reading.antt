-- What reading some bytes from a place on gives: a value and the place after it, or a refusal.
use Rattle.std.specs.Prelude.{ℕ, zero, suc, List, [], ◌∷◌}

-- "The answer is the number and a place, counted from 0."
pub data Got (A : Type 0) : Type 0 where
  got : (value : A) (next : ℕ) → Got A
  refused : (number place : ℕ) → Got A

-- go on after a value; a refusal stays
abbrev pub and_then : {A B : Type 0} → Got A → (A → ℕ → Got B) → Got B
and_then (got a next) f = f a next
and_then (refused n p) f = refused n p

-- a way to read a value of the file's bytes from a place on
abbrev pub Reading : Type 0 → Type 0
Reading A = List ℕ → ℕ → Got A

-- one after the other
abbrev pub ◌>>=◌ : {A B : Type 0} → Reading A → (A → Reading B) → Reading B
◌>>=◌ m f = λ s at. and_then (m s at) λ a next. f a s next

-- the value, with nothing more read
abbrev pub give : {A : Type 0} → A → Reading A
give a = λ s at. got a at

-- so many values, one after the other; the reading of each is told how many follow it
unfoldable pub many : {A : Type 0} → (ℕ → Reading A) → ℕ → Reading (List A)
many read zero = give []
many read (suc n) = do
  a ← read n
  rest ← many read n
  give (a ∷ rest)
