-- What a result of the code says of a reading: the value that it gives, or its refusal.
use Rattle.std.specs.Prelude.{◌≡◌, ℕ, List}
use Rattle.file_numbers.specs.Reading.{Got, got, refused}
use Rattle.road.specs.Faults.{value, refusal, of_got}

-- the reading gives a value, wherever it ended
pub record Given {A : Type 0} (a : A) (g : Got A) : Type 0 where
  pub end : ℕ
  pub was : g ≡ got a end

pub said-value : {A : Type 0} {a : A} (g : Got A) → value a ≡ of_got g → Given a g
said-value (got b end) e = record { end = end; was = cc }
said-value (refused n p) e = absurd cc

pub said-refusal : {A : Type 0} {n p : ℕ} (g : Got A) → refusal n p ≡ of_got g → g ≡ refused n p
said-refusal (got b end) e = absurd cc
said-refusal (refused m q) e = cc

-- ---- what a call answers, and the buffer that it leaves, are those that are asked
pub record Gives {A : Type 0} (asked : A) (left : List ℕ) (answer : A) (final : List ℕ) : Type 0 where
  pub answered : answer ≡ asked
  pub buffer : final ≡ left

-- what is asked by the reading of a file is asked by what the reading gave
pub gives_by : {A B : Type 0} (asked : Got A → B) (left : Got A → List ℕ) {g h : Got A} {answer : B} {final : List ℕ} → g ≡ h → Gives (asked h) (left h) answer final → Gives (asked g) (left g) answer final
gives_by asked left e w = rw e w
