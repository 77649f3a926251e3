-- What the code's answer stands for in document 01.
use Rattle.std.specs.Prelude.{ℕ, Option, Some, None}
use Rattle.file_numbers.specs.Reading.{Got, got, refused}
use Rattle.file_numbers.specs.declared.Number.{Number}

-- a number and the place after it, or refusal 2 at the number's first byte
abbrev pub meaning : Option Number → (at : ℕ) → Got ℕ
meaning (Some n) at = got n.value n.next
meaning None at = refused 2 at
