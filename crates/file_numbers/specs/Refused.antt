-- A refusal is no value.
use Rattle.std.specs.Prelude.{◌≡◌, ℕ}
use Rattle.file_numbers.specs.Reading.{got, refused}

pub refused_not_got : {A : Type 0} {k p next : ℕ} {a : A} → refused k p ≡ got a next → ⊥
refused_not_got e = cc
