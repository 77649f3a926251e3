-- What the code answers where it reads, and the reading of one number.
use Rattle.std.specs.Prelude.{ℕ, ◌≡◌, Result, Ok, Err, Bool, if◌then◌else◌}
use Rattle.file_numbers.specs.Reading.{Got, got, refused, and_then, Reading}
use Rattle.file_numbers.specs.Number.{number}
use Rattle.reader.specs.Standing.{Standing}
use Rattle.road.specs.Faults.{fault_number, as_got}
use Rattle.road.specs.declared.refusal.Fault.{Fault}
use Rattle.road.specs.declared.refusal.Refusal.{Refusal}

-- by a reading from where reading stands the code answers a result, and reading stands elsewhere among the same bytes
pub record Reads {A : Type 0} (reading : Reading A) (before after : Standing) (result : Result A Refusal) : Type 0 where
  pub bytes : after.bytes ≡ before.bytes
  pub read : as_got result after.place ≡ reading before.bytes before.place

-- what a number at a place says, with reading at the next, or the refusal at that place where it says nothing
abbrev pub said_at : {A : Type 0} → (at next : ℕ) → Result A Fault → Got A
said_at at next (Ok a) = got a next
said_at at next (Err fault) = refused (fault_number fault) at

-- a number, and what it says
abbrev pub saying : {A : Type 0} → (ℕ → Result A Fault) → Reading A
saying says s at = and_then (number s at) λ v next. said_at at next (says v)

-- a value that fits
abbrev pub where_fits : {A : Type 0} → (A → Bool) → Fault → A → Result A Fault
where_fits fits fault a = if fits a then Ok a else Err fault
