-- The reading place: some bytes, and where reading stands among them.
use Rattle.std.specs.Prelude.{ℕ, ◌≡◌, List, Option, Some, None}
use Rattle.file_numbers.specs.Reading.{Got, got, refused}
use Rattle.file_numbers.specs.Number.{number}
use Rattle.reader.specs.declared.Reader.{Reader}

pub record Standing : Type 0 where
  pub bytes : List ℕ
  pub place : ℕ

-- where a reader stands
abbrev pub standing : Reader → Standing
standing r = record { bytes = r.src.now; place = r.place }

-- a number read from a place on, with reading standing at the next after it; or refusal 2 at its first byte
abbrev pub said : Option ℕ → (at next : ℕ) → Got ℕ
said (Some v) at next = got v next
said None at next = refused 2 at

-- the number at the reading place is read, and the place moves past it; a number at fault is not passed
pub record Passes (before after : Standing) (read : Option ℕ) : Type 0 where
  pub bytes : after.bytes ≡ before.bytes
  pub number : said read before.place after.place ≡ number before.bytes before.place
  pub stays : read ≡ None → after.place ≡ before.place

-- the number that stands at a place, if one does
abbrev pub value_there : Got ℕ → Option ℕ
value_there (got v next) = Some v
value_there (refused n p) = None
