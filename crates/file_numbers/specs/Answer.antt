-- The code's answer for groups that end before a place.
use Rattle.std.specs.Prelude.{ℕ, Option, Some, None, if◌then◌else◌}
use Rattle.file_numbers.specs.Number.{sound}
use Rattle.file_numbers.specs.declared.Number.{Number}

-- the number, where the groups are one
unfoldable pub answer : (value count next : ℕ) → Option Number
answer value count next = if sound (record { value = value; count = count }) then Some (record { value = value; next = next }) else None
