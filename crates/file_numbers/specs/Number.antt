-- Document 01, "The file": how a number is written. Over plain whole numbers, at no width.
use Rattle.std.specs.Prelude.{ℕ, zero, suc, ◌+◌, ◌*◌, ◌/◌, ◌%◌, max, List, [], ◌∷◌, Bool, true, false, ◌&&◌, drop, leb, ltb, eqb, ℤ, pos, negsuc, Option, None, Some, option_map}
use Rattle.file_numbers.specs.Reading.{Got, got, refused, Reading}

-- the groups of one number at the front of some bytes: what they stand for, and how many they are
pub record Groups : Type 0 where
  pub value : ℕ
  pub count : ℕ

-- "lowest group first"
abbrev pub lowest : ℕ → Groups → Groups
lowest g rest = record { value = g + 128 * rest.value; count = suc rest.count }

-- "seven bits to a byte .. the top bit is set on every byte but the last"; none where the bytes break off
unfoldable pub groups : List ℕ → Option Groups
groups [] = None
groups (b ∷ bs) = elim (leb 128 b) [
  | true ↦ option_map (lowest (b % 128)) (groups bs)
  | false ↦ Some (record { value = b; count = 1 })
]

-- the significant bits of v: none for 0, else one more than its half has (d bounds the depth)
unfoldable pub bits_in : ℕ → ℕ → ℕ
bits_in zero v = 0
bits_in (suc d) zero = 0
bits_in (suc d) (suc v) = suc (bits_in d (suc v / 2))

unfoldable pub bits : ℕ → ℕ
bits v = bits_in v v

-- "In shortest form, a number of b significant bits takes b/7 bytes, rounded up; 0 takes one."
unfoldable pub byte_count : ℕ → ℕ
byte_count v = max 1 ((bits v + 6) / 7)

-- "The greatest number is 4,294,967,295."
abbrev pub greatest : ℕ
greatest = 4294967295

-- groups are a number where it is not above the greatest and they are its shortest form
unfoldable pub sound : Groups → Bool
sound g = leb g.value greatest && eqb g.count (byte_count g.value)

abbrev pub checked_from : Bool → Groups → ℕ → Got ℕ
checked_from true g at = got g.value (at + g.count)
checked_from false g at = refused 2 at

-- 2. "A number breaks off, is not in shortest form, or exceeds the greatest (place: its first byte)."
abbrev pub number_from : Option Groups → ℕ → Got ℕ
number_from None at = refused 2 at
number_from (Some g) at = checked_from (sound g) g at

unfoldable pub number : Reading ℕ
number s at = number_from (groups (drop at s)) at

-- the bytes of a number in shortest form (d bounds the depth)
unfoldable pub shortest_in : ℕ → ℕ → List ℕ
shortest_in zero v = v ∷ []
shortest_in (suc d) v = elim (ltb v 128) [ true ↦ v ∷ [] | false ↦ (128 + v % 128) ∷ shortest_in d (v / 128) ]

unfoldable pub shortest : ℕ → List ℕ
shortest v = shortest_in v v

-- "A signed value v is written as 2v if v ≥ 0, else as −2v − 1" (`negsuc n` is −n − 1)
abbrev pub written : ℤ → ℕ
written (pos n) = 2 * n
written (negsuc n) = 2 * n + 1

abbrev pub by_parity : ℕ → ℕ → ℤ
by_parity zero half = pos half
by_parity (suc _) half = negsuc half

-- the signed value that a number is written for
unfoldable pub signed_of : ℕ → ℤ
signed_of n = by_parity (n % 2) (n / 2)
