-- Text as bytes, so that a theorem can show a list as it is printed.
use Rattle.std.specs.Prelude.{ℕ, List, [] as []ᴸ, ◌∷◌ as ◌∷ᴸ◌}
use Prim.Native.Char.{code}
use Prim.Native.String.{String, [], ◌∷◌}

-- the bytes of a line of plain text, byte 10 after
abbrev pub printed_line : String → List ℕ
printed_line [] = 10 ∷ᴸ []ᴸ
printed_line (c ∷ s) = code c ∷ᴸ printed_line s
