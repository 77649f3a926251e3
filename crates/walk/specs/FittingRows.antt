-- The listed stations from a station on, and the rows of them that fit a buffer.
use Rattle.std.specs.Prelude.{true, false, List, [], ◌∷◌, ◌++◌, ℕ, ◌-◌, leb, length, if◌then◌else◌, Option, None, Some}
use Rattle.road.specs.File.{Road}
use Rattle.road.specs.Listed.{listed}
use Rattle.road.specs.Line.{line}
use Rattle.walk.specs.declared.Chunk.{Chunk}

-- those of a list that are not below s
unfoldable pub not_below : ℕ → List ℕ → List ℕ
not_below s [] = []
not_below s (x ∷ xs) = if leb s x then x ∷ not_below s xs else not_below s xs

-- the bytes of some rows, and the stations that remain
pub record Part : Type 0 where
  pub text : List ℕ
  pub remaining : List ℕ

abbrev pub before : List ℕ → Part → Part
before t p = record { text = t ++ p.text; remaining = p.remaining }

-- no row
abbrev pub nothing : List ℕ → Part
nothing stations = record { text = []; remaining = stations }

-- the rows of stations, one behind another, as long as at least 96 bytes remain
unfoldable pub rows_that_fit : (ℕ → List ℕ) → (room : ℕ) → List ℕ → Part
rows_that_fit line room [] = nothing []
rows_that_fit line room (s ∷ ss) =
    elim (leb 96 room) [ true ↦ before (line s) (rows_that_fit line (room - length (line s)) ss) | false ↦ nothing (s ∷ ss) ]

-- the rows of the listed stations that are not below s, as many as fit
unfoldable pub chunk : Road → (station room : ℕ) → Part
chunk r s room = rows_that_fit (line r) room (not_below s (listed r))

-- the first of the stations that remain, or that the list is done
abbrev pub onward : List ℕ → Option ℕ
onward [] = None
onward (s ∷ _) = Some s

-- how many bytes, and how to go on
abbrev pub answer : Part → Chunk
answer p = record { bytes = length p.text; next = onward p.remaining }
