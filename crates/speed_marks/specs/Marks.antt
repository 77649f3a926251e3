-- Request A.4, "Which speeds would it pass?": the seven marks of a file.
use Rattle.std.specs.Prelude.{ℕ, ◌+◌, ◌*◌, Bool, true, false, List, [], ◌∷◌, map, if◌then◌else◌}
use Rattle.file_numbers.specs.Reading.{Got, got, refused}
use Rattle.road.specs.File.{Road, read}
use Rattle.road.specs.Faults.{Said, value, refusal}
use Rattle.road.specs.Limits.{limits_at}
use Rattle.road.specs.declared.Limits.{Limits}
use Rattle.road.specs.Rules.{Verdict, passes, breaks, judged}

-- "Designers try a road at seven speeds": those of the rule book's rows, in km/h
abbrev pub tried_speeds : List ℕ
tried_speeds = 40 ∷ 50 ∷ 60 ∷ 70 ∷ 80 ∷ 90 ∷ 100 ∷ []

-- "with that speed's row in place of the class's, lane width included"; the contract stays the road's own
abbrev pub limits_with : (speed : ℕ) → Road → Limits
limits_with v r = limits_at v r.head.contract

abbrev pub is_passed : Verdict → Bool
is_passed passes = true
is_passed (breaks _ _) = false

-- "A mark stands if and only if the file passes every rule after the reading rules with that speed's row"
unfoldable pub stands : Road → (speed : ℕ) → Bool
stands r v = is_passed (judged (limits_with v r) r)

-- a mark as a bit
abbrev pub bit : Bool → ℕ
bit mark = if mark then 1 else 0

-- marks as one number, the first in the lowest bit
unfoldable pub set_of : List Bool → ℕ
set_of [] = 0
set_of (mark ∷ later) = bit mark + 2 * set_of later

-- "a set of seven marks, 40 km/h in the lowest bit up to 100 in the seventh"
unfoldable pub marks : Road → ℕ
marks r = set_of (map (stands r) tried_speeds)

-- "A file that 1 to 4 or 22 turn away gets that refusal."
abbrev pub marks_on : Got Road → Said ℕ
marks_on (refused n p) = refusal n p
marks_on (got r _) = value (marks r)

unfoldable pub marks_answer : List ℕ → Said ℕ
marks_answer f = marks_on (read f)
