-- The marks of a file are a number of seven bits.
use Rattle.std.specs.Prelude.{◌≡◌, ℕ, ◌≤◌, List}
use Rattle.std.proofs.Common.{arith}
use Rattle.road.specs.Faults.{value}
use Rattle.road.specs.File.{Road, read}
use Rattle.file_numbers.specs.Reading.{Got, got, refused}
use Rattle.speed_marks.specs.Marks.{marks, marks_on, marks_answer}
use Rattle.speed_marks.specs.Standing.{marks-below}

few_on : (g : Got Road) {set : ℕ} → value set ≡ marks_on g → set ≤ 127
few_on (got r end) {set} e = let same : set ≡ marks r = cc in omega (arith, same, marks-below r)
few_on (refused n p) e = absurd cc

pub few : (f : List ℕ) {set : ℕ} → value set ≡ marks_answer f → set ≤ 127
unfolding marks_answer
few f e = few_on (read f) e
