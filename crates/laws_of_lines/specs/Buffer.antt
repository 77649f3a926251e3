-- "only its bytes change": a row call leaves a buffer as long as it was, and what lies past the line as it was.
use Rattle.std.specs.Prelude.{◌≡◌, refl, Bool, true, false, List, ℕ, ◌≤◌, length, drop, ltb, if◌then◌else◌}
use Rattle.std.proofs.Common.{◌∙◌, arith, ltb-false, length-append, length-drop}
use Rattle.std.proofs.Math.Seq.{drop-append_seam}
use Rattle.file_numbers.specs.Reading.{Got, got, refused}
use Rattle.road.specs.File.{Road}
use Rattle.road.specs.Exact.{total}
use Rattle.road.specs.Rules.{accepted}
use Rattle.road.specs.Line.{line}
use Rattle.road.specs.Machine.{row_buffer, buffer_on, overwrite, Call, row, next, step}
use Rattle.laws_of_acceptance.specs.Positive.{accepted-road}
use Rattle.laws_of_lines.specs.Fits.{line-fits}

overwrite-length : (l b : List ℕ) → length l ≤ length b → length (overwrite l b) ≡ length b
unfolding overwrite
overwrite-length l b h = length-append l (drop (length l) b) ∙ omega (arith, length-drop (length l) b)

pub past-line : (l b : List ℕ) → drop (length l) (overwrite l b) ≡ drop (length l) b
unfolding overwrite
past-line l b = drop-append_seam l (drop (length l) b)

-- of any file, station and buffer
pub buffer-length : (f : List ℕ) (s : ℕ) (b : List ℕ) → length (row_buffer f s b) ≡ length b
unfolding row_buffer
buffer-length f s b = go (accepted f) refl
  where
    fits : (r : Road) (end : ℕ) → accepted f ≡ got r end → (c d : Bool) → ltb (length b) 96 ≡ c → ltb (total r) s ≡ d → length (if c then b else (if d then b else overwrite (line r s) b)) ≡ length b
    fits r end e true d p q = refl
    fits r end e false true p q = refl
    fits r end e false false p q =
        let room = ltb-false (length b) 96 p in
        overwrite-length (line r s) b (omega (arith, line-fits (accepted-road f r end e) s (ltb-false (total r) s q)))

    go : (g : Got Road) → accepted f ≡ g → length (buffer_on s b g) ≡ length b
    go (refused n p) e = refl
    go (got r end) e = fits r end e (ltb (length b) 96) (ltb (total r) s) refl refl

pub step-length : (f b : List ℕ) (c : Call) → length (step f b c).buffer ≡ length b
unfolding step
step-length f b (row s) = buffer-length f s b
step-length f b (next s) = refl
