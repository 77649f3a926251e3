-- What stands at the front of a buffer after one more read.
use Rattle.std.specs.Prelude.{◌≡◌, ℕ, ◌+◌, ◌-◌, ◌≤◌, List, ◌++◌, length, take, slice_range}
use Rattle.std.proofs.Common.{arith, sym, ap, ◌∙◌, le_refl, drop_at, length-take-le}
use Rattle.std.proofs.Math.Seq.{take-add, take-append-le}
use Rattle.std.proofs.lemmas.Slice.{take-put_mid_below}
use borrow.Rule.Slice.PartMut.{put_mid, post_of}

-- the front stays as it was, and what was read stands behind it
split : (a b : ℕ) (old new : List ℕ) → a ≤ b → take a new ≡ take a old → take a old ++ slice_range new a b ≡ take b new
split a b old new h front =
    let same : a + (b - a) ≡ b = omega arith in
    ap (λ l. l ++ slice_range new a b) (sym front) ∙ sym (take-add a (b - a) new) ∙ ap (λ n. take n new) same

read_part : (a k n : ℕ) (xs ys : List ℕ) → a ≤ length xs → n ≤ length ys → slice_range (put_mid a k xs ys) a (a + n) ≡ take n ys
read_part a k n xs ys within fits =
    let same : (a + n) - a ≡ n = omega arith in
    let after = post_of a k xs in
    ap (take ((a + n) - a)) (drop_at (take a xs) (ys ++ after) a (length-take-le a xs within)) ∙ ap (λ m. take m (ys ++ after)) same ∙ take-append-le n ys after fits

-- n bytes were read into the buffer's rest, behind the a bytes before them
pub read_behind : (a n : ℕ) (buffer rest : List ℕ) → a ≤ length buffer → n ≤ length rest
    → take a buffer ++ take n rest ≡ take (a + n) (put_mid a (length buffer - a) buffer rest)
read_behind a n buffer rest within fits =
    let room = length buffer - a in
    let whole = split a (a + n) buffer (put_mid a room buffer rest) (omega arith) (take-put_mid_below _ _ _ _ _ (le_refl _) within) in
    ap (λ l. take a buffer ++ l) (sym (read_part a room n buffer rest within fits)) ∙ whole
