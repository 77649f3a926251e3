-- Document 02, A.5: "The answer for each peg is the row that the single call gives." Where the pegs are answered, the bytes written are those that single calls leave.
use Rattle.std.specs.Prelude.{◌≡◌, Bool, true, false, ℕ, suc, ◌*◌, ◌≤◌, ◌<◌, ltb, length, drop, if◌then◌else◌, Option, None, Some}
use Rattle.std.proofs.Math.Path.{refl, sym, ap, ap₂}
use Rattle.std.proofs.Common.{◌∙◌, arith}
use mathlib.Core.List.{List, [], ◌∷◌, ◌++◌}
use borrow.Author.Tests.{ltb-false, le-ltb}
use Rattle.std.proofs.Math.ListN.{take}
use Rattle.std.proofs.Math.Seq.{take-append_seam}
use Rattle.file_numbers.specs.Reading.{Got, got, refused}
use Rattle.road.specs.Base.{joined}
use Rattle.road.specs.File.{Road}
use Rattle.road.specs.Exact.{total}
use Rattle.road.specs.Line.{line}
use Rattle.road.specs.Rules.{accepted}
use Rattle.road.specs.Machine.{Answer, refusal, wrote, station, no_station, overwrite, row_on, buffer_on, row_answer, row_buffer}
use Rattle.laws_of_lines.specs.Buffer.{past-line}
use Rattle.peg_list.specs.Pegs.{peg_at, first_bad, lines, rows_or24, pegs_on, pegs_answer, pegs_buffer}
use Rattle.peg_list.specs.Search.{Good, good, good_none}
use Rattle.peg_list.specs.Answers.{pegs-written, pegs-accepted}
use Rattle.laws_of_pegs.specs.Text.{line_of, line_of_lem}

-- the bytes that a row call has left, up to the length that it answers
abbrev pub left_by : Answer → List ℕ → List ℕ
left_by (wrote n) b = take n b
left_by (refusal _ _) b = []
left_by (station _) b = []
left_by no_station b = []

-- what a single call for a station leaves in a buffer
abbrev pub single : (file buffer : List ℕ) (station : ℕ) → List ℕ
single f b s = left_by (row_answer f s (length b)) (row_buffer f s b)

-- the pegs are answered with a length: the file is accepted, the buffer has room, the pegs are good
pub record Answered (f pegs b : List ℕ) (n : ℕ) : Type 0 where
  pub road : Road
  pub end : ℕ
  pub was : accepted f ≡ got road end
  pub room : 96 * length pegs ≤ length b
  pub pegs_good : Good (total road) pegs
  pub length-is : n ≡ length (lines road pegs)
  pub buffer-is : pegs_buffer f pegs b ≡ overwrite (lines road pegs) b

pub answered : (f pegs b : List ℕ) (n : ℕ) → pegs_answer f pegs (length b) ≡ wrote n → Answered f pegs b n
unfolding pegs_answer pegs_buffer
answered f pegs b n e = go (accepted f) refl e
  where
    rows : (r : Road) (end : ℕ) → accepted f ≡ got r end → 96 * length pegs ≤ length b → (o : Option ℕ) → first_bad (total r) pegs ≡ o → rows_or24 r pegs o ≡ wrote n → Answered f pegs b n
    rows r end w room (Some i) q h = cc
    rows r end w room None q h =
        let g = pegs-written r pegs b room q in
        record { road = r; end = end; was = w; room = room; pegs_good = good (total r) pegs q; length-is = cc; buffer-is = sym (pegs-accepted f pegs b r end w g).buffer }

    by : (r : Road) (end : ℕ) → accepted f ≡ got r end → (c : Bool) → ltb (length b) (96 * length pegs) ≡ c → (if c then refusal 20 0 else rows_or24 r pegs (first_bad (total r) pegs)) ≡ wrote n → Answered f pegs b n
    by r end w true q h = cc
    by r end w false q h = rows r end w (ltb-false (length b) (96 * length pegs) q) (first_bad (total r) pegs) refl h

    go : (g : Got Road) → accepted f ≡ g → pegs_on pegs (length b) g ≡ wrote n → Answered f pegs b n
    go (refused k p) w h = cc
    go (got r end) w h = by r end w (ltb (length b) (96 * length pegs)) refl h

-- good pegs of an accepted file are answered, in a buffer with 96 bytes for each
pub good_answered : (f pegs b : List ℕ) (r : Road) (end : ℕ) → accepted f ≡ got r end → Good (total r) pegs → 96 * length pegs ≤ length b → pegs_answer f pegs (length b) ≡ wrote (length (lines r pegs))
good_answered f pegs b r end e g room =
    let w = pegs-written r pegs b room (good_none (total r) pegs g) in
    sym (pegs-accepted f pegs b r end e w).answered

-- ---- the single call
module _ (f : List ℕ) (r : Road) (end : ℕ) (e : accepted f ≡ got r end) (b : List ℕ) (room : 96 ≤ length b) where
  pub single-is : (s : ℕ) → s ≤ total r → single f b s ≡ line r s
  unfolding row_answer row_buffer overwrite
  single-is s h =
      let answer : row_answer f s (length b) ≡ wrote (length (line r s)) = ap (row_on s (length b)) e ∙ rw (le-ltb (length b) 96 room, le-ltb (total r) s h) in
      let buffer : row_buffer f s b ≡ overwrite (line r s) b = ap (buffer_on s b) e ∙ rw (le-ltb (length b) 96 room, le-ltb (total r) s h) in
      ap₂ left_by answer buffer ∙ take-append_seam (line r s) (drop (length (line r s)) b)

  singles_are : (pegs : List ℕ) → ((i : ℕ) → i < length pegs → peg_at pegs i ≤ total r) → joined (single f b) pegs ≡ joined (line r) pegs
  unfolding joined
  singles_are [] h = refl
  singles_are (s ∷ pegs) h = ap₂ (λ (x y : List ℕ). x ++ y) (single-is s (h 0 (omega arith))) (singles_are pegs (λ i l. h (suc i) (omega arith)))

module _ (f pegs b : List ℕ) (n : ℕ) (e : pegs_answer f pegs (length b) ≡ wrote n) where
  -- the bytes written
  abbrev pub text : List ℕ
  text = take n (pegs_buffer f pegs b)

  text-is : text ≡ lines (answered f pegs b n e).road pegs
  unfolding overwrite
  text-is =
      let a = answered f pegs b n e in
      ap₂ take a.length-is a.buffer-is ∙ take-append_seam (lines a.road pegs) (drop (length (lines a.road pegs)) b)

  -- those of single calls, each in a buffer of 96 bytes or more, one behind another
  pub single-calls : (b' : List ℕ) → 96 ≤ length b' → text ≡ joined (single f b') pegs
  unfolding lines
  single-calls b' room = let a = answered f pegs b n e in text-is ∙ sym (singles_are f a.road a.end a.was b' room pegs a.pegs_good.within)

  -- for each peg: line i of what was written is what the single call leaves for its station
  pub peg_line : (i : ℕ) → i < length pegs → (b' : List ℕ) → 96 ≤ length b' → line_of i text ≡ single f b' (peg_at pegs i)
  unfolding lines
  peg_line i h b' room =
      let a = answered f pegs b n e in
      ap (line_of i) text-is ∙ line_of_lem a.road pegs i h ∙ sym (single-is f a.road a.end a.was b' room (peg_at pegs i) (a.pegs_good.within i h))

  -- later bytes do not change
  pub later_bytes : drop n (pegs_buffer f pegs b) ≡ drop n b
  later_bytes = let a = answered f pegs b n e in ap₂ drop a.length-is a.buffer-is ∙ past-line (lines a.road pegs) b ∙ ap (λ (k : ℕ). drop k b) (sym a.length-is)
