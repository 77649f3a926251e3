-- The whole list of a file from its parts: each part and the list from the station it goes on from are the list from where it began.
use Rattle.std.specs.Prelude.{◌≡◌, refl, Bool, true, false, ℕ, ◌≤◌, ◌<◌, ltb, length, take, drop, if◌then◌else◌, Option, None, Some}
use Rattle.std.proofs.Math.Path.{sym, ap, ap₂}
use Rattle.std.proofs.Common.{◌∙◌, arith, ltb-false, le-ltb}
use mathlib.Core.List.{List, [], ◌++◌}
use Rattle.std.proofs.Math.ListN.{length-append}
use Rattle.std.proofs.Math.Seq.{take-append_seam}
use Rattle.file_numbers.specs.Reading.{Got, got, refused}
use Rattle.road.specs.Base.{joined}
use Rattle.road.specs.File.{Road}
use Rattle.road.specs.Line.{line}
use Rattle.road.specs.Listed.{listed}
use Rattle.road.specs.Listing.{refusal_line, list_by, list_of}
use Rattle.road.specs.Faults.{value, refusal}
use Rattle.road.specs.Machine.{overwrite}
use Rattle.road.specs.Rules.{accepted}
use Rattle.laws_of_acceptance.specs.Guaranteed.{Guaranteed, guaranteed}
use Rattle.walk.specs.FittingRows.{Part, not_below, chunk, onward, answer}
use Rattle.walk.specs.Parts.{fit_whole}
use Rattle.walk.specs.NotBelow.{from_all}
use Rattle.walk.specs.Inside.{listed-inside, chunk-fits}
use Rattle.walk.specs.AllChunks.{onward-beyond, done-remaining}
use Rattle.walk.proofs.AllChunksLaws.{remaining-from, onward-listed}
use Rattle.walk.specs.declared.Chunk.{Chunk}
use Rattle.listing.specs.Chunks.{list_on, list_answer, rows_on, list_buffer}

-- the list from a station on; of a refused file its refusal
abbrev pub rest_by : ℕ → Got Road → List ℕ
rest_by s (refused n p) = refusal_line n p
rest_by s (got r _) = joined (line r) (not_below s (listed r))

unfoldable pub rest_of : List ℕ → (station : ℕ) → List ℕ
rest_of f s = rest_by s (accepted f)

-- from 0 on it is the whole list
pub rest_all : (f : List ℕ) → rest_of f 0 ≡ list_of f
unfolding rest_of list_of
rest_all f = go (accepted f)
  where
    go : (g : Got Road) → rest_by 0 g ≡ list_by g
    go (refused n p) = refl
    go (got r end) = ap (joined (line r)) (from_all 0 (listed r) (λ z m. omega arith))

-- what follows a part: the list from the station that it goes on from, or nothing
abbrev pub rest_after : List ℕ → Option ℕ → List ℕ
rest_after f (Some s) = rest_of f s
rest_after f None = []

-- an answer with a part: the file is accepted, the buffer has room for a row, and the part is the definition's
pub record Parted (f : List ℕ) (s room : ℕ) (c : Chunk) : Type 0 where
  pub road : Road
  pub end : ℕ
  pub was : accepted f ≡ got road end
  pub room-left : 96 ≤ room
  pub given : c ≡ answer (chunk road s room)

pub parted : (f : List ℕ) (s room : ℕ) (c : Chunk) → value c ≡ list_answer f s room → Parted f s room c
unfolding list_answer
parted f s room c e = go (accepted f) refl e
  where
    by : (r : Road) (end : ℕ) → accepted f ≡ got r end → (t : Bool) → ltb room 96 ≡ t → value c ≡ (if t then refusal 20 0 else value (answer (chunk r s room))) → Parted f s room c
    by r end w true q h = cc
    by r end w false q h = record { road = r; end = end; was = w; room-left = ltb-false room 96 q; given = cc }

    go : (g : Got Road) → accepted f ≡ g → value c ≡ list_on s room g → Parted f s room c
    go (refused n p) w h = cc
    go (got r end) w h = by r end w (ltb room 96) refl h

-- bytes at the start of a buffer that are the list's part from a station on, and how the list goes on: from a later station of the road, or that it is done
pub record PartOf (f : List ℕ) (s : ℕ) (buffer : List ℕ) (c : Chunk) : Type 0 where
  pub fits : c.bytes ≤ length buffer
  pub whole : rest_of f s ≡ take c.bytes buffer ++ rest_after f c.next
  pub beyond : (t : ℕ) → c.next ≡ Some t → s < t
  pub inside : (t : ℕ) → c.next ≡ Some t → t ≤ 100000000

module _ (f : List ℕ) (s : ℕ) (b : List ℕ) (r : Road) (end : ℕ) (was : accepted f ≡ got r end) where
  abbrev here : Part
  here = chunk r s (length b)

  G : Guaranteed r
  G = guaranteed f r end was

  -- the lines from s on are the part's and those of the stations that remain
  lines : joined (line r) (not_below s (listed r)) ≡ here.text ++ joined (line r) here.remaining
  unfolding chunk
  lines = fit_whole (line r) (length b) (not_below s (listed r))

  -- those of the stations that remain are what follows the part
  follows : (o : Option ℕ) → onward here.remaining ≡ o → joined (line r) here.remaining ≡ rest_after f o
  unfolding rest_of joined
  follows (Some t) e = ap (joined (line r)) (remaining-from G s (length b) t e) ∙ sym (ap (rest_by t) was)
  follows None e = ap (joined (line r)) (done-remaining here.remaining e)

  -- what a walk from s leaves in a buffer with room for a row is a part of the list
  pub walked : 96 ≤ length b → PartOf f s (overwrite here.text b) (answer here)
  unfolding rest_of overwrite
  walked room =
      let T = G.whole.high in
      let n = chunk-fits G s (length b) in
      record {
        fits = omega (arith, length-append here.text (drop (length here.text) b));
        whole =
            ap (rest_by s) was
            ∙ lines
            ∙ ap₂ (λ (x y : List ℕ). x ++ y) (sym (take-append_seam here.text (drop (length here.text) b))) (follows (onward here.remaining) refl);
        beyond = λ t e. onward-beyond G s (length b) t e room;
        inside = λ t e. omega (arith, listed-inside G (onward-listed G s (length b) t e));
      }

-- the answer and the buffer of the routine that lists: a part of the list
pub part_of_list : (f : List ℕ) (s : ℕ) (b : List ℕ) (c : Chunk) → value c ≡ list_answer f s (length b) → PartOf f s (list_buffer f s b) c
unfolding list_buffer
part_of_list f s b c e =
    let p = parted f s (length b) c e in
    let buffer : rows_on s b (accepted f) ≡ overwrite (chunk p.road s (length b)).text b = ap (rows_on s b) p.was ∙ rw (le-ltb (length b) 96 p.room-left) in
    rw (p.given, buffer) (walked f s b p.road p.end p.was p.room-left)
