-- A whole list in chunks: the calls that list a road part by part, and the station to go on from.
use Rattle.std.specs.Prelude.{◌≡◌, refl, ℕ, suc, ◌+◌, ◌-◌, ◌≤◌, ◌<◌, take, drop, None, Some}
use Rattle.std.proofs.Common.{arith}
use mathlib.Core.List.Memᴰ
use mathlib.Core.List.{List, [], ◌∷◌, Memᴰ}
use Rattle.std.proofs.Math.ListN.{length}
use Rattle.std.proofs.Math.Seq.{take-append_seam}
use Rattle.road.specs.File.{Road}
use Rattle.road.specs.Exact.{total}
use Rattle.road.specs.Listed.{listed}
use Rattle.road.specs.Line.{line}
use Rattle.road.specs.Machine.{overwrite}
use Rattle.laws_of_search.specs.Ascends.{Ascends, step}
use Rattle.laws_of_acceptance.specs.Guaranteed.{Guaranteed}
use Rattle.walk.specs.FittingRows.{not_below, rows_that_fit, chunk, onward, answer}
use Rattle.walk.specs.NotBelow.{from_member, from-ascends}
use Rattle.walk.specs.Parts.{first_or, Stopped, fit_none, fit_row, fit_stops}
use Rattle.walk.specs.Inside.{listed-ascends, listed-inside}
use Rattle.walk.specs.declared.Chunk.{Chunk}

-- what is seen after a call: its answer, and every byte of the buffer
pub record Seen : Type 0 where
  pub answer : Chunk
  pub buffer : List ℕ

-- what a call from a station with a buffer leaves
abbrev pub after : Road → (station : ℕ) → (buffer : List ℕ) → Seen
after r s b = record { answer = answer (chunk r s (length b)); buffer = overwrite (chunk r s (length b)).text b }

-- calls with any buffers, the first from s, each next one from the station that the last one answered, until the list is done
pub data Calls (r : Road) : ℕ → List Seen → Type 0 where
  last : {s : ℕ} {c : Seen} (b : List ℕ) → c ≡ after r s b → c.answer.next ≡ None → Calls r s (c ∷ [])
  more : {s t : ℕ} {c : Seen} {cs : List Seen} (b : List ℕ) → c ≡ after r s b → c.answer.next ≡ Some t → Calls r t cs → Calls r s (c ∷ cs)

-- there are such calls: what is seen after each
pub record Called (r : Road) (s : ℕ) : Type 0 where
  pub seen : List Seen
  pub calls : Calls r s seen

-- the bytes that a call wrote
abbrev pub bytes_of : Seen → List ℕ
bytes_of c = take c.answer.bytes c.buffer

pub bytes_are : (r : Road) (s : ℕ) (b : List ℕ) → bytes_of (after r s b) ≡ (chunk r s (length b)).text
unfolding overwrite
bytes_are r s b = take-append_seam (chunk r s (length b)).text (drop (length (chunk r s (length b)).text) b)

-- ---- the station to go on from
pub done-remaining : (l : List ℕ) → onward l ≡ None → l ≡ []
done-remaining [] e = refl
done-remaining (s ∷ l) e = cc

first-remaining : (e t : ℕ) (l : List ℕ) → onward l ≡ Some t → first_or e l ≡ t
first-remaining e t [] q = cc
first-remaining e t (s ∷ l) q = cc

pub first-among : (t : ℕ) (l : List ℕ) → onward l ≡ Some t → Memᴰ t l
first-among t [] q = cc
first-among t (s ∷ l) q = let e : t ≡ s = cc in Memᴰ.head e

module _ {r : Road} (G : Guaranteed r) where
  -- a bound beyond s and all listed stations
  abbrev bound : ℕ → ℕ
  bound s = suc (s + total r)

  pub stops : (s room : ℕ) → Stopped s (bound s) (not_below s (listed r)) (chunk r s room).remaining
  unfolding chunk
  stops s room = fit_stops (line r) (bound s) room (from-ascends s (listed-ascends r)) (omega arith) (λ z m. let h = listed-inside G (from_member s (listed r) m).among in omega arith)

  module _ (s room t : ℕ) (e : onward (chunk r s room).remaining ≡ Some t) where
    pub at-station : first_or (bound s) (chunk r s room).remaining ≡ t
    at-station = first-remaining (bound s) t (chunk r s room).remaining e

    -- with room for a row it is beyond s
    pub onward-beyond : 96 ≤ room → s < t
    unfolding chunk
    onward-beyond h = go (not_below s (listed r)) (from-ascends s (listed-ascends r)) (λ z m. let i = listed-inside G (from_member s (listed r) m).among in omega arith) e
      where
        go : (l : List ℕ) → Ascends s l → ((z : ℕ) → Memᴰ z l → z < bound s) → onward (rows_that_fit (line r) room l).remaining ≡ Some t → s < t
        go [] a below q = absurd (Memᴰ.not-nil (first-among t [] (rw (fit_none (line r) room) at q)))
        go (x ∷ xs) (step b a) below q =
            let p = rows_that_fit (line r) (room - length (line r x)) xs in
            let n : first_or (bound s) p.remaining ≡ t = first-remaining (bound s) t p.remaining (rw (fit_row (line r) room x xs h) at q) in
            omega (arith, n, (fit_stops (line r) (bound s) (room - length (line r x)) a (below x (Memᴰ.head refl)) (λ z m. below z (Memᴰ.tail m))).low)
