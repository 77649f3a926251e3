-- The listing program's run: its rows are the lines of the listed stations, in order.
use Rattle.std.specs.Prelude.{◌≡◌, length, take, None}
use Rattle.std.proofs.Math.Path.{refl, sym, ap, ap₂}
use Rattle.std.proofs.Common.{◌∙◌, arith, length-append, length-drop}
use mathlib.Core.List.{List, [], ◌∷◌, ◌++◌, map, append_assoc}
use Prim.Native.Nat.{ℕ, zero, suc, ◌+◌, ◌≤◌, ◌<◌}
use borrow.Author.Tests.{le-ltb}
use Rattle.std.proofs.Math.ListN as L
use Rattle.std.proofs.Math.Seq.{take-append_seam}
use Rattle.file_numbers.specs.Reading.{Got, got}
use Rattle.road.specs.File.{Road}
use Rattle.road.specs.Exact.{total}
use Rattle.road.specs.Listed.{stations, listed, least_from, next_listed}
use Rattle.road.specs.Rules.{accepted}
use Rattle.road.specs.Line.{line}
use Rattle.laws_of_search.specs.Searches.{least-ascending}
use Rattle.road.specs.Machine.{Call, row, next, Answer, wrote, station, no_station, row_on, buffer_on, row_answer, row_buffer, overwrite, next_on, station_or, next_answer, step, trace}
use Rattle.road.specs.Demand.{Row, row_in, rows_of}
use Rattle.road.specs.Listing.{calls_from, listing_calls, rows_at_most, listing_rows}
use Rattle.laws_of_lists.specs.All.{All, all_append}
use Rattle.laws_of_lists.specs.All as all
use Rattle.laws_of_search.specs.Ascends.{Ascends, empty, ascending-ascends, ascending-all, least_skip, least-next}
use Rattle.laws_of_search.specs.Ascends as A

-- the row of a station
abbrev pub row_at : Road → ℕ → Row
row_at r s = record { station = s; bytes = line r s }

all_raise : {s t : ℕ} {l : List ℕ} → s ≤ t → All (λ y. y < s) l → All (λ y. y < t) l
all_raise h all.none = all.none
all_raise {l = y ∷ l} h (all.more p a) = all.more {a = y} (omega arith) (all_raise h a)

-- a line over a buffer leaves it no shorter
pub overwrite-room : (l b : List ℕ) → length b ≤ length (overwrite l b)
unfolding overwrite
overwrite-room l b = omega (arith, length-append l (L.drop (length l) b), length-drop (length l) b)

overwrite-take : (l b : List ℕ) → take (length l) (overwrite l b) ≡ l
unfolding overwrite
overwrite-take l b = take-append_seam l (L.drop (length l) b)

module _ (f : List ℕ) (r : Road) (end : ℕ) (e : accepted f ≡ got r end) where
  row-answer : (z : ℕ) (b : List ℕ) → z ≤ total r → 96 ≤ length b → row_answer f z (length b) ≡ wrote (length (line r z))
  unfolding row_answer
  row-answer z b l h = ap (row_on z (length b)) e ∙ rw (le-ltb (length b) 96 h, le-ltb (total r) z l)

  row-buffer : (z : ℕ) (b : List ℕ) → z ≤ total r → 96 ≤ length b → row_buffer f z b ≡ overwrite (line r z) b
  unfolding row_buffer
  row-buffer z b l h = ap (buffer_on z b) e ∙ rw (le-ltb (length b) 96 h, le-ltb (total r) z l)

  next-answer : (s : ℕ) (ys zs : List ℕ) → listed r ≡ ys ++ zs → All (λ y. y < s) ys → next_answer f s ≡ station_or (least_from s zs)
  unfolding next_answer next_listed listed
  next-answer s ys zs q a = ap (next_on s) e ∙ ap station_or (sym (least-ascending s (stations r)) ∙ ap (least_from s) q ∙ least_skip s zs a)

  -- the calls while there is a station, and where there is none
  calls-more : (n s z : ℕ) → next_answer f s ≡ station z → calls_from (suc n) f s ≡ next s ∷ row z ∷ calls_from n f (suc z)
  unfolding calls_from
  calls-more n s z h = rw (h, calls_from)

  calls-end : (n s : ℕ) → next_answer f s ≡ no_station → calls_from n f s ≡ next s ∷ []
  unfolding calls_from
  calls-end zero s h = refl
  calls-end (suc n) s h = rw (h, calls_from)

  -- a row call that is not refused, before any other calls
  pub row_first : (z : ℕ) (b : List ℕ) (calls : List Call) → z ≤ total r → 96 ≤ length b
      → rows_of (row z ∷ calls) (trace f b (row z ∷ calls)) ≡ row_at r z ∷ rows_of calls (trace f (overwrite (line r z) b) calls)
  unfolding rows_of trace step
  row_first z b calls l h =
      ap₂ (λ (x : Answer) (c : List ℕ). row_in (row z) x c (rows_of calls (trace f c calls))) (row-answer z b l h) (row-buffer z b l h)
      ∙ ap (λ (t : List ℕ). record { station = z; bytes = t } ∷ rows_of calls (trace f (overwrite (line r z) b) calls)) (overwrite-take (line r z) b)

  rows : List ℕ → List Call → List Row
  rows b calls = rows_of calls (trace f b calls)

  rows_more : (s z : ℕ) (b : List ℕ) (calls : List Call) → z ≤ total r → 96 ≤ length b → rows b (next s ∷ row z ∷ calls) ≡ row_at r z ∷ rows (overwrite (line r z) b) calls
  unfolding rows rows_of trace step
  rows_more s z b calls l h = row_first z b calls l h

  none_left : (s : ℕ) → least_from s [] ≡ None
  unfolding least_from
  none_left s = refl

  visits : (n s : ℕ) (ys zs : List ℕ) (b : List ℕ) → listed r ≡ ys ++ zs → All (λ y. y < s) ys → Ascends s zs → All (λ z. z ≤ total r) zs → suc (total r) ≤ n + s → 96 ≤ length b
      → rows b (calls_from n f s) ≡ map (row_at r) zs
  unfolding rows rows_of trace step
  visits n s ys [] b q below empty within h room = ap (rows b) (calls-end n s (next-answer s ys [] q below ∙ ap station_or (none_left s)))
  visits zero s ys (z ∷ zs) b q below (A.step l a) (all.more w v) h room = absurd (omega arith)
  visits (suc n) s ys (z ∷ zs) b q below (A.step l a) (all.more w v) h room =
      ap (rows b) (calls-more n s z (next-answer s ys (z ∷ zs) q below ∙ ap station_or (least-next s z zs l a)))
      ∙ rows_more s z b (calls_from n f (suc z)) w room
      ∙ ap (λ (x : List Row). row_at r z ∷ x)
      (visits n (suc z) (ys ++ (z ∷ [])) zs (overwrite (line r z) b) (q ∙ sym (append_assoc ys (z ∷ []) zs)) (all_append (all_raise (omega arith) below) (all.more {a = z} (omega arith) all.none)) a v (omega arith) (omega (arith, overwrite-room (line r z) b)))

  -- where no listed station is beyond T
  pub listing-rows : All (λ z. z ≤ total r) (stations r) → (b : List ℕ) → 96 ≤ length b → listing_rows f b ≡ map (row_at r) (listed r)
  unfolding listing_rows listing_calls rows listed
  listing-rows within b room =
      ap (λ (g : Got Road). rows b (calls_from (rows_at_most g) f 0)) e
      ∙ visits (suc (total r)) 0 [] (listed r) b refl all.none (ascending-ascends (stations r)) (ascending-all within) (omega arith) room
