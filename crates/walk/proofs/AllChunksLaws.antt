-- A whole list in chunks: put together, they are the rows of the listing's run; and there are such calls.
use Rattle.std.specs.Prelude.{◌≡◌, refl, ℕ, zero, suc, ◌+◌, ◌≤◌, ◌<◌, Some}
use Rattle.std.proofs.Math.Path.{sym, ap, ap₂}
use Rattle.std.proofs.Common.{◌∙◌, subst, arith}
use mathlib.Core.List.{List, [], ◌∷◌, ◌++◌, Memᴰ}
use Rattle.std.proofs.Math.ListN.{length}
use Rattle.file_numbers.specs.Reading.{got}
use Rattle.road.specs.Base.{joined}
use Rattle.road.specs.File.{Road}
use Rattle.road.specs.Exact.{total}
use Rattle.road.specs.Listed.{listed}
use Rattle.road.specs.Rules.{accepted}
use Rattle.road.specs.Line.{line}
use Rattle.road.specs.Demand.{Row}
use Rattle.road.specs.Listing.{listing_rows, output, listing, list_by, list_of}
use Rattle.laws_of_acceptance.specs.Guaranteed.{Guaranteed, guaranteed}
use Rattle.laws_of_stations.specs.ListingRun.{listing-is}
use Rattle.walk.specs.FittingRows.{not_below, chunk, onward}
use Rattle.walk.specs.NotBelow.{from_member, from_all, from-from}
use Rattle.walk.specs.Parts.{fit_whole}
use Rattle.walk.specs.Inside.{listed-inside}
use Rattle.walk.specs.AllChunks.{Called, Calls, last, more, Seen, after, at-station, bytes_are, bytes_of, done-remaining, first-among, onward-beyond, stops}

module _ {r : Road} (G : Guaranteed r) where
  module _ (s room t : ℕ) (e : onward (chunk r s room).remaining ≡ Some t) where
    -- the stations left are those from it on
    pub remaining-from : (chunk r s room).remaining ≡ not_below t (listed r)
    remaining-from =
        let n = at-station G s room t e in
        (stops G s room).rest ∙ ap (λ (x : ℕ). not_below x (not_below s (listed r))) n ∙ from-from s t (listed r) (omega (arith, (stops G s room).low))

    -- it is listed
    pub onward-listed : Memᴰ t (listed r)
    onward-listed = (from_member t (listed r) (subst (Memᴰ t) remaining-from (first-among t (chunk r s room).remaining e))).among

  -- ---- with 96 bytes or more for each call there are such calls: each goes on beyond its own station, up to T
  module _ (b : List ℕ) (room : 96 ≤ length b) where
    one-call : (s : ℕ) → ((t : ℕ) → s < t → t ≤ total r → Called r t) → Called r s
    one-call s onwards = go (chunk r s (length b)).remaining refl
      where
        go : (l : List ℕ) → (chunk r s (length b)).remaining ≡ l → Called r s
        go [] e = record { seen = after r s b ∷ []; calls = last b refl (ap onward e) }
        go (t ∷ l) e =
            let q : onward (chunk r s (length b)).remaining ≡ Some t = ap onward e in
            let w = onwards t (onward-beyond G s (length b) t q room) (listed-inside G (onward-listed s (length b) t q)) in
            record { seen = after r s b ∷ w.seen; calls = more b refl q w.calls }

    calls-within : (n s : ℕ) → total r < s + n → Called r s
    calls-within zero s h = one-call s (λ t k l. absurd (omega arith))
    calls-within (suc n) s h = one-call s (λ t k l. calls-within n t (omega arith))

    pub calls_made : (s : ℕ) → Called r s
    calls_made s = calls-within (suc (total r)) s (omega arith)

  -- ---- the chunks put together
  pub calls-lines : {s : ℕ} {cs : List Seen} → Calls r s cs → joined bytes_of cs ≡ joined (line r) (not_below s (listed r))
  unfolding joined chunk
  calls-lines {s} (last {c = c} b e d) =
      let room = length b in
      let l = not_below s (listed r) in
      let n : (chunk r s room).remaining ≡ [] = done-remaining (chunk r s room).remaining (ap (λ (c : Seen). c.answer.next) (sym e) ∙ d) in
      ap (λ (t : List ℕ). t ++ []) (ap bytes_of e ∙ bytes_are r s b)
      ∙ ap (λ (m : List ℕ). (chunk r s room).text ++ joined (line r) m) (sym n)
      ∙ sym (fit_whole (line r) room l)
  calls-lines {s} (more {t = t} {c = c} {cs = cs} b e d k) =
      let room = length b in
      let l = not_below s (listed r) in
      let n : (chunk r s room).remaining ≡ not_below t (listed r) = remaining-from s room t (ap (λ (c : Seen). c.answer.next) (sym e) ∙ d) in
      ap₂ (λ (t u : List ℕ). t ++ u) (ap bytes_of e ∙ bytes_are r s b) (calls-lines k)
      ∙ ap (λ (m : List ℕ). (chunk r s room).text ++ joined (line r) m) (sym n)
      ∙ sym (fit_whole (line r) room l)

  -- from 0 on: the lines of all listed stations
  pub whole_list : {cs : List Seen} → Calls r 0 cs → joined bytes_of cs ≡ joined (line r) (listed r)
  whole_list k = calls-lines k ∙ ap (joined (line r)) (from_all 0 (listed r) (λ z m. omega arith))

-- "the run's rows, unchanged and in order": what chunks of an accepted file say together is what the listing program's run says
pub whole-listing : (f b : List ℕ) (r : Road) (end : ℕ) → accepted f ≡ got r end → 96 ≤ length b → {cs : List Seen} → Calls r 0 cs → joined bytes_of cs ≡ joined (λ (a : Row). a.bytes) (listing_rows f b)
unfolding listing list_of
whole-listing f b r end e h k =
    whole_list (guaranteed f r end e) k
    ∙ ap list_by (sym e)
    ∙ sym (listing-is f b h)
    ∙ ap (output f b) e
