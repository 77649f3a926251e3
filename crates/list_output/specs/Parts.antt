-- A road's list in parts: the lines from a station on, and what an output holds of them.
use Rattle.std.specs.Prelude.{◌≡◌, refl, ℕ, ◌≤◌, ◌<◌, List, [], ◌++◌, length, take, drop, Option, None, Some}
use Rattle.std.proofs.Common.{sym, ap, ap₂, ◌∙◌, subst, append_assoc, append-nil, take-append-drop, arith, length-append}
use Rattle.std.proofs.Math.Seq.{take-append_seam}
use Rattle.std.proofs.KnownBytes.{Appends-nil, Appends-trans}
use Rattle.std.specs.Io.KnownBytes.{Appends}
use Rattle.road.specs.Base.{joined}
use Rattle.road.specs.File.{Road}
use Rattle.road.specs.Line.{line}
use Rattle.road.specs.Listed.{listed}
use Rattle.road.specs.Listing.{refusal_line, list_by, list_of}
use Rattle.road.specs.Machine.{overwrite}
use Rattle.road.specs.Rules.{accepted}
use Rattle.road.specs.Faults.{value, refusal, of_got}
use Rattle.road.specs.Said.{said-value, said-refusal}
use Rattle.laws_of_acceptance.specs.Guaranteed.{Guaranteed, guaranteed}
use Rattle.walk.specs.FittingRows.{not_below, chunk, onward, answer}
use Rattle.walk.specs.NotBelow.{from_all}
use Rattle.walk.specs.Parts.{fit_whole}
use Rattle.walk.specs.Inside.{chunk-fits}
use Rattle.walk.specs.AllChunks.{done-remaining}
use Rattle.walk.proofs.AllChunksLaws.{remaining-from}
use Rattle.walk.proofs.ToCome.{to_come, nearer}
use Rattle.walk.specs.declared.Chunk.{Chunk}

-- the lines of the listed stations from a station on; none where the list is done
abbrev pub lines_from : Road → Option ℕ → List ℕ
lines_from r (Some s) = joined (line r) (not_below s (listed r))
lines_from r None = []

-- an output grew by what stands in a list before its rest
pub record Until (list rest : List ℕ) (old new : Option (List ℕ)) : Type 0 where
  pub front : List ℕ
  pub split : list ≡ front ++ rest
  pub grown : Appends old new front

-- an output grew by a list's beginning
abbrev pub Begins : (list : List ℕ) (old new : Option (List ℕ)) → Type 0
Begins list old new = (front rest : List ℕ) × (list ≡ front ++ rest) × Appends old new front

-- ---- a part
-- bytes at the start of a buffer that are the lines from a station on, up to where the list goes on
pub record PartOf (r : Road) (s : ℕ) (buffer : List ℕ) (c : Chunk) : Type 0 where
  pub fits : c.bytes ≤ length buffer
  pub whole : lines_from r (Some s) ≡ take c.bytes buffer ++ lines_from r c.next
  pub less : to_come c.next < to_come (Some s)

module _ {r : Road} (G : Guaranteed r) (s room : ℕ) where
  -- the lines of the stations that remain are those from where the list goes on
  follows : (o : Option ℕ) → onward (chunk r s room).remaining ≡ o → joined (line r) (chunk r s room).remaining ≡ lines_from r o
  unfolding joined
  follows (Some t) e = ap (joined (line r)) (remaining-from G s room t e)
  follows None e = ap (joined (line r)) (done-remaining (chunk r s room).remaining e)

  lines-split : lines_from r (Some s) ≡ (chunk r s room).text ++ joined (line r) (chunk r s room).remaining
  unfolding chunk
  lines-split = fit_whole (line r) room (not_below s (listed r))

-- what a walk from a station leaves in a buffer with room for a row
pub part_at : {r : Road} (G : Guaranteed r) (s : ℕ) (b : List ℕ) {filled : List ℕ} {c : Chunk} → 96 ≤ length b
    → c ≡ answer (chunk r s (length b)) → filled ≡ overwrite (chunk r s (length b)).text b → PartOf r s filled c
unfolding overwrite
part_at {r} G s b room e l =
    let here = chunk r s (length b) in
    let n = chunk-fits G s (length b) in
    rw (e, l)
    (record {
      fits = omega (arith, length-append here.text (drop (length here.text) b));
      whole = lines-split G s (length b) ∙ ap₂ (λ (x y : List ℕ). x ++ y) (sym (take-append_seam here.text (drop (length here.text) b))) (follows G s (length b) (onward here.remaining) refl);
      less = nearer G s (length b) room;
    })

-- ---- what was written
-- nothing yet
pub begun : (list : List ℕ) (known : Option (List ℕ)) → Until list list known known
begun list known = record { front = []; split = refl; grown = Appends-nil known }

-- all of a part
pub written_on : {list rest later : List ℕ} {a b c : Option (List ℕ)} (part : List ℕ) → Until list rest a b → rest ≡ part ++ later → Appends b c part → Until list later a c
written_on {later = later} {a} {b} {c} part u e w = record {
  front = u.front ++ part;
  split = u.split ∙ ap (λ l. u.front ++ l) e ∙ sym (append_assoc u.front part later);
  grown = Appends-trans a b c u.front part u.grown w;
}

-- a beginning of a part
pub broken_off : {list rest : List ℕ} {a b : Option (List ℕ)} (part later : List ℕ) (c : Option (List ℕ)) (n : ℕ) → Until list rest a b → rest ≡ part ++ later → Appends b c (take n part) → Begins list a c
broken_off {a = a} {b} part later c n u e w =
    let whole = ap (λ l. l ++ later) (sym (take-append-drop n part)) ∙ append_assoc (take n part) (drop n part) later in (
      u.front ++ take n part,
      drop n part ++ later,
      u.split ∙ ap (λ l. u.front ++ l) (e ∙ whole) ∙ sym (append_assoc u.front (take n part) (drop n part ++ later)),
      Appends-trans a b c u.front (take n part) u.grown w,
    )

-- the whole list
pub all_written : {list : List ℕ} {a b : Option (List ℕ)} → Until list [] a b → Appends a b list
all_written {a = a} {b} u = subst (Appends a b) (sym (u.split ∙ append-nil u.front)) u.grown

pub all-begins : (list : List ℕ) (a b : Option (List ℕ)) → Appends a b list → Begins list a b
all-begins list a b w = (list, [], sym (append-nil list), w)

-- ---- a file
-- the list of an accepted one
pub accepted_lines : (f : List ℕ) {r : Road} → value r ≡ of_got (accepted f) → lines_from r (Some 0) ≡ list_of f
unfolding list_of
accepted_lines f {r} e =
    sym (ap list_by (said-value (accepted f) e).was ∙ ap (joined (line r)) (sym (from_all 0 (listed r) (λ z m. omega arith))))

pub accepted_guaranteed : (f : List ℕ) {r : Road} → value r ≡ of_got (accepted f) → Guaranteed r
accepted_guaranteed f {r} e = let w = said-value (accepted f) e in guaranteed f r w.end w.was

-- and that of one that is turned away
pub refused_line : (f : List ℕ) {n p : ℕ} → refusal n p ≡ of_got (accepted f) → refusal_line n p ≡ list_of f
unfolding list_of
refused_line f e = sym (ap list_by (said-refusal (accepted f) e))
