-- Any list of calls, each of which met its routine's own contract, in the contract's generated reading, is the machine's run; so demand 3 holds of it, and the rest.
use Rattle.std.specs.Prelude.{Option, Result}
use mathlib.Core.Path.{◌≡◌, refl, ◌∙◌, subst}
use mathlib.Core.List.{List, [], ◌∷◌}
use Prim.Native.Nat.{ℕ, ◌≤◌}
use lib.ListN.{length, replicate}
use denote.Ref.{Bor}
use denote.MutBor.{MutBor}
use borrow.Fn.Kinds.{Dens, ended_of}
use denote.Triple.Clauses.{AtExit}
use contract.Lifetimes.{Lfts}
use Rattle.file_numbers.specs.Reading.{got, refused}
use Rattle.road.specs.File.{Road}
use Rattle.road.specs.Rules.{accepted}
use Rattle.road.specs.declared.refusal.Refusal.{Refusal}
use Rattle.road.specs.Machine.{Answer, refusal, of_row, of_next, row_answer, row_buffer, next_answer, Call, row, next, After, step, trace}
use Rattle.road.specs.Demand.{rows_of}
use Rattle.road.specs.Listing.{listing_calls}
use Rattle.stationing.proofs.row.Reads as row-says
use Rattle.stationing.proofs.row.Kinds as row-kinds
use Rattle.stationing.proofs.next_station.Reads as next-says
use Rattle.stationing.proofs.next_station.Kinds as next-kinds
use Rattle.runs.specs.RecordedRows.{BladeSeen}
use Rattle.runs.specs.Listing.{ListingRows}
use Rattle.runs.proofs.RowsBack.{blade-seen}
use Rattle.runs.proofs.Refused.{same-refusal}
use Rattle.runs.proofs.Listing.{listing-seen}
use Rattle.runs.specs.Answered.{row-answer, next-answer}

-- what `stationing::row` ensures, at references to these lists
pub record RowMet (f : List ℕ) (s : ℕ) (b : List ℕ) (r : Result ℕ Refusal) (b' : List ℕ) : Type 0 where
  pub κs : Lfts 2
  pub args : Dens κs row-kinds.ps
  pub ends : AtExit (ended_of 2 row-kinds.ps row-kinds.r) κs
  pub file : args.0.now ≡ f
  pub station : args.1.0 ≡ s
  pub line : args.1.1.0.now ≡ b
  pub final : ends.1.1.0.now ≡ b'
  pub ensures : row-says.Learnt κs args r ends

row_met : {f : List ℕ} {s : ℕ} {b : List ℕ} {r : Result ℕ Refusal} {b' : List ℕ} → RowMet f s b r b' → (of_row r ≡ row_answer f s (length b)) × (b' ≡ row_buffer f s b)
row_met m = (cc, cc)

-- what `stationing::next_station` ensures
pub record NextMet (f : List ℕ) (s : ℕ) (r : Result (Option ℕ) Refusal) : Type 0 where
  pub κs : Lfts 1
  pub args : Dens κs next-kinds.ps
  pub ends : AtExit (ended_of 1 next-kinds.ps next-kinds.r) κs
  pub file : args.0.now ≡ f
  pub station : args.1.0 ≡ s
  pub ensures : next-says.Learnt κs args r ends

next_met : {f : List ℕ} {s : ℕ} {r : Result (Option ℕ) Refusal} → NextMet f s r → of_next r ≡ next_answer f s
next_met m = cc

-- any calls one after the other, each with the buffer as the last one left it, and each as its contract says
pub data Ran (f : List ℕ) : List ℕ → List Call → List After → Type 0 where
  none : {b : List ℕ} → Ran f b [] []
  by_row : {b b' : List ℕ} {s : ℕ} {r : Result ℕ Refusal} {calls : List Call} {ts : List After}
      → RowMet f s b r b' → Ran f b' calls ts → Ran f b (row s ∷ calls) (record { answer = of_row r; buffer = b' } ∷ ts)
  by_next : {b : List ℕ} {s : ℕ} {r : Result (Option ℕ) Refusal} {calls : List Call} {ts : List After}
      → NextMet f s r → Ran f b calls ts → Ran f b (next s ∷ calls) (record { answer = of_next r; buffer = b } ∷ ts)

pub any_run : {f b : List ℕ} {calls : List Call} {ts : List After} → Ran f b calls ts → ts ≡ trace f b calls
unfolding step trace
any_run none = refl
any_run (by_row m rest) = let e = row_met m in rw (any_run rest, e.0, e.1)
any_run (by_next m rest) = rw (any_run rest, next_met m)

-- demand 3
pub any_blade : {f b : List ℕ} {calls : List Call} {ts : List After} → Ran f b calls ts → BladeSeen f calls ts
any_blade {f = f} {b = b} {calls = calls} ran = blade-seen f b calls (any_run ran)

-- a file that is turned away
pub any_refused : {f b : List ℕ} {calls : List Call} {ts : List After} {n p : ℕ} → Ran f b calls ts → accepted f ≡ refused n p
    → ts ≡ replicate (length calls) (record { answer = refusal n p; buffer = b })
any_refused {f = f} {b = b} {calls = calls} ran e = any_run ran ∙ same-refusal f e b calls

-- the listing's run
pub any_listing : {f b : List ℕ} {ts : List After} → Ran f b (listing_calls f) ts → (r : Road) (end : ℕ) → accepted f ≡ got r end → 96 ≤ length b
    → ListingRows r (rows_of (listing_calls f) ts)
any_listing {f = f} {b = b} ran = listing-seen f b (any_run ran)

-- ---- any list of calls on any file and buffer has such a run, with the machine's answers

-- a reference to a list, and one that may change it
reference : List ℕ → Bor (List ℕ)
reference l = record { ref_ptr = (0, 0); now = l }

changing : List ℕ → MutBor (List ℕ)
changing l = record { ref_ptr = (0, 0); ghost_name = 0; now = l }

row_made : (f : List ℕ) (s : ℕ) (b : List ℕ) (r : Result ℕ Refusal) → of_row r ≡ row_answer f s (length b) → RowMet f s b r (row_buffer f s b)
unfolding reference changing
row_made f s b r e = record {
  κs = ([], ([], tt));
  args = (reference f, (s, (changing b, tt)));
  ends = (reference f, (s, (changing (row_buffer f s b), tt)));
  file = refl;
  station = refl;
  line = refl;
  final = refl;
  ensures = (e, refl);
}

next_made : (f : List ℕ) (s : ℕ) (r : Result (Option ℕ) Refusal) → of_next r ≡ next_answer f s → NextMet f s r
unfolding reference
next_made f s r e = record { κs = ([], tt); args = (reference f, (s, tt)); ends = (reference f, (s, tt)); file = refl; station = refl; ensures = e }

pub ran : (f b : List ℕ) (calls : List Call) → Ran f b calls (trace f b calls)
unfolding step trace
ran f b [] = none
ran f b (row s ∷ calls) =
    let b' = row_buffer f s b in
    let a = row-answer f s (length b) in
    subst (λ (x : Answer). Ran f b (row s ∷ calls) (record { answer = x; buffer = b' } ∷ trace f b' calls)) a.1 (by_row (row_made f s b a.0 a.1) (ran f b' calls))
ran f b (next s ∷ calls) =
    let a = next-answer f s in
    subst (λ (x : Answer). Ran f b (next s ∷ calls) (record { answer = x; buffer = b } ∷ trace f b calls)) a.1 (by_next (next_made f s a.0 a.1) (ran f b calls))
