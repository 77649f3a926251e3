-- Each row that is read from a record is a row of the run that the record shows, and so demand 3 holds of any two of them; and each row of the run is read from it.
use Rattle.std.proofs.Common.{◌≡◌, refl, sym, ap, ◌∙◌, subst, ℕ, zero, suc, ◌*◌, ◌⊎◌, inl, inr, length, take, drop, Some, None, Ok, Err, suc-mul, zero-mul, add_comm, drop-drop}
use mathlib.Core.List.Memᴰ
use mathlib.Core.List.{List, [], ◌∷◌, Memᴰ}
use Rattle.road.specs.Machine as machine
use Rattle.road.specs.Machine.{row, next, refusal, wrote, station, no_station, After, trace}
use Rattle.road.specs.Demand.{Row, row_in, rows_of, BladeClose}
use Rattle.laws_of_blade.specs.Demand.{demand_3}
use Rattle.runs.specs.Answers.{answer_of}
use Rattle.runs.specs.Calls.{call_of, calls_of, run_of}
use Rattle.runs.specs.Recorded.{Recorded, seen_in}
use Rattle.runs.specs.RecordedRows.{Close, BladeSeen, IsRow, recorded_row, BladeRecorded}
use Rattle.runs.specs.declared.Call.{Call}
use Rattle.runs.specs.declared.Answer.{Answer}
use Rattle.runs.specs.declared.Call.TheVariants as asked
use Rattle.runs.specs.declared.Answer.TheVariants as answered

-- the rows of later calls are rows of the whole run
row_later : {a : Row} {rows : List Row} (c : machine.Call) (x : machine.Answer) (b : List ℕ) → Memᴰ a rows → Memᴰ a (row_in c x b rows)
row_later (row s) (refusal n p) b m = m
row_later (row s) (wrote n) b m = Memᴰ.tail m
row_later (row s) (station x) b m = m
row_later (row s) no_station b m = m
row_later (next s) x b m = m

-- the row of a later call
row_behind : (size : ℕ) (fs : List ℕ) (i s n : ℕ) → recorded_row size fs (suc i) s n ≡ recorded_row size (drop size fs) i s n
row_behind size fs i s n = rw (suc-mul i size, add_comm (i * size) size, ← drop-drop (i * size) size fs)

module _ (size : ℕ) where
  seen_row : (calls : List Call) (xs : List Answer) (fs : List ℕ) (i s n : ℕ) → IsRow calls xs i s n
      → Memᴰ (recorded_row size fs i s n) (rows_of (calls_of calls) (seen_in size xs fs))
  unfolding rows_of
  seen_row [] xs fs i s n w = let z = w.asked in cc
  seen_row (c ∷ calls) [] fs i s n w = let z = w.given in cc
  seen_row (c ∷ calls) (x ∷ xs) fs zero s n w =
      let c-is : c ≡ asked.Row s = let z = w.asked in cc in
      let x-is : x ≡ answered.Row (Ok n) = let z = w.given in cc in
      rw (c-is, x-is, zero-mul size) (Memᴰ.head refl)
  seen_row (c ∷ calls) (x ∷ xs) fs (suc i) s n w =
      row_later (call_of c) (answer_of x) (take size fs)
      (rw (row_behind size fs i s n) (seen_row calls xs (drop size fs) i s n (record { asked = w.asked; given = w.given })))

-- demand 3, carried to what was recorded
pub blade-recorded : {f b : List ℕ} {calls : List Call} {b' : List ℕ} {xs : List Answer} {fs : List ℕ} → Recorded f b calls b' xs fs → BladeRecorded f (length b) calls xs fs
unfolding BladeRecorded Close BladeClose run_of
blade-recorded {f} {b} {calls} {b'} {xs} {fs} r road end e i s m wi j t n wj =
    let in-run = λ (i s n : ℕ) (w : IsRow calls xs i s n).
    subst (λ (ts : List After). Memᴰ (recorded_row (length b) fs i s n) (rows_of (calls_of calls) ts)) r.seen (seen_row (length b) calls xs fs i s n w)
    in
    demand_3 f b (calls_of calls) road end e (recorded_row (length b) fs i s m) (recorded_row (length b) fs j t n) (in-run i s m wi) (in-run j t n wj)

-- ---- the other way: each row of what was seen is the row of one of the calls

-- row a is that of a row call that was not refused
pub record RowCall (size : ℕ) (calls : List Call) (xs : List Answer) (fs : List ℕ) (a : Row) : Type 0 where
  pub call : ℕ
  pub length : ℕ
  pub is_row : IsRow calls xs call a.station length
  pub row_is : recorded_row size fs call a.station length ≡ a

module _ (size : ℕ) {a : Row} where
  call_later : {calls : List Call} {xs : List Answer} {fs : List ℕ} (c : Call) (x : Answer) → RowCall size calls xs (drop size fs) a → RowCall size (c ∷ calls) (x ∷ xs) fs a
  call_later {fs = fs} c x w = record {
    call = suc w.call;
    length = w.length;
    is_row = record { asked = w.is_row.asked; given = w.is_row.given };
    row_is = row_behind size fs w.call a.station w.length ∙ w.row_is;
  }

  call-here : (calls : List Call) (xs : List Answer) (fs : List ℕ) (s n : ℕ) → a ≡ record { station = s; bytes = take n (take size fs) }
      → RowCall size (asked.Row s ∷ calls) (answered.Row (Ok n) ∷ xs) fs a
  call-here calls xs fs s n e = record {
    call = 0;
    length = n;
    is_row = record { asked = ap (λ (r : Row). Some (asked.Row r.station)) (sym e); given = refl };
    row_is = rw (zero-mul size, e);
  }

  pub row-call : (calls : List Call) (xs : List Answer) (fs : List ℕ) → Memᴰ a (rows_of (calls_of calls) (seen_in size xs fs)) → RowCall size calls xs fs a
  unfolding rows_of
  row-call [] xs fs m = absurd (Memᴰ.not-nil m)
  row-call (c ∷ calls) [] fs m = absurd (Memᴰ.not-nil m)
  row-call (asked.Next s ∷ calls) (x ∷ xs) fs m = call_later (asked.Next s) x (row-call calls xs (drop size fs) m)
  row-call (asked.Row s ∷ calls) (answered.Row (Ok n) ∷ xs) fs m = go (Memᴰ.cases_cons m) (λ l. row-call calls xs (drop size fs) l)
    where
      rest : List Row
      rest = rows_of (calls_of calls) (seen_in size xs (drop size fs))

      go : (a ≡ record { station = s; bytes = take n (take size fs) }) ⊎ Memᴰ a rest → (Memᴰ a rest → RowCall size calls xs (drop size fs) a)
          → RowCall size (asked.Row s ∷ calls) (answered.Row (Ok n) ∷ xs) fs a
      go (inl e) ih = call-here calls xs fs s n e
      go (inr l) ih = call_later (asked.Row s) (answered.Row (Ok n)) (ih l)
  row-call (asked.Row s ∷ calls) (answered.Row (Err e) ∷ xs) fs m = call_later (asked.Row s) (answered.Row (Err e)) (row-call calls xs (drop size fs) m)
  row-call (asked.Row s ∷ calls) (answered.Next (Err e) ∷ xs) fs m = call_later (asked.Row s) (answered.Next (Err e)) (row-call calls xs (drop size fs) m)
  row-call (asked.Row s ∷ calls) (answered.Next (Ok (Some x)) ∷ xs) fs m = call_later (asked.Row s) (answered.Next (Ok (Some x))) (row-call calls xs (drop size fs) m)
  row-call (asked.Row s ∷ calls) (answered.Next (Ok None) ∷ xs) fs m = call_later (asked.Row s) (answered.Next (Ok None)) (row-call calls xs (drop size fs) m)

-- demand 3 of what was seen, where that is the machine's run
pub blade-seen : (f b : List ℕ) (calls : List machine.Call) {ts : List After} → ts ≡ trace f b calls → BladeSeen f calls ts
unfolding BladeSeen Close BladeClose
blade-seen f b calls e = rw e (demand_3 f b calls)
