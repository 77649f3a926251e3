-- The rows of a run: each is the exact road's line at its station, and its station is not beyond T.
use Rattle.std.specs.Prelude.{◌≡◌, refl, ℕ, ◌≤◌, ◌⊎◌, Bool, not, length, if◌then◌else◌}
use Rattle.std.proofs.Common.{sym, subst, inl, inr}
use Rattle.std.proofs.Math.Bool.{true, false}
use mathlib.Core.List.Memᴰ
use mathlib.Core.List.{List, [], ◌∷◌, Memᴰ}
use Rattle.std.proofs.Math.ListN.{take}
use Rattle.std.proofs.Math.ListN as L
use Rattle.std.proofs.Math.Seq.{take-append_seam}
use Rattle.std.proofs.Math.Dec.{T, ltb, nltb→le}
use Rattle.file_numbers.specs.Reading.{Got, got}
use Rattle.road.specs.File.{Road}
use Rattle.road.specs.Exact.{total}
use Rattle.road.specs.Rules.{accepted}
use Rattle.road.specs.Line.{line}
use Rattle.road.specs.Machine.{Call, row, next, refusal, wrote, row_on, buffer_on, row_answer, row_buffer, overwrite, step, trace}
use Rattle.road.specs.Demand.{Row, row_in, rows_of}

pub record RowOf (r : Road) (a : Row) : Type 0 where
  pub within : a.station ≤ total r
  pub bytes : a.bytes ≡ line r a.station

module _ (r : Road) (end : ℕ) where
  -- a row call: nothing, or the line
  one : (s : ℕ) (b : List ℕ) (rows : List Row) (a : Row) → (Memᴰ a rows → RowOf r a)
      → Memᴰ a (row_in (row s) (row_on s (length b) (got r end)) (buffer_on s b (got r end)) rows) → RowOf r a
  unfolding overwrite
  one s b rows a k m = short (ltb (length b) 96) m
    where
      found : (c : Bool) → ltb (total r) s ≡ c → Memᴰ a (row_in (row s) (if c then refusal 21 0 else wrote (length (line r s))) (if c then b else overwrite (line r s) b) rows) → RowOf r a
      found true e m = k m
      found false e m = pick (Memᴰ.cases_cons m)
        where
          here : RowOf r (record { station = s; bytes = take (length (line r s)) (overwrite (line r s) b) })
          here = record { within = nltb→le (total r) s (subst (λ (c : Bool). T (not c)) (sym e) tt); bytes = take-append_seam (line r s) (L.drop (length (line r s)) b) }

          pick : (a ≡ record { station = s; bytes = take (length (line r s)) (overwrite (line r s) b) }) ⊎ Memᴰ a rows → RowOf r a
          pick (inl q) = subst (RowOf r) (sym q) here
          pick (inr m) = k m

      short : (c : Bool) → Memᴰ a (row_in (row s) (if c then refusal 20 0 else (if ltb (total r) s then refusal 21 0 else wrote (length (line r s)))) (if c then b else (if ltb (total r) s then b else overwrite (line r s) b)) rows) → RowOf r a
      short true m = k m
      short false m = found (ltb (total r) s) refl m

-- each row of a run on an accepted file
pub row_of : (f : List ℕ) (r : Road) (end : ℕ) → accepted f ≡ got r end → (b : List ℕ) (calls : List Call) (a : Row) → Memᴰ a (rows_of calls (trace f b calls)) → RowOf r a
unfolding rows_of trace step row_answer row_buffer
row_of f r end e b [] a m = absurd (Memᴰ.not-nil m)
row_of f r end e b (row s ∷ calls) a m =
    one r end s b (rows_of calls (trace f (buffer_on s b (accepted f)) calls)) a (λ m. row_of f r end e (buffer_on s b (accepted f)) calls a m)
    (subst (λ (g : Got Road). Memᴰ a (row_in (row s) (row_on s (length b) g) (buffer_on s b g) (rows_of calls (trace f (buffer_on s b (accepted f)) calls)))) e m)
row_of f r end e b (next s ∷ calls) a m = row_of f r end e b calls a m
