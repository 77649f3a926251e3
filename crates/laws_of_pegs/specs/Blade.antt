-- Demand 3 of the rows of pegs: they are the rows of the run of single calls, so between any two neighbouring ones the blade is as close as between rows of any run.
use Rattle.std.specs.Prelude.{◌≡◌, refl, ℕ, suc, ◌≤◌, ◌<◌, length, replicate}
use Rattle.std.proofs.Common.{sym, ap, ◌∙◌, subst, arith}
use mathlib.Core.List.Memᴰ
use mathlib.Core.List.{List, [], ◌∷◌, map, Memᴰ}
use Rattle.file_numbers.specs.Reading.{got}
use Rattle.integers.specs.Fraction.{◌-ᶠ◌, size, ◌≤ᶠ◌}
use Rattle.decimal.specs.Decimal.{number_in}
use Rattle.road.specs.File.{Road}
use Rattle.road.specs.Exact.{Side, total, edge}
use Rattle.road.specs.Line.{line}
use Rattle.road.specs.Rules.{accepted}
use Rattle.road.specs.Machine.{Call, row, wrote, overwrite, trace}
use Rattle.road.specs.Blade.{Neighbouring, blade, bound}
use Rattle.road.specs.Demand.{Row, rows_of, edge_number, BladeClose}
use Rattle.laws_of_search.specs.Members.{item_has}
use Rattle.laws_of_stations.specs.Visits.{row_at, overwrite-room, row_first}
use Rattle.laws_of_blade.specs.Demand.{demand_3}
use Rattle.peg_list.specs.Pegs.{peg_at, pegs_answer}
use Rattle.laws_of_pegs.specs.Text.{line_of}
use Rattle.laws_of_pegs.specs.SingleCalls.{answered, single-is, text, peg_line}

-- the run of single calls
abbrev pub single_calls : (pegs : List ℕ) → List Call
single_calls pegs = map row pegs

-- its rows, on a file that is not turned away and in a buffer of 96 bytes or more: one for each peg, in order
pub run-rows : (f : List ℕ) (r : Road) (end : ℕ) → accepted f ≡ got r end → (pegs b : List ℕ) → 96 ≤ length b → ((i : ℕ) → i < length pegs → peg_at pegs i ≤ total r)
    → rows_of (single_calls pegs) (trace f b (single_calls pegs)) ≡ map (row_at r) pegs
unfolding rows_of
run-rows f r end e [] b room h = refl
run-rows f r end e (s ∷ pegs) b room h =
    row_first f r end e s b (single_calls pegs) (h 0 (omega arith)) room
    ∙ ap (λ (l : List Row). row_at r s ∷ l) (run-rows f r end e pegs (overwrite (line r s) b) (omega (arith, overwrite-room (line r s) b)) (λ i l. h (suc i) (omega arith)))

module _ (f pegs b : List ℕ) (n : ℕ) (e : pegs_answer f pegs (length b) ≡ wrote n) (r : Road) (end : ℕ) (was : accepted f ≡ got r end) where
  within : (i : ℕ) → i < length pegs → peg_at pegs i ≤ total r
  within = let a = answered f pegs b n e in let q : a.road ≡ r = cc in subst (λ (r : Road). (i : ℕ) → i < length pegs → peg_at pegs i ≤ total r) q a.pegs_good.within

  row_read : (i : ℕ) → i < length pegs → line_of i (text f pegs b n e) ≡ line r (peg_at pegs i)
  row_read i h = peg_line f pegs b n e i h (replicate 96 0) (omega arith) ∙ single-is f r end was (replicate 96 0) (omega arith) (peg_at pegs i) (within i h)

  among : (i : ℕ) → i < length pegs → Memᴰ (row_at r (peg_at pegs i)) (rows_of (single_calls pegs) (trace f (replicate 96 0) (single_calls pegs)))
  among i h = subst (Memᴰ (row_at r (peg_at pegs i))) (sym (run-rows f r end was pegs (replicate 96 0) (omega arith) within)) (Memᴰ.map (row_at r) (item_has 0 pegs i h))

  -- between the rows of any two pegs whose stations have no listed station strictly between them, read from what was written
  pub pegs-blade : (i j : ℕ) → i < length pegs → j < length pegs → Neighbouring r (peg_at pegs i) (peg_at pegs j)
      → (d : Side) (x : ℕ) → peg_at pegs i ≤ x → x ≤ peg_at pegs j
      → size (blade (number_in (edge_number d) (line_of i (text f pegs b n e))) (number_in (edge_number d) (line_of j (text f pegs b n e))) (peg_at pegs i) (peg_at pegs j) x -ᶠ edge d r x) ≤ᶠ bound r (peg_at pegs i) (peg_at pegs j)
  unfolding BladeClose
  pegs-blade i j hi hj near d x low high =
      rw (row_read i hi, row_read j hj)
      (demand_3 f (replicate 96 0) (single_calls pegs) r end was (row_at r (peg_at pegs i)) (row_at r (peg_at pegs j)) (among i hi) (among j hj) near d x low high)
