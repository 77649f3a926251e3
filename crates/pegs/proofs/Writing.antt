-- What was written so far, and the view that serves the next peg. In one turn a peg's row is written.
use mathlib.Core.Path.{◌≡◌, sym, ap, ◌∙◌, subst}
use mathlib.Core.List.{List}
use Prim.Native.Nat.{ℕ, ◌+◌, ◌*◌, ◌≤◌, ◌<◌}
use native.Mathlib.Omega.{arith}
use native.Mathlib.Numerals.{add-one}
use lib.ListN.{length, take}
use lib.Seq.{take-length}
use Rattle.decimal.specs.Written.{Wrote, wrote_none, wrote-append}
use Rattle.road.specs.File.{Road}
use Rattle.road.specs.Exact.{total}
use Rattle.segment.specs.Segment.{line_in}
use Rattle.segment.proofs.LineLaws.{line-shows}
use Rattle.cursors.specs.Places.{PlaceReached}
use Rattle.cursors.specs.View.{Viewed, viewed-shows, viewed_later}
use Rattle.cursors.specs.declared.View.{View}
use Rattle.peg_list.specs.Pegs.{peg_at, lines}
use Rattle.peg_list.specs.Search.{Good}
use Rattle.peg_list.specs.Rows.{no_lines, one_line}

-- a view that may be moved on to x, and up to its joint is that of x
pub record Serves (r : Road) (v : View) (x : ℕ) : Type 0 where
  pub place : PlaceReached r v.place x
  pub seen : x < v.joint → Viewed r v x

serves_later : {r : Road} {v : View} {x y : ℕ} → Viewed r v x → x ≤ y → Serves r v y
serves_later s l = record { place = s.place _ l; seen = λ h. viewed_later s l h }

-- z became y: the rows of the first i pegs were written up to `bytes`, and the view serves the next one
pub record Writing (r : Road) (pegs z y : List ℕ) (v : View) (bytes i : ℕ) : Type 0 where
  pub within : i ≤ length pegs
  pub wrote : Wrote z y 0 (lines r (take i pegs)) bytes
  pub room : bytes ≤ 96 * i
  pub serves : i < length pegs → Serves r v (peg_at pegs i)

pub writing_starts : {r : Road} {v : View} (pegs z : List ℕ) → Viewed r v 0 → Writing r pegs z z v 0 0
writing_starts {r} pegs z s = record {
  within = omega arith;
  wrote = subst (λ (t : List ℕ). Wrote z z 0 t 0) (sym (no_lines r pegs)) (wrote_none z 0 (omega arith));
  room = omega arith;
  serves = λ h. serves_later s (omega arith);
}

module _ {r : Road} {pegs z y : List ℕ} {v : View} {bytes i : ℕ} (w : Writing r pegs z y v bytes i) (room : 96 * length pegs ≤ length z) where
  written-fits : 0 + length (lines r (take i pegs)) ≤ length z
  written-fits = omega (arith, w.wrote.end, w.room, w.within)

  -- one row more, by a view of its station
  pub writing_more : Good (total r) pegs → i < length pegs → {u : View} → Viewed r u (peg_at pegs i) → {y' : List ℕ} {bytes' : ℕ} → Wrote y y' bytes (line_in u.segment (peg_at pegs i)) bytes' → bytes' ≤ bytes + 96
      → Writing r pegs z y' u bytes' (i + 1)
  writing_more good h {u} s {y'} {bytes'} t most = record {
    within = omega arith;
    wrote =
        subst (λ (x : List ℕ). Wrote z y' 0 x bytes') (sym (one_line r pegs i h))
        (wrote-append w.wrote (subst (λ (x : List ℕ). Wrote y y' bytes x bytes') (line-shows (viewed-shows s (good.within i h))) t) written-fits);
    room = omega (arith, w.room);
    serves = λ l. serves_later s (rw (add-one i) (good.rises i (omega arith)));
  }

-- all rows
pub writing_done : {r : Road} {pegs z y : List ℕ} {v : View} {bytes i : ℕ} → Writing r pegs z y v bytes i → length pegs ≤ i → Wrote z y 0 (lines r pegs) bytes
writing_done {r} {pegs} {z} {y} {bytes = bytes} {i = i} w h =
    let e : i ≡ length pegs = omega (arith, w.within) in
    subst (λ (t : List ℕ). Wrote z y 0 t bytes) (ap (λ (k : ℕ). lines r (take k pegs)) e ∙ ap (lines r) (take-length pegs)) w.wrote
