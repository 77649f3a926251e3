-- What was written so far, and the rows that remain. In one turn of the walk a row is written, and its station is passed.
use Rattle.std.proofs.Common.{◌≡◌, refl, sym, ap, ap₂, ◌∙◌, subst, List, [], ◌∷◌, ◌++◌, ℕ, ◌+◌, ◌-◌, ◌≤◌, ◌<◌, length, drop, arith, None, Some}
use mathlib.Core.List.{append-nil}
use native.Mathlib.Nat.{sub-zero}
use Rattle.decimal.specs.Written.{Wrote, written, wrote_none, wrote-append, wrote-length}
use Rattle.road.specs.File.{Road}
use Rattle.road.specs.Exact.{total}
use Rattle.road.specs.Listed.{listed}
use Rattle.road.specs.Line.{line}
use Rattle.road.specs.Machine.{overwrite}
use Rattle.laws_of_acceptance.specs.Guaranteed.{Guaranteed}
use Rattle.segment.specs.Segment.{line_in}
use Rattle.segment.proofs.LineLaws.{line-shows}
use Rattle.walk.specs.FittingRows.{not_below, Part, before, nothing, rows_that_fit, chunk, onward, answer}
use Rattle.walk.specs.Parts.{before-before, fit_none, fit_row, fit_full}
use Rattle.walk.specs.Inside.{chunk-is, none-listed}
use Rattle.walk.specs.Walks.{Stands, Entered, moved, shown_here, passed}
use Rattle.walk.specs.declared.Chunk.{Chunk}
use Rattle.walk.specs.declared.Walk.{Walk}

-- z became y: `done` was written up to `end`; the part p is that, and then q
pub record Going (p : Part) (z y : List ℕ) (end : ℕ) (q : Part) : Type 0 where
  pub done : List ℕ
  pub wrote : Wrote z y 0 done end
  pub whole : p ≡ before done q
  pub room : end ≤ length z

pub going-starts : (p : Part) (z : List ℕ) → Going p z z 0 p
going-starts p z = record { done = []; wrote = wrote_none z 0 (omega arith); whole = refl; room = omega arith }

module _ {p : Part} {z y : List ℕ} {end : ℕ} {q : Part} (g : Going p z y end q) where
  done-fits : 0 + length g.done ≤ length z
  done-fits = omega (arith, g.wrote.end, g.room)

  pub going-length : length y ≡ length z
  going-length = wrote-length g.wrote done-fits

  -- some bytes more
  going_on : {y' : List ℕ} {end' : ℕ} {t : List ℕ} {q' : Part} → Wrote y y' end t end' → q ≡ before t q' → end' ≤ length z → Going p z y' end' q'
  going_on {t = t} {q' = q'} w e r = record {
    done = g.done ++ t;
    wrote = wrote-append g.wrote w done-fits;
    whole = g.whole ∙ ap (before g.done) e ∙ before-before g.done t q';
    room = r;
  }

  -- one row more, where at least 96 bytes remain
  pub going-row : (line : ℕ → List ℕ) (s : ℕ) (ss : List ℕ) {y' : List ℕ} {end' : ℕ}
      → q ≡ rows_that_fit line (length z - end) (s ∷ ss) → 96 ≤ length z - end → Wrote y y' end (line s) end' → end' ≤ end + 96 → Going p z y' end' (rows_that_fit line (length z - end') ss)
  going-row line s ss {y'} {end'} e h w b =
      let k : length z - end - length (line s) ≡ length z - end' = omega (arith, w.end) in
      going_on w (e ∙ fit_row line (length z - end) s ss h ∙ ap (λ (n : ℕ). before (line s) (rows_that_fit line n ss)) k) (omega arith)

  -- no row more: that is what a chunk answers
  pub going_answers : {stations : List ℕ} → q ≡ nothing stations → (◌≡◌ {A = Chunk} (record { bytes = end; next = onward stations }) (answer p)) × (y ≡ overwrite p.text z)
  unfolding written overwrite
  going_answers {stations} e =
      let a = ap (λ (r : Part). r.text) (g.whole ∙ ap (before g.done) e) ∙ append-nil g.done in
      let w : Wrote z y 0 p.text end = subst (λ (t : List ℕ). Wrote z y 0 t end) (sym a) g.wrote in
      let n : end ≡ length p.text = omega (arith, w.end) in
      let k : 0 + length p.text ≡ length p.text = omega arith in
      (ap₂ {C = Chunk} (λ (n : ℕ) (l : List ℕ). record { bytes = n; next = onward l }) n (sym (ap (λ (r : Part). r.remaining) (g.whole ∙ ap (before g.done) e))), w.bytes ∙ ap (λ (n : ℕ). p.text ++ drop n z) k)

-- ---- along the walk
-- the walk stands in a segment or at its joint, and the rows from there on remain
pub record Walking (r : Road) (p : Part) (z y : List ℕ) (w : Walk) (end : ℕ) : Type 0 where
  pub stands : Stands r w
  pub going : Going p z y end (rows_that_fit (line r) (length z - end) (not_below w.station (listed r)))

pub walking_starts : {r : Road} {first : ℕ} {w : Walk} (z : List ℕ) → Entered r first w → Walking r (chunk r first (length z)) z z w 0
walking_starts {r} {first} z e = record {
  stands = e.stands;
  going = subst (Going (chunk r first (length z)) z z 0) (chunk-is r first (length z) ∙ ap₂ (λ (n x : ℕ). rows_that_fit (line r) n (not_below x (listed r))) (sym (sub-zero (length z))) (sym e.at)) (going-starts (chunk r first (length z)) z);
}

pub entered-inside : {r : Road} {x : ℕ} {w : Walk} → Entered r x w → w.station ≤ total r → w.station < w.view.joint
entered-inside e l = let q = e.at in let k = e.inside (omega arith) in omega arith

module _ {r : Road} (G : Guaranteed r) {p : Part} {z y : List ℕ} {w : Walk} {end : ℕ} (k : Walking r p z y w end) where
  -- a row, and one station on
  pub walked : {y' : List ℕ} {end' : ℕ} {n : Walk} → w.station < w.view.joint → 96 ≤ length z - end → Wrote y y' end (line_in w.view.segment w.station) end' → end' ≤ end + 96 → n ≡ moved r.head.step w
      → Walking r p z y' n end' × (w.station < n.station)
  walked {y'} {end'} h room wrote most e =
      let c = passed G k.stands h in
      let t = subst (λ (l : List ℕ). Wrote y y' end l end') (line-shows (shown_here k.stands h)) wrote in
      rw e (record { stands = c.stands; going = going-row k.going (line r) w.station _ (ap (rows_that_fit (line r) (length z - end)) c.remaining) room t most }, c.beyond)

  -- no room for the row of the station
  pub full : w.station < w.view.joint → length z - end < 96 → (◌≡◌ {A = Chunk} (record { bytes = end; next = Some w.station }) (answer p)) × (y ≡ overwrite p.text z)
  full h room = going_answers k.going (fit_full (line r) (length z - end) (not_below w.station (listed r)) room ∙ ap nothing (passed G k.stands h).remaining)

  -- at the end of the road no row remains
  pub done : total r < w.station → (◌≡◌ {A = Chunk} (record { bytes = end; next = None }) (answer p)) × (y ≡ overwrite p.text z)
  done beyond = going_answers k.going (ap (rows_that_fit (line r) (length z - end)) (none-listed G w.station beyond) ∙ fit_none (line r) (length z - end))
