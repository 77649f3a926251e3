-- The rows that fit, by cases, and where they stop.
use Rattle.std.specs.Prelude.{◌≡◌, ℕ, suc, ◌-◌, ◌≤◌, ◌<◌}
use Rattle.std.proofs.Math.Path.{refl, sym, ap}
use Rattle.std.proofs.Common.{◌∙◌, arith, le-leb, length-append}
use mathlib.Core.List.{List, [], ◌∷◌, ◌++◌, append_assoc, Memᴰ}
use Rattle.std.proofs.Math.Decide.{dec_le}
use Rattle.std.proofs.lemmas.Bool.{lt-leb}
use Rattle.std.proofs.Math.ListN.{length}
use Rattle.road.specs.Base.{joined}
use Rattle.laws_of_search.specs.Ascends.{Ascends, empty, step, ascends-low}
use Rattle.walk.specs.FittingRows.{not_below, Part, before, nothing, rows_that_fit}
use Rattle.walk.specs.NotBelow.{kept, dropped, from_all}

pub before-before : (t u : List ℕ) (p : Part) → before t (before u p) ≡ before (t ++ u) p
before-before t u p = ap (λ (x : List ℕ). record { text = x; remaining = p.remaining }) (sym (append_assoc t u p.text))

module _ (line : ℕ → List ℕ) where
  pub fit_none : (room : ℕ) → rows_that_fit line room [] ≡ nothing []
  unfolding rows_that_fit
  fit_none room = refl

  pub fit_row : (room s : ℕ) (ss : List ℕ) → 96 ≤ room → rows_that_fit line room (s ∷ ss) ≡ before (line s) (rows_that_fit line (room - length (line s)) ss)
  unfolding rows_that_fit
  fit_row room s ss h = rw (le-leb 96 room h, rows_that_fit)

  pub fit_full : (room : ℕ) (l : List ℕ) → room < 96 → rows_that_fit line room l ≡ nothing l
  unfolding rows_that_fit
  fit_full room [] h = refl
  fit_full room (s ∷ ss) h = rw (lt-leb 96 room h, rows_that_fit)

  -- all rows of the list, one behind another
  pub fit_whole : (room : ℕ) (l : List ℕ) → (let p = rows_that_fit line room l in joined line l ≡ p.text ++ joined line p.remaining)
  unfolding joined
  fit_whole room [] = rw (fit_none room)
  fit_whole room (s ∷ ss) = go (dec_le 96 room) (fit_whole (room - length (line s)) ss)
    where
      go : Dec (96 ≤ room) → (let p = rows_that_fit line (room - length (line s)) ss in joined line ss ≡ p.text ++ joined line p.remaining) → (let p = rows_that_fit line room (s ∷ ss) in joined line (s ∷ ss) ≡ p.text ++ joined line p.remaining)
      go (yes h) ih =
          let p = rows_that_fit line (room - length (line s)) ss in
          rw (fit_row room s ss h) (ap (λ (t : List ℕ). line s ++ t) ih ∙ sym (append_assoc (line s) p.text (joined line p.remaining)))
      go (no h) ih = rw (fit_full room (s ∷ ss) (omega arith))

  -- lines of at most 96 bytes fit
  pub fit_room : (room : ℕ) (l : List ℕ) → ((z : ℕ) → Memᴰ z l → length (line z) ≤ 96) → length (rows_that_fit line room l).text ≤ room
  fit_room room [] short = rw (fit_none room) (omega arith)
  fit_room room (s ∷ ss) short = go (dec_le 96 room) (fit_room (room - length (line s)) ss (λ z m. short z (Memᴰ.tail m)))
    where
      go : Dec (96 ≤ room) → length (rows_that_fit line (room - length (line s)) ss).text ≤ room - length (line s) → length (rows_that_fit line room (s ∷ ss)).text ≤ room
      go (yes h) ih = rw (fit_row room s ss h) (omega (arith, length-append (line s) (rows_that_fit line (room - length (line s)) ss).text, short s (Memᴰ.head refl)))
      go (no h) ih = rw (fit_full room (s ∷ ss) (omega arith)) (omega arith)

-- the first of a list, or e where there is none
abbrev pub first_or : ℕ → List ℕ → ℕ
first_or e [] = e
first_or e (s ∷ _) = s

-- of stations from k to below e: where the rows stop, what remains is what is not below that
pub record Stopped (k e : ℕ) (l remaining : List ℕ) : Type 0 where
  pub low : k ≤ first_or e remaining
  pub high : first_or e remaining ≤ e
  pub at : first_or e remaining < e → Memᴰ (first_or e remaining) l
  pub rest : remaining ≡ not_below (first_or e remaining) l

module _ (line : ℕ → List ℕ) (e : ℕ) where
  pub fit_stops : (room : ℕ) {k : ℕ} {l : List ℕ} → Ascends k l → k ≤ e → ((z : ℕ) → Memᴰ z l → z < e) → Stopped k e l (rows_that_fit line room l).remaining
  unfolding not_below
  fit_stops room empty h upto = rw (fit_none line room) (record { low = h; high = omega arith; at = λ l. absurd (omega arith); rest = refl })
  fit_stops room {k} (step {x = x} {xs = xs} b a) h upto = go (dec_le 96 room) (fit_stops (room - length (line x)) a (upto x (Memᴰ.head refl)) (λ z m. upto z (Memᴰ.tail m)))
    where
      go : Dec (96 ≤ room) → Stopped (suc x) e xs (rows_that_fit line (room - length (line x)) xs).remaining → Stopped k e (x ∷ xs) (rows_that_fit line room (x ∷ xs)).remaining
      go (yes r) i = let l = i.low in rw (fit_row line room x xs r) (record { low = omega arith; high = i.high; at = λ j. Memᴰ.tail (i.at j); rest = i.rest ∙ sym (dropped _ x xs l) })
      go (no r) i =
          let w : not_below x xs ≡ xs = from_all x xs (λ z m. let l = ascends-low a m in omega arith) in
          rw (fit_full line room (x ∷ xs) (omega arith)) (record { low = b; high = (let u = upto x (Memᴰ.head refl) in omega arith); at = λ j. Memᴰ.head refl; rest = sym (kept x x xs (omega arith) ∙ ap (λ (l : List ℕ). x ∷ l) w) })
