-- A text of lines, cut at byte 10: line i of rows that stand one behind another is row i.
use Rattle.std.specs.Prelude.{ℕ, zero, suc, ◌≤◌, ◌<◌, ◌≡◌, refl, true, false, List, [], ◌∷◌, ◌++◌, eqb, ℤ, length, get_or}
use Rattle.std.proofs.Common.{sym, ap, ◌∙◌, append_assoc, arith, ne_eqb}
use Rattle.laws_of_lists.specs.All.{All, all_append}
use Rattle.laws_of_lists.specs.All as all
use Rattle.decimal.specs.Decimal.{decimal, spaced}
use Rattle.decimal.specs.ReadBack.{Ink, decimal_ink}
use Rattle.road.specs.Base.{joined}
use Rattle.road.specs.File.{Road}
use Rattle.road.specs.Line.{printed, line}

-- the first line of a text, byte 10 included, and what follows it
unfoldable pub first_line : List ℕ → List ℕ
first_line [] = []
first_line (c ∷ l) = elim (eqb c 10) [ true ↦ c ∷ [] | false ↦ c ∷ first_line l ]

unfoldable pub after_line : List ℕ → List ℕ
after_line [] = []
after_line (c ∷ l) = elim (eqb c 10) [ true ↦ l | false ↦ after_line l ]

-- line i of a text, counted from 0
unfoldable pub line_of : ℕ → List ℕ → List ℕ
line_of zero t = first_line t
line_of (suc i) t = line_of i (after_line t)

-- ---- a row is one line: byte 10 stands at its end alone
Plain : ℕ → Type 0
Plain c = 11 ≤ c

record OneLine (l : List ℕ) : Type 0 where
  words : List ℕ
  plain : All Plain words
  ends : l ≡ words ++ (10 ∷ [])

ink_plain : {l : List ℕ} → All Ink l → All Plain l
unfolding Plain
ink_plain all.none = all.none
ink_plain {l = c ∷ l} (all.more p a) = all.more {a = c} (omega arith) (ink_plain a)

spaced-line : (vs : List ℤ) → OneLine (spaced vs)
unfolding spaced Plain
spaced-line [] = record { words = []; plain = all.none; ends = refl }
spaced-line (v ∷ []) = record { words = decimal v; plain = ink_plain (decimal_ink v); ends = refl }
spaced-line (v ∷ w ∷ vs) =
    let l = spaced-line (w ∷ vs) in
    record {
      words = decimal v ++ (32 ∷ l.words);
      plain = all_append (ink_plain (decimal_ink v)) (all.more {a = 32} (omega arith) l.plain);
      ends = ap (λ (t : List ℕ). decimal v ++ (32 ∷ t)) l.ends ∙ sym (append_assoc (decimal v) (32 ∷ l.words) (10 ∷ []));
    }

row_line : (r : Road) (s : ℕ) → OneLine (line r s)
unfolding line
row_line r s = spaced-line (printed r s)

-- ---- cut off a text
not_end : (c : ℕ) → Plain c → eqb c 10 ≡ false
unfolding Plain
not_end c h = ne_eqb c 10 (λ (e : c ≡ 10). omega arith)

first-words : {w : List ℕ} (t : List ℕ) → All Plain w → first_line (w ++ (10 ∷ t)) ≡ w ++ (10 ∷ [])
unfolding first_line
first-words t all.none = refl
first-words {w = c ∷ w} t (all.more p a) = rw (not_end c p, first_line) (ap (λ (l : List ℕ). c ∷ l) (first-words t a))

after-words : {w : List ℕ} (t : List ℕ) → All Plain w → after_line (w ++ (10 ∷ t)) ≡ t
unfolding after_line
after-words t all.none = refl
after-words {w = c ∷ w} t (all.more p a) = rw (not_end c p, after_line) (after-words t a)

module _ {l : List ℕ} (o : OneLine l) (t : List ℕ) where
  whole : l ++ t ≡ o.words ++ (10 ∷ t)
  whole = ap (λ (k : List ℕ). k ++ t) o.ends ∙ append_assoc o.words (10 ∷ []) t

  first-is : first_line (l ++ t) ≡ l
  first-is = ap first_line whole ∙ first-words t o.plain ∙ sym o.ends

  after_is : after_line (l ++ t) ≡ t
  after_is = ap after_line whole ∙ after-words t o.plain

-- line i of the rows of stations is the row of station i
pub line_of_lem : (r : Road) (stations : List ℕ) (i : ℕ) → i < length stations → line_of i (joined (line r) stations) ≡ line r (get_or stations i 0)
unfolding line_of joined
line_of_lem r [] i h = absurd (omega arith)
line_of_lem r (s ∷ ss) zero h = first-is (row_line r s) (joined (line r) ss)
line_of_lem r (s ∷ ss) (suc i) h = ap (line_of i) (after_is (row_line r s) (joined (line r) ss)) ∙ line_of_lem r ss i (omega arith)
