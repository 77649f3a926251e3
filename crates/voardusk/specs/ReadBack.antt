-- The numbers of a call say its answer: no refusal has the number 0, and no station is what stands for none.
use Rattle.std.specs.Prelude.{◌≡◌, refl, Bool, true, false, List, ◌⊎◌, ℕ, zero, suc, ◌*◌, ◌≤◌, ltb, eqb, length, if◌then◌else◌, Option, None, Some}
use Rattle.std.proofs.Common.{ap, inl, inr, arith, ne_eqb}
use Rattle.file_numbers.specs.Reading.{Got, got, refused}
use Rattle.road.specs.File.{Road, read}
use Rattle.road.specs.Exact.{total}
use Rattle.road.specs.Line.{line}
use Rattle.road.specs.Listed.{stations}
use Rattle.road.specs.Limits.{limits}
use Rattle.road.specs.Rules.{accepted}
use Rattle.road.specs.Machine.{Answer, refusal, wrote, station, no_station, row_on, row_answer, station_or, next_on, next_answer}
use Rattle.laws_of_acceptance.specs.Guaranteed.{Guaranteed, guaranteed}
use Rattle.laws_of_stations.specs.Next.{Least, least, nothing, next-least, listed_has}
use Rattle.laws_of_acceptance.specs.Refusals.{ByRule, refused_iff, read_number, rule_number, WithinOr}
use Rattle.walk.specs.FittingRows.{chunk, onward, answer}
use Rattle.walk.specs.Inside.{listed-inside}
use Rattle.walk.proofs.AllChunksLaws.{onward-listed}
use Rattle.walk.specs.declared.Chunk.{Chunk}
use Rattle.road.specs.Faults.{Said, value}
use Rattle.road.specs.Faults as faults
use Rattle.listing.specs.Chunks.{list_on, list_answer}
use Rattle.speed_marks.specs.Marks as speeds
use Rattle.peg_list.specs.Pegs.{first_bad, rows_or24, pegs_on, pegs_answer}
use Rattle.voardusk.specs.Codes.{mark_for_none, returned_number, answer_number, list_returned_number, list_answer_number, list_next_number, marks_returned_number, marks_answer_number}

-- ---- what a caller reads from the numbers
abbrev pub row_said : (number answer : ℕ) → Answer
row_said zero n = wrote n
row_said (suc k) p = refusal (suc k) p

abbrev pub next_said : (number answer : ℕ) → Answer
next_said zero s = if eqb s mark_for_none then no_station else station s
next_said (suc k) p = refusal (suc k) p

abbrev pub list_said : (number answer next : ℕ) → Said Chunk
list_said zero n s = value (record { bytes = n; next = if eqb s mark_for_none then None else Some s })
list_said (suc k) p s = faults.refusal (suc k) p

abbrev pub marks_said : (number answer : ℕ) → Said ℕ
marks_said zero set = value set
marks_said (suc k) p = faults.refusal (suc k) p

-- ---- it is the answer
-- a number in a range from 1 on, or beside it, is 1 or more
above : {n low high other : ℕ} → 1 ≤ low → 1 ≤ other → WithinOr low high other n → 1 ≤ n
above h k (inl w) = let l = w.low in omega arith
above h k (inr e) = omega arith

-- so is the number of a file that does not read
read_above : (f : List ℕ) (n p : ℕ) → read f ≡ refused n p → 1 ≤ n
read_above f n p e = above (omega arith) (omega arith) (read_number f n p e)

-- and that of a refused file
number-above : (f : List ℕ) (n p : ℕ) → accepted f ≡ refused n p → 1 ≤ n
number-above f n p e = go ((refused_iff f n p).0 e)
  where
    go : (read f ≡ refused n p) ⊎ ByRule f n p → 1 ≤ n
    go (inl r) = read_above f n p r
    go (inr b) = above (omega arith) (omega arith) (rule_number (limits b.road) b.road b.lowest)

-- from 1 on, what is read of a refusal's numbers is that refusal
refused_back : {A : Type 0} (said refused : ℕ → ℕ → A) → ((k p : ℕ) → said (suc k) p ≡ refused (suc k) p) → (n p : ℕ) → 1 ≤ n → said n p ≡ refused n p
refused_back said away back zero p h = absurd (omega arith)
refused_back said away back (suc k) p h = back k p

-- a station of a road is not what stands for none
not_mark : (s : ℕ) → s ≤ 100000000 → eqb s mark_for_none ≡ false
not_mark s h = ne_eqb s mark_for_none (λ e. omega arith)

-- the numbers of an answer, read
abbrev RowBack : Answer → Type 0
RowBack a = row_said (returned_number a) (answer_number a) ≡ a

abbrev NextBack : Answer → Type 0
NextBack a = next_said (returned_number a) (answer_number a) ≡ a

abbrev ListBack : Said Chunk → Type 0
ListBack a = list_said (list_returned_number a) (list_answer_number a) (list_next_number a) ≡ a

abbrev MarksBack : Said ℕ → Type 0
MarksBack a = marks_said (marks_returned_number a) (marks_answer_number a) ≡ a

pub row_read_back : (f : List ℕ) (s room : ℕ) → RowBack (row_answer f s room)
unfolding row_answer
row_read_back f s room = go (accepted f) refl
  where
    by : (n : ℕ) (short beyond : Bool) → RowBack (if short then refusal 20 0 else (if beyond then refusal 21 0 else wrote n))
    by n true beyond = refl
    by n false true = refl
    by n false false = refl

    go : (g : Got Road) → accepted f ≡ g → RowBack (row_on s room g)
    go (refused n p) e = refused_back row_said refusal (λ k p. refl) n p (number-above f n p e)
    go (got r end) e = by (length (line r s)) (ltb room 96) (ltb (total r) s)

pub next_read_back : (f : List ℕ) (s : ℕ) → NextBack (next_answer f s)
unfolding next_answer
next_read_back f s = go (accepted f) refl
  where
    of : {r : Road} → Guaranteed r → {o : Option ℕ} → Least s (stations r) o → NextBack (station_or o)
    of {r} G (least {x = x} m l k) =
        let T = G.whole.high in
        let h : x ≤ total r = listed-inside G (listed_has r x m) in
        ap (λ (b : Bool). if b then no_station else station x) (not_mark x (omega arith))
    of G (nothing k) = refl

    go : (g : Got Road) → accepted f ≡ g → NextBack (next_on s g)
    go (refused n p) e = refused_back next_said refusal (λ k p. refl) n p (number-above f n p e)
    go (got r end) e = of (guaranteed f r end e) (next-least r s)

pub list_read_back : (f : List ℕ) (s room : ℕ) → ListBack (list_answer f s room)
unfolding list_answer
list_read_back f s room = go (accepted f) refl
  where
    of : {r : Road} → Guaranteed r → (o : Option ℕ) → onward (chunk r s room).remaining ≡ o → (n : ℕ) → ListBack (value (record { bytes = n; next = o }))
    of {r} G (Some t) e n =
        let T = G.whole.high in
        let h : t ≤ total r = listed-inside G (onward-listed G s room t e) in
        ap (λ (b : Bool). value (record { bytes = n; next = if b then None else Some t })) (not_mark t (omega arith))
    of G None e n = refl

    by : {r : Road} → Guaranteed r → (short : Bool) → ListBack (if short then faults.refusal 20 0 else value (answer (chunk r s room)))
    by G true = refl
    by {r} G false = of G (onward (chunk r s room).remaining) refl (length (chunk r s room).text)

    go : (g : Got Road) → accepted f ≡ g → ListBack (list_on s room g)
    go (refused n p) e = refused_back (λ k q. list_said k q mark_for_none) faults.refusal (λ k q. refl) n p (number-above f n p e)
    go (got r end) e = by (guaranteed f r end e) (ltb room 96)

pub marks_read_back : (f : List ℕ) → MarksBack (speeds.marks_answer f)
unfolding speeds.marks_answer
marks_read_back f = go (read f) refl
  where
    go : (g : Got Road) → read f ≡ g → MarksBack (speeds.marks_on g)
    go (refused n p) e = refused_back marks_said faults.refusal (λ k p. refl) n p (read_above f n p e)
    go (got r end) e = refl

-- the pegs, read as a row is
pub pegs_read_back : (f pegs : List ℕ) (room : ℕ) → RowBack (pegs_answer f pegs room)
unfolding pegs_answer
pegs_read_back f pegs room = go (accepted f) refl
  where
    by : (r : Road) (o : Option ℕ) (short : Bool) → RowBack (if short then refusal 20 0 else rows_or24 r pegs o)
    by r o true = refl
    by r (Some i) false = refl
    by r None false = refl

    go : (g : Got Road) → accepted f ≡ g → RowBack (pegs_on pegs room g)
    go (refused n p) e = refused_back row_said refusal (λ k p. refl) n p (number-above f n p e)
    go (got r end) e = by r (first_bad (total r) pegs) (ltb room (96 * length pegs))
