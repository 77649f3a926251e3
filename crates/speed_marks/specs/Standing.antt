-- When a mark stands: bit k of the set is the mark of 40 + 10 k km/h, which stands where every rule is kept; that of the class's own speed stands exactly where the file is accepted.
use Rattle.std.specs.Prelude.{◌≡◌, refl, ◌↔◌, ℕ, zero, suc, ◌+◌, ◌*◌, ◌-◌, ◌/◌, ◌<◌, Bool, true, ◌&&◌, List, [], ◌∷◌, map, length, get_or, ltb, eqb}
use Rattle.std.proofs.Common.{sym, ap, ◌∙◌, arith, ltb→lt, eqb→eq}
use Rattle.file_numbers.specs.Reading.{Got, got, refused}
use Rattle.road.specs.File.{Road, read}
use Rattle.road.specs.Faults.{refusal}
use Rattle.road.specs.Limits.{speeds, class_row, terrain_column, speed, limits_of, limits}
use Rattle.road.specs.declared.Class.{Class}
use Rattle.road.specs.declared.Class.TheVariants as classes
use Rattle.road.specs.declared.Class.TheVariants.{LongDistance, Connecting, Collecting, Access}
use Rattle.road.specs.declared.Terrain.{Terrain}
use Rattle.road.specs.declared.Terrain.TheVariants as terrains
use Rattle.road.specs.declared.Terrain.TheVariants.{Flat, Hilly, Mountain}
use Rattle.road.specs.declared.Limits.{Limits}
use Rattle.road.specs.Rules.{Verdict, passes, breaks, order, judged, accepted}
use Rattle.road.specs.declared.Rule.{Rule}
use Rattle.std.specs.List.{list_all}
use Rattle.laws_of_lists.specs.Each.{each_below}
use Rattle.laws_of_lists.specs.Tests.{and_T}
use Rattle.laws_of_acceptance.specs.Ranged.{read_range}
use Rattle.laws_of_acceptance.specs.Judging.{Keeps, rule_at, passes_kept, kept-passes, kept_by_name}
use Rattle.laws_of_acceptance.specs.Refusals.{accepted_iff}
use Rattle.speed_marks.specs.Marks.{tried_speeds, limits_with, is_passed, stands, marks, marks_on, marks_answer}
use Rattle.speed_marks.specs.Sets.{has_bit, set_below, set-bit}

-- ---- the speed of a bit

-- so many speeds from one on, each 10 km/h above the one before
unfoldable stepped : (from count : ℕ) → List ℕ
stepped from zero = []
stepped from (suc n) = from ∷ stepped (10 + from) n

stepped-at : (from count k : ℕ) → k < count → get_or (stepped from count) k 0 ≡ from + 10 * k
unfolding stepped
stepped-at from zero k h = absurd (omega arith)
stepped-at from (suc n) zero h = omega arith
stepped-at from (suc n) (suc k) h = let ih = stepped-at (10 + from) n k (omega arith) in omega arith

-- "40 km/h in the lowest bit up to 100 in the seventh"
pub mark_is : (r : Road) (k : ℕ) → k < 7 → has_bit (marks r) k ≡ stands r (40 + 10 * k)
unfolding marks stepped
mark_is r k h = set-bit (stands r) tried_speeds k h ∙ ap (stands r) (stepped-at 40 7 k h)

-- there is no eighth mark
pub marks-below : (r : Road) → marks r < 128
unfolding marks
marks-below r = set_below (map (stands r) tried_speeds)

-- ---- what a mark says

-- a road passes under limits exactly where it keeps every rule under them
passed_iff : (l : Limits) (r : Road) → (is_passed (judged l r) ≡ true) ↔ ((rule : Rule) → Keeps rule l r)
unfolding judged
passed_iff l r = (there, back)
  where
    of : (x : Verdict) → is_passed x ≡ true → x ≡ passes
    of passes e = refl
    of (breaks n p) e = cc

    there : is_passed (judged l r) ≡ true → (rule : Rule) → Keeps rule l r
    there e = kept_by_name l r (passes_kept l r order (of (judged l r) e))

    back : ((rule : Rule) → Keeps rule l r) → is_passed (judged l r) ≡ true
    back kept = ap is_passed (kept-passes l r order (λ j _. kept (rule_at order j)))

-- "if and only if the file passes every rule after the reading rules with that speed's row"
pub stands_iff : (r : Road) (v : ℕ) → (stands r v ≡ true) ↔ ((rule : Rule) → Keeps rule (limits_with v r) r)
unfolding stands
stands_iff r v = passed_iff (limits_with v r) r

-- ---- the class's own speed

abbrev pub own_speed : Road → ℕ
own_speed r = speed r.head.class r.head.terrain

abbrev pub own_mark : Road → ℕ
own_mark r = (own_speed r - 40) / 10

-- it is one of the seven
abbrev tried : ℕ → Bool
tried v = ltb ((v - 40) / 10) 7 && eqb (40 + 10 * ((v - 40) / 10)) v

pub record OwnTried (r : Road) : Type 0 where
  pub within : own_mark r < 7
  pub speed : 40 + 10 * own_mark r ≡ own_speed r

row_within : (class : Class) → (class ≡ classes.Other → ⊥) → class_row class < 4
row_within LongDistance named = omega arith
row_within Connecting named = omega arith
row_within Collecting named = omega arith
row_within Access named = omega arith
row_within classes.Other named = absurd (named refl)

column_within : (terrain : Terrain) → (terrain ≡ terrains.Other → ⊥) → terrain_column terrain < 3
column_within Flat named = omega arith
column_within Hilly named = omega arith
column_within Mountain named = omega arith
column_within terrains.Other named = absurd (named refl)

pub own_tried : (r : Road) → (r.head.class ≡ classes.Other → ⊥) → (r.head.terrain ≡ terrains.Other → ⊥) → OwnTried r
unfolding speed
own_tried r class terrain =
    let row : List ℕ = get_or speeds (class_row r.head.class) [] in
    let whole = and_T (eqb (length row) 3) (list_all tried row) (each_below (λ l. eqb (length l) 3 && list_all tried l) [] speeds tt (class_row r.head.class) (row_within r.head.class class)) in
    let three : length row ≡ 3 = eqb→eq (length row) 3 whole.0 in
    let v : ℕ = get_or row (terrain_column r.head.terrain) 0 in
    let t = and_T (ltb ((v - 40) / 10) 7) (eqb (40 + 10 * ((v - 40) / 10)) v) (each_below tried 0 row whole.1 (terrain_column r.head.terrain) (omega (arith, column_within r.head.terrain terrain))) in
    record { within = ltb→lt ((v - 40) / 10) 7 t.0; speed = eqb→eq (40 + 10 * ((v - 40) / 10)) v t.1 }

-- so its mark is that of its speed
own_is : (r : Road) → (r.head.class ≡ classes.Other → ⊥) → (r.head.terrain ≡ terrains.Other → ⊥) → has_bit (marks r) (own_mark r) ≡ stands r (own_speed r)
own_is r class terrain = let o = own_tried r class terrain in mark_is r (own_mark r) o.within ∙ ap (stands r) o.speed

own_read : (f : List ℕ) (r : Road) (end : ℕ) → read f ≡ got r end → has_bit (marks r) (own_mark r) ≡ stands r (own_speed r)
own_read f r end e = let head = (read_range f r end e).head in own_is r head.class head.terrain

-- the mark of the class's own speed stands exactly where the file is accepted
pub own_mark_lem : (f : List ℕ) (r : Road) (end : ℕ) → (accepted f ≡ got r end) ↔ ((read f ≡ got r end) × (has_bit (marks r) (own_mark r) ≡ true))
unfolding limits limits_of stands
own_mark_lem f r end = (there, back)
  where
    there : accepted f ≡ got r end → (read f ≡ got r end) × (has_bit (marks r) (own_mark r) ≡ true)
    there e = let h = (accepted_iff f r end).0 e in (h.0, own_read f r end h.0 ∙ (passed_iff (limits_with (own_speed r) r) r).1 h.1)

    back : (read f ≡ got r end) × (has_bit (marks r) (own_mark r) ≡ true) → accepted f ≡ got r end
    back h = (accepted_iff f r end).1 (h.0, (passed_iff (limits_with (own_speed r) r) r).0 (sym (own_read f r end h.0) ∙ h.1))

-- ---- the refusals

-- "A file that 1 to 4 or 22 turn away gets that refusal", and no other file
pub refused_iff : (f : List ℕ) (n p : ℕ) → (marks_answer f ≡ refusal n p) ↔ (read f ≡ refused n p)
unfolding marks_answer
refused_iff f n p = (go (read f) refl, ap marks_on)
  where
    go : (g : Got Road) → read f ≡ g → marks_on g ≡ refusal n p → read f ≡ refused n p
    go (got r end) e h = absurd cc
    go (refused m q) e h = cc
