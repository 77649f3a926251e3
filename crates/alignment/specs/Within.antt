-- No reading of the file ends past its last byte: a file that was read was read to its end. Assumes nothing.
use Rattle.std.specs.Prelude.{◌≡◌, refl, ltb, ℕ, zero, suc, ◌+◌, ◌%◌, ◌≤◌, List, [], ◌∷◌, Bool, true, false, ◌&&◌, length, drop, leb, Option, None, Some, option_map, ℤ, pos, negsuc, if◌then◌else◌}
use Rattle.std.proofs.Common.{sym, arith, length-drop, le-ltb}
use Rattle.std.proofs.lemmas.Bool.{ltb-false}
use Rattle.file_numbers.specs.Reading.{Got, got, refused, and_then, Reading, ◌>>=◌, give, many}
use Rattle.file_numbers.specs.Number.{Groups, lowest, groups, sound, checked_from, number_from, number, signed_of}
use Rattle.file_numbers.specs.Refused.{refused_not_got}
use Rattle.days.specs.Day.{is_day}
use Rattle.road.specs.File.{Road, fitting, field, choice, kind_of, arc_kind, class_of, terrain_of, signed, between, in_size, date, number_is, dated_fields, contract_fields, radius, element, half, tangent, point, head_fields, plan_fields, profile_fields, crossfall_fields, fields, ended, read}
use Rattle.road.specs.declared.Contract.TheVariants.{Undated, Dated}
use Rattle.laws_of_acceptance.specs.Ranged.{on}

-- a reading that begins in the file, or at its end, ends there too
abbrev EndsWithin : {A : Type 0} → Reading A → Type 0
EndsWithin {A} m = (s : List ℕ) (at : ℕ) (a : A) (next : ℕ) → at ≤ length s → m s at ≡ got a next → next ≤ length s

-- a number has no more groups than there are bytes
abbrev Few : List ℕ → Option Groups → Type 0
Few l None = Unit {0}
Few l (Some g) = g.count ≤ length l

groups_few : (l : List ℕ) → Few l (groups l)
unfolding groups
groups_few [] = tt
groups_few (b ∷ bs) = by_top (groups bs) (groups_few bs) (leb 128 b)
  where
    one_more : (r : Option Groups) → Few bs r → Few (b ∷ bs) (option_map (lowest (b % 128)) r)
    one_more None few = tt
    one_more (Some g) few = omega arith

    by_top : (r : Option Groups) → Few bs r → (t : Bool) → Few (b ∷ bs) (elim t [ true ↦ option_map (lowest (b % 128)) r | false ↦ Some (record { value = b; count = 1 }) ])
    by_top r few true = one_more r few
    by_top r few false = omega arith

number_ends : EndsWithin number
unfolding number
number_ends s at v next begins e = from (groups (drop at s)) (groups_few (drop at s)) e
  where
    checked : (g : Groups) → g.count ≤ length (drop at s) → (t : Bool) → checked_from t g at ≡ got v next → next ≤ length s
    checked g few true h = let place : at + g.count ≡ next = cc in let rest = length-drop at s in omega arith
    checked g few false h = absurd (refused_not_got h)

    from : (r : Option Groups) → Few (drop at s) r → number_from r at ≡ got v next → next ≤ length s
    from None few h = absurd (refused_not_got h)
    from (Some g) few h = checked g few (sound g) h

-- readings put together: nothing more is read, one after the other, so many
give_ends : {A : Type 0} (a : A) → EndsWithin (give a)
give_ends a s at b next begins e = let place : at ≡ next = cc in omega arith

then_ends : {A B : Type 0} {m : Reading A} {f : A → Reading B} → EndsWithin m → ((a : A) → EndsWithin (f a)) → EndsWithin (◌>>=◌ m f)
then_ends {m = m} first second s at b next begins e = on (m s at) _ e λ a middle read rest. second a s middle b next (first s at a middle begins read) rest

many_ends : {A : Type 0} (one : ℕ → Reading A) → ((k : ℕ) → EndsWithin (one k)) → (n : ℕ) → EndsWithin (many one n)
unfolding many
many_ends one each zero = give_ends []
many_ends one each (suc n) = then_ends (each n) (λ a. then_ends (many_ends one each n) (λ rest. give_ends (a ∷ rest)))

-- a number that fits
fitting_ends : {A : Type 0} (refusal : ℕ) (fits : A → Bool) (says : ℕ → A) → EndsWithin (λ s at. and_then (number s at) λ v next. fitting refusal fits (says v) at s next)
unfolding fitting
fitting_ends refusal fits says s at a next begins e = on (number s at) _ e λ v middle read rest. go v middle (number_ends s at v middle begins read) (fits (says v)) rest
  where
    go : (v middle : ℕ) → middle ≤ length s → (t : Bool) → (if t then got (says v) middle else refused refusal at) ≡ got a next → next ≤ length s
    go v middle inside true h = let place : middle ≡ next = cc in omega arith
    go v middle inside false h = absurd (refused_not_got h)

field_ends : (low high : ℕ) → EndsWithin (field low high)
unfolding field
field_ends low high = fitting_ends 3 (λ n. leb low n && leb n high) (λ v. v)

signed_ends : (fits : ℤ → Bool) → EndsWithin (signed fits)
unfolding signed
signed_ends fits = fitting_ends 3 fits signed_of

choice_ends : {A : Type 0} (low high : ℕ) (of : ℕ → A) → EndsWithin (choice low high of)
unfolding choice
choice_ends low high of = then_ends (field_ends low high) (λ n. give_ends (of n))

date_ends : EndsWithin date
unfolding date
date_ends = fitting_ends 22 is_day (λ v. v)

-- the parts of the file
dated_ends : EndsWithin dated_fields
unfolding dated_fields
dated_ends = then_ends number_ends (λ _. then_ends date_ends (λ day. give_ends (Dated day)))

contract_ends : EndsWithin contract_fields
unfolding contract_fields
contract_ends s at c next begins e = go (number_is 9 s at) e
  where
    go : (t : Bool) → (elim t [ true ↦ dated_fields s at | false ↦ give Undated s at ]) ≡ got c next → next ≤ length s
    go true h = dated_ends s at c next begins h
    go false h = give_ends Undated s at c next begins h

head_ends : EndsWithin head_fields
unfolding head_fields
head_ends =
    then_ends contract_ends λ contract.
    then_ends (choice_ends 1 4 class_of) λ class.
    then_ends (choice_ends 1 3 terrain_of) λ terrain.
    then_ends (field_ends 1000 100_000) λ step.
    then_ends (field_ends 1 20_000) λ ramp.
    give_ends _

radius_ends : (arc : Bool) → EndsWithin (radius arc)
radius_ends true = signed_ends (in_size 10_000 10_000_000)
radius_ends false = give_ends (pos 0)

element_ends : EndsWithin element
unfolding element
element_ends =
    then_ends (choice_ends 0 2 kind_of) λ kind.
    then_ends (field_ends 1 10_000_000) λ long.
    then_ends (radius_ends (arc_kind kind)) λ r.
    give_ends _

half_ends : (follow : ℕ) → EndsWithin (half follow)
half_ends zero = give_ends 0
half_ends (suc _) = field_ends 0 1_000_000

tangent_ends : (follow : ℕ) → EndsWithin (tangent follow)
unfolding tangent
tangent_ends follow =
    then_ends (field_ends 1 10_000_000) λ long.
    then_ends (signed_ends (between (negsuc 119_999) (pos 120_000))) λ grade.
    then_ends (half_ends follow) λ h.
    give_ends _

point_ends : EndsWithin point
unfolding point
point_ends =
    then_ends (field_ends 0 100_000_000) λ station.
    then_ends (signed_ends (between (negsuc 79_999) (pos 80_000))) λ left.
    then_ends (signed_ends (between (negsuc 79_999) (pos 80_000))) λ right.
    give_ends _

plan_ends : EndsWithin plan_fields
unfolding plan_fields
plan_ends = then_ends (field_ends 1 200) (many_ends (λ _. element) (λ _. element_ends))

profile_ends : EndsWithin profile_fields
unfolding profile_fields
profile_ends =
    then_ends (signed_ends (between (negsuc 499_999) (pos 3_000_000))) λ start.
    then_ends (field_ends 1 100) λ count.
    then_ends (many_ends tangent tangent_ends count) λ tangents.
    give_ends _

crossfalls_ends : EndsWithin crossfall_fields
unfolding crossfall_fields
crossfalls_ends = then_ends (field_ends 2 200) (many_ends (λ _. point) (λ _. point_ends))

fields_ends : EndsWithin fields
unfolding fields
fields_ends =
    then_ends head_ends λ head.
    then_ends plan_ends λ plan.
    then_ends profile_ends λ profile.
    then_ends crossfalls_ends λ crossfalls.
    give_ends _

-- a file whose fields end no sooner than it does is read to its end
pub read_whole : (s : List ℕ) {r : Road} {next : ℕ} → got r next ≡ fields s 0 → length s ≤ 8192 → length s ≤ next → read s ≡ got r (length s)
unfolding read ended
read_whole s {r} {next} all few last =
    let within = fields_ends s 0 r next (omega arith) (sym all) in
    let at_end : next ≡ length s = omega arith in
    simp (le-ltb 8192 (length s) few, sym all, at_end, le-ltb (length s) (length s) (omega arith))

-- a file that was read was read to its end
pub read-ends : (s : List ℕ) (r : Road) (next : ℕ) → read s ≡ got r next → next ≡ length s
unfolding read ended
read-ends s r next e = short (ltb 8192 (length s)) e
  where
    last : (q : Road) (at : ℕ) → at ≤ length s → (t : Bool) → ltb at (length s) ≡ t → (if t then refused 4 at else got q at) ≡ got r next → next ≡ length s
    last q at within true u h = cc
    last q at within false u h = let none_left = ltb-false at (length s) u in let same : at ≡ next = cc in omega arith

    parts : (g : Got Road) → fields s 0 ≡ g → and_then g (λ q at. ended q s at) ≡ got r next → next ≡ length s
    parts (got q at) u h = last q at (fields_ends s 0 q at (omega arith) u) (ltb at (length s)) refl h
    parts (refused k p) u h = cc

    short : (t : Bool) → (if t then refused 1 8192 else and_then (fields s 0) (λ q at. ended q s at)) ≡ got r next → next ≡ length s
    short true h = cc
    short false h = parts (fields s 0) refl h
