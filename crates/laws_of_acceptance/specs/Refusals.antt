-- Which files are turned away: a file is accepted if and only if it reads and no item breaks a rule; from 5 on the first rule of the order that some item breaks is named, with its first such item.
use Rattle.std.specs.Prelude.{◌≡◌, refl, Bool, true, false, ◌&&◌, ◌||◌, ◌⊎◌, ◌↔◌, List, ℕ, zero, suc, ◌≤◌, length, drop, T, leb, ltb, eqb, ℤ, pos, negsuc, if◌then◌else◌, Option, None, Some}
use Rattle.std.proofs.Common.{sym, ap, ◌∙◌, subst, inl, inr, arith, leb→le, eqb→eq}
use Rattle.file_numbers.specs.Reading.{Got, got, refused, and_then, Reading, ◌>>=◌, give, many}
use Rattle.file_numbers.specs.Number.{Groups, groups, sound, checked_from, number_from, number, signed_of}
use Rattle.road.specs.File.{Road, fitting, field, choice, kind_of, arc_kind, class_of, terrain_of, date, number_is, dated_fields, contract_fields, signed, between, in_size, radius, element, half, tangent, point, head_fields, plan_fields, profile_fields, crossfall_fields, fields, ended, read}
use Rattle.days.specs.Day.{is_day}
use Rattle.road.specs.Limits.{limits}
use Rattle.road.specs.declared.Limits.{Limits}
use Rattle.road.specs.Rules.{Verdict, passes, breaks, road_test, order, judged, under, accepted}
use Rattle.laws_of_acceptance.specs.Judging.{Keeps, rule_at, Broken, passes_kept, kept-passes, kept_by_name, judge-broken, broken-judge}
use Rattle.laws_of_lists.specs.Tests.{and_T, or_T}
use Rattle.road.specs.declared.Contract.{Contract}
use Rattle.road.specs.declared.Contract.TheVariants.{Undated}
use Rattle.road.specs.declared.Rule.{Rule}
use Rattle.road.specs.declared.Rule.TheVariants as rule
use Rattle.road.specs.declared.ElementRule.TheVariants as element
use Rattle.laws_of_acceptance.specs.Ranged.{on, Within}
use Rattle.file_numbers.specs.Refused.{refused_not_got}
use Rattle.laws_of_lists.specs.Each.{each_below}

-- in a range of numbers, or one number beside it
abbrev pub WithinOr : (low high other n : ℕ) → Type 0
WithinOr low high other n = Within low high n ⊎ (n ≡ other)

-- ---- the rules
-- the first rule of the order that some item breaks, with its first such item; every rule before it is kept
pub judged_iff : (l : Limits) (r : Road) (n p : ℕ) → (judged l r ≡ breaks n p) ↔ Broken order l r n p
unfolding judged
judged_iff l r n p = (judge-broken l r order n p, broken-judge l r order n p)

abbrev known : ℕ → Bool
known n = leb 5 n && leb n 19 || eqb n 23

-- its number is from 5 to 19, or 23
pub rule_number : (l : Limits) (r : Road) {n p : ℕ} → Broken order l r n p → WithinOr 5 19 23 n
rule_number l r b = subst (WithinOr 5 19 23) b.number (go (road_test (rule_at order b.place)).number (each_below (λ x. known (road_test x).number) (rule.Element element.PlanLength) order tt b.place b.within))
  where
    go : (n : ℕ) → T (known n) → WithinOr 5 19 23 n
    go n t = by (or_T (leb 5 n && leb n 19) (eqb n 23) t)
      where
        by : T (leb 5 n && leb n 19) ⊎ T (eqb n 23) → WithinOr 5 19 23 n
        by (inl u) = let w = and_T (leb 5 n) (leb n 19) u in inl (record { low = leb→le 5 n w.0; high = leb→le n 19 w.1 })
        by (inr u) = inr (eqb→eq n 23 u)

-- ---- the file
pub accepted_iff : (f : List ℕ) (r : Road) (end : ℕ) → (accepted f ≡ got r end) ↔ ((read f ≡ got r end) × ((rule : Rule) → Keeps rule (limits r) r))
unfolding accepted judged
accepted_iff f r end = (there, back)
  where
    of : (x : Road) (n : ℕ) (v : Verdict) → judged (limits x) x ≡ v → under v x n ≡ got r end → (got x n ≡ got r end) × ((rule : Rule) → Keeps rule (limits r) r)
    of x n passes e q = let same : x ≡ r = cc in (q, subst (λ (y : Road). (rule : Rule) → Keeps rule (limits y) y) same (kept_by_name (limits x) x (passes_kept (limits x) x order e)))
    of x n (breaks k i) e q = absurd (refused_not_got q)

    there : accepted f ≡ got r end → (read f ≡ got r end) × ((rule : Rule) → Keeps rule (limits r) r)
    there e =
        on (read f) _ e λ x n first rest.
        let h = of x n (judged (limits x) x) refl rest in
        (first ∙ h.0, h.1)

    back : (read f ≡ got r end) × ((rule : Rule) → Keeps rule (limits r) r) → accepted f ≡ got r end
    back h = ap (λ (g : Got Road). and_then g λ r at. under (judged (limits r) r) r at) h.0 ∙ ap (λ (v : Verdict). under v r end) (kept-passes (limits r) r order (λ j _. h.1 (rule_at order j)))

-- refused by a rule: it reads, and the refusal is the lowest
pub record ByRule (f : List ℕ) (n p : ℕ) : Type 0 where
  pub road : Road
  pub end : ℕ
  pub reads : read f ≡ got road end
  pub lowest : Broken order (limits road) road n p

pub refused_iff : (f : List ℕ) (n p : ℕ) → (accepted f ≡ refused n p) ↔ ((read f ≡ refused n p) ⊎ ByRule f n p)
unfolding accepted
refused_iff f n p = (there, back)
  where
    of : (r : Road) (end : ℕ) → read f ≡ got r end → (v : Verdict) → judged (limits r) r ≡ v → under v r end ≡ refused n p → ByRule f n p
    of r end h passes e q = absurd (refused_not_got (sym q))
    of r end h (breaks k i) e q =
        let a : k ≡ n = cc in
        let b : i ≡ p = cc in
        record { road = r; end = end; reads = h; lowest = (judged_iff (limits r) r n p).0 (cc) }

    there : accepted f ≡ refused n p → (read f ≡ refused n p) ⊎ ByRule f n p
    there e = go (read f) refl e
      where
        go : (g : Got Road) → read f ≡ g → (and_then g λ r at. under (judged (limits r) r) r at) ≡ refused n p → (read f ≡ refused n p) ⊎ ByRule f n p
        go (refused k i) h q = inl (h ∙ q)
        go (got r end) h q = inr (of r end h (judged (limits r) r) refl q)

    back : (read f ≡ refused n p) ⊎ ByRule f n p → accepted f ≡ refused n p
    back (inl e) = ap (λ (g : Got Road). and_then g λ r at. under (judged (limits r) r) r at) e
    back (inr b) =
        ap (λ (g : Got Road). and_then g λ r at. under (judged (limits r) r) r at) b.reads
        ∙ ap (λ (v : Verdict). under v b.road b.end) ((judged_iff (limits b.road) b.road n p).1 b.lowest)

-- ---- "The reading refusals are 1 to 4", and 22 at the date
abbrev Refuses : {A : Type 0} → (low high : ℕ) → Got A → Type 0
Refuses low high (got a next) = Unit {0}
Refuses low high (refused n p) = WithinOr low high 22 n

-- a faulty number gives 2 or 3, or 22
record Faulty {A : Type 0} (m : Reading A) : Type 0 where
  at_most : (s : List ℕ) (at : ℕ) → Refuses 2 3 (m s at)

only : {low high : ℕ} (n : ℕ) → low ≤ n → n ≤ high → WithinOr low high 22 n
only n l h = inl (record { low = l; high = h })

faulty_after : {A B : Type 0} (m : Got A) (f : A → ℕ → Got B) → Refuses 2 3 m → ((a : A) (next : ℕ) → Refuses 2 3 (f a next)) → Refuses 2 3 (and_then m f)
faulty_after (got a next) f h k = k a next
faulty_after (refused n p) f h k = h

faulty_bind : {A B : Type 0} {m : Reading A} {f : A → Reading B} → Faulty m → ((a : A) → Faulty (f a)) → Faulty (◌>>=◌ m f)
faulty_bind {m} {f} h k = record { at_most = λ s at. faulty_after (m s at) (λ a next. f a s next) (h.at_most s at) (λ a next. (k a).at_most s next) }

faulty_give : {A : Type 0} {a : A} → Faulty (give a)
faulty_give = record { at_most = λ s at. tt }

faulty_number : Faulty number
unfolding number
faulty_number = record { at_most = λ s at. go at (groups (drop at s)) }
  where
    checked : (at : ℕ) (g : Groups) (b : Bool) → Refuses 2 3 (checked_from b g at)
    checked at g true = tt
    checked at g false = only 2 (omega arith) (omega arith)

    go : (at : ℕ) (o : Option Groups) → Refuses 2 3 (number_from o at)
    go at None = only 2 (omega arith) (omega arith)
    go at (Some g) = checked at g (sound g)

faulty_fitting : {A : Type 0} (refusal : ℕ) → WithinOr 2 3 22 refusal → (fits : A → Bool) (a : A) (at : ℕ) (s : List ℕ) (next : ℕ) → Refuses 2 3 (fitting refusal fits a at s next)
unfolding fitting
faulty_fitting refusal known fits a at s next = go (fits a)
  where
    go : (b : Bool) → Refuses 2 3 (if b then got a next else refused refusal at)
    go true = tt
    go false = known

faulty_range : {A : Type 0} (fits : A → Bool) (a : A) (at : ℕ) (s : List ℕ) (next : ℕ) → Refuses 2 3 (fitting 3 fits a at s next)
faulty_range = faulty_fitting 3 (only 3 (omega arith) (omega arith))

faulty_date : Faulty date
unfolding date
faulty_date = record { at_most = λ s at. faulty_after (number s at) _ (faulty_number.at_most s at) (λ v next. faulty_fitting 22 (inr refl) is_day v at s next) }

faulty_contract : Faulty contract_fields
unfolding contract_fields dated_fields
faulty_contract = record { at_most = λ s at. go s at (number_is 9 s at) }
  where
    go : (s : List ℕ) (at : ℕ) (b : Bool) → Refuses {A = Contract} 2 3 (elim b [ true ↦ dated_fields s at | false ↦ got Undated at ])
    go s at true = (faulty_bind faulty_number (λ layout. faulty_bind faulty_date (λ day. faulty_give))).at_most s at
    go s at false = tt

faulty_field : (low high : ℕ) → Faulty (field low high)
unfolding field
faulty_field low high = record { at_most = λ s at. faulty_after (number s at) _ (faulty_number.at_most s at) (λ v next. faulty_range (λ n. leb low n && leb n high) v at s next) }

faulty_choice : {A : Type 0} (low high : ℕ) (of : ℕ → A) → Faulty (choice low high of)
unfolding choice
faulty_choice low high of = faulty_bind (faulty_field low high) (λ n. faulty_give)

faulty_signed : (fits : ℤ → Bool) → Faulty (signed fits)
unfolding signed
faulty_signed fits = record { at_most = λ s at. faulty_after (number s at) _ (faulty_number.at_most s at) (λ v next. faulty_range fits (signed_of v) at s next) }

faulty_many : {A : Type 0} {one : ℕ → Reading A} → ((k : ℕ) → Faulty (one k)) → (n : ℕ) → Faulty (many one n)
unfolding many
faulty_many h zero = faulty_give
faulty_many h (suc n) = faulty_bind (h n) (λ a. faulty_bind (faulty_many h n) (λ l. faulty_give))

faulty_radius : (b : Bool) → Faulty (radius b)
faulty_radius true = faulty_signed (in_size 10000 10000000)
faulty_radius false = faulty_give

faulty_half : (follow : ℕ) → Faulty (half follow)
faulty_half zero = faulty_give
faulty_half (suc k) = faulty_field 0 1000000

faulty_fields : Faulty fields
unfolding fields head_fields plan_fields profile_fields crossfall_fields element tangent point
faulty_fields =
    faulty_bind (faulty_bind faulty_contract (λ z. faulty_bind (faulty_choice 1 4 class_of) (λ a. faulty_bind (faulty_choice 1 3 terrain_of) (λ b. faulty_bind (faulty_field 1000 100000) (λ c. faulty_bind (faulty_field 1 20000) (λ d. faulty_give))))))
    (λ head. faulty_bind (faulty_bind (faulty_field 1 200) (faulty_many (λ _. faulty_bind (faulty_choice 0 2 kind_of) (λ a. faulty_bind (faulty_field 1 10000000) (λ b. faulty_bind (faulty_radius (arc_kind a)) (λ c. faulty_give))))))
    (λ plan. faulty_bind (faulty_bind (faulty_signed (between (negsuc 499999) (pos 3000000))) (λ a. faulty_bind (faulty_field 1 100) (λ n. faulty_bind
    (faulty_many (λ k. faulty_bind (faulty_field 1 10000000) (λ a. faulty_bind (faulty_signed (between (negsuc 119999) (pos 120000))) (λ b. faulty_bind (faulty_half k) (λ c. faulty_give)))) n) (λ l. faulty_give))))
    (λ profile. faulty_bind (faulty_bind (faulty_field 2 200) (faulty_many (λ _. faulty_bind (faulty_field 0 100000000) (λ a. faulty_bind (faulty_signed (between (negsuc 79999) (pos 80000))) (λ b. faulty_bind (faulty_signed (between (negsuc 79999) (pos 80000))) (λ c. faulty_give))))))
    (λ points. faulty_give))))

read_refuses : (f : List ℕ) → Refuses 1 4 (read f)
unfolding read ended
read_refuses f = go (ltb 8192 (length f))
  where
    behind : (r : Road) (at : ℕ) (b : Bool) → Refuses 1 4 (if b then refused 4 at else got r at)
    behind r at true = only 4 (omega arith) (omega arith)
    behind r at false = tt

    inner : (g : Got Road) → Refuses 2 3 g → Refuses 1 4 (and_then g λ r at. ended r f at)
    inner (got r at) w = behind r at (ltb at (length f))
    inner (refused k i) (inl w) = let low = w.low in let high = w.high in only k (omega arith) (omega arith)
    inner (refused k i) (inr e) = inr e

    go : (b : Bool) → Refuses 1 4 (if b then refused 1 8192 else and_then (fields f 0) λ r at. ended r f at)
    go true = only 1 (omega arith) (omega arith)
    go false = inner (fields f 0) (faulty_fields.at_most f 0)

pub read_number : (f : List ℕ) (n p : ℕ) → read f ≡ refused n p → WithinOr 1 4 22 n
read_number f n p e = subst (Refuses 1 4) e (read_refuses f)
