-- The items of a list with those beside them, as iterators give them one by one: the list of what is left, and that it is the road's.
use Rattle.std.specs.Prelude.{◌≡◌, refl, Bool, true, false, List, [], ◌∷◌, map, ℕ, zero, suc, ◌+◌, ◌-◌, ◌<◌, ◌≤◌, length, take, drop, get_or, position, Option, Some, cond}
use Rattle.std.proofs.Common.{sym, ap, subst, ◌∙◌, arith, add-one}
use Rattle.std.specs.Iterator.{AlwaysYields}
use Rattle.std.specs.List.{enumerate_from, list_any, position_from}
use Rattle.std.proofs.lemmas.Iterator.{YieldsList}
use Rattle.std.proofs.lemmas.Iterator.Adapters.{position_from-zero}
use Rattle.std.proofs.Math.Decide.{ℕ_discrete}
use Rattle.laws_of_lists.specs.Tests.{or_left, or_right}
use Rattle.std.proofs.lemmas.List.{take-map, get_or-drop}
use Rattle.laws_of_acceptance.specs.Lists.{element-step}
use Rattle.road.specs.Base.{count_from, first_from, first_that, sum_of}
use Rattle.road.specs.File.{Road}
use Rattle.road.specs.Exact.{element_of, blank_element, blank_tangent, blank_crossfall, element_start, total}
use Rattle.road.specs.Rules.{element_earlier, element_before, element_among, tangent_among, point_among}
use Rattle.road.specs.declared.Element.{Element}
use Rattle.road.specs.declared.Tangent.{Tangent}
use Rattle.road.specs.declared.Crossfall.{Crossfall}
use Rattle.road.specs.declared.ElementAmong.{ElementAmong}
use Rattle.road.specs.declared.TangentAmong.{TangentAmong}
use Rattle.road.specs.declared.PointAmong.{PointAmong}
use Rattle.rules.specs.declared.walks.Elements.{Elements}
use Rattle.rules.specs.declared.walks.Beside.{Beside}

-- ---- the items at places 0, 1, .. of a list

abbrev pub items_at : {A : Type 0} → (ℕ → A) → ℕ → List A
items_at item n = map item (count_from 0 n)

-- ---- what the iterators have left

-- the next n elements with those beside them, where the elements before them end at `sum`
unfoldable pub elements_from : (n count place sum : ℕ) (earlier before e : Element) (later : List Element) → List ElementAmong
elements_from zero count place sum earlier before e later = []
elements_from (suc n) count place sum earlier before e later =
    record { place = place; count = count; end = sum + e.length; earlier = earlier; before = before; element = e; after = get_or later 0 blank_element }
    ∷ elements_from n count (place + 1) (sum + e.length) before e (get_or later 0 blank_element) (drop 1 later)

abbrev pub elements_left : Elements → List ElementAmong
elements_left w = elements_from (w.count + 1 - w.place) w.count w.place w.end w.earlier w.before w.element w.later.now

-- each item between the one before it and the one after it
unfoldable pub besides : {A : Type 0} → (blank before : A) → List A → List (A × A × A)
besides blank before [] = []
besides blank before (x ∷ xs) = (before, x, get_or xs 0 blank) ∷ besides blank x xs

pub length-besides : {A : Type 0} (blank before : A) (xs : List A) → length (besides blank before xs) ≡ length xs
unfolding besides
length-besides blank before [] = refl
length-besides blank before (x ∷ xs) = ap suc (length-besides blank x xs)

abbrev pub besides_left : {A : Type 0} → Beside A → List (A × A × A)
besides_left w = besides w.blank w.before w.rest.now

-- ---- searches along the items at places 0, 1, ..

take-count : (i m n : ℕ) → m ≤ n → take m (count_from i n) ≡ count_from i m
unfolding count_from
take-count i zero n h = refl
take-count i (suc m) zero h = absurd (omega arith)
take-count i (suc m) (suc n) h = ap (λ (l : List ℕ). i ∷ l) (take-count (suc i) m n (omega arith))

pub take-items : {A : Type 0} (item : ℕ → A) {m n : ℕ} → m ≤ n → take m (items_at item n) ≡ items_at item m
take-items item {m} {n} h = take-map item m (count_from 0 n) ∙ ap (map item) (take-count 0 m n h)

position-from : {A : Type 0} (item : ℕ → A) (test : A → Bool) (i n : ℕ) → position_from test i (map item (count_from i n)) ≡ first_from (λ k. test (item k)) n i
unfolding count_from first_from
position-from item test i zero = refl
position-from {A} item test i (suc n) = go (test (item i)) (ap (λ (k : ℕ). position_from test k (map item (count_from (suc i) n))) (add-one i) ∙ position-from item test (suc i) n)
  where
    go : (b : Bool) → position_from test (i + 1) (map item (count_from (suc i) n)) ≡ first_from (λ k. test (item k)) n (suc i)
        → cond b (Some i) (position_from test (i + 1) (map item (count_from (suc i) n))) ≡ (elim b [ true ↦ Some i | false ↦ first_from (λ k. test (item k)) n (suc i) ])
    go true later = refl
    go false later = later

pub first-position : {A : Type 0} (item : ℕ → A) (test : A → Bool) (n : ℕ) → position test (items_at item n) ≡ first_that (λ k. test (item k)) n
unfolding first_that
first-position item test n = position_from-zero test (items_at item n) ∙ position-from item test 0 n

-- ---- the lists of the road

-- what begins at item i, one item on
one-behind : {A : Type 0} (xs : List A) (i : ℕ) → drop 1 (drop i xs) ≡ drop (suc i) xs
one-behind xs zero = refl
one-behind [] (suc i) = refl
one-behind (x ∷ xs) (suc i) = one-behind xs i

-- its first item
first-behind : {A : Type 0} (xs : List A) (i : ℕ) (d : A) → get_or (drop i xs) 0 d ≡ get_or xs i d
first-behind xs i d = get_or-drop i xs 0 d ∙ ap (λ (k : ℕ). get_or xs k d) (omega arith)

module _ (r : Road) where
  elements-from : (n i : ℕ) → elements_from n (length r.plan) i (element_start r i) (element_earlier r i) (element_before r i) (element_of r i) (drop (suc i) r.plan) ≡ map (element_among r) (count_from i n)
  unfolding elements_from count_from
  elements-from zero i = refl
  elements-from (suc n) i = rw (first-behind r.plan (suc i) blank_element, one-behind r.plan (suc i), add-one i, ← element-step r i) (ap (λ (l : List ElementAmong). element_among r i ∷ l) (elements-from n (suc i)))

  pub elements-among : (es : List Element) → es ≡ r.plan → {n : ℕ} {e : Element} {later : List Element} → n ≡ length es + 1 → e ≡ get_or es 0 blank_element → later ≡ drop 1 es
      → elements_from n (length es) 0 0 blank_element blank_element e later ≡ items_at (element_among r) (length r.plan + 1)
  unfolding element_start sum_of
  elements-among es s m first rest = rw (m, first, rest, s) (elements-from (length r.plan + 1) 0)

-- ---- each item between those beside it

one_on : {A : Type 0} (f : ℕ → A) (i n : ℕ) → map f (count_from (suc i) n) ≡ map (λ k. f (suc k)) (count_from i n)
unfolding count_from
one_on f i zero = refl
one_on {A} f i (suc n) = ap (λ (l : List A). f (suc i) ∷ l) (one_on f (suc i) n)

abbrev pub beside : {A : Type 0} → (blank before : A) → List A → ℕ → A × A × A
beside blank before xs k = (get_or (before ∷ xs) k blank, get_or xs k blank, get_or xs (suc k) blank)

besides_at : {A : Type 0} (blank before : A) (xs : List A) → besides blank before xs ≡ items_at (beside blank before xs) (length xs)
unfolding besides count_from
besides_at blank before [] = refl
besides_at {A} blank before (x ∷ xs) = ap (λ (l : List (A × A × A)). (before, x, get_or xs 0 blank) ∷ l) (besides_at blank x xs ∙ sym (one_on (beside blank before (x ∷ xs)) 0 (length xs)))

pub numbered : {A : Type 0} (item : ℕ → A) (i n : ℕ) → enumerate_from i (map item (count_from i n)) ≡ map (λ k. (k, item k)) (count_from i n)
unfolding count_from
numbered item i zero = refl
numbered {A} item i (suc n) = ap (λ (l : List (ℕ × A)). (i, item i) ∷ l) (ap (λ (k : ℕ). enumerate_from k (map item (count_from (suc i) n))) (add-one i) ∙ numbered item (suc i) n)

mapped : {A B C : Type 0} (f : A → B) (g : B → C) (xs : List A) → map g (map f xs) ≡ map (λ x. g (f x)) xs
mapped f g [] = refl
mapped {C = C} f g (x ∷ xs) = ap (λ (l : List C). g (f x) ∷ l) (mapped f g xs)

abbrev pub as_tangent : Tangent × Tangent × Tangent → TangentAmong
as_tangent x = record { before = x.0; tangent = x.1; after = x.2 }

abbrev pub as_point : (count whole ramp : ℕ) → ℕ × (Crossfall × Crossfall × Crossfall) → PointAmong
as_point count whole ramp x = record { place = x.0; count = count; whole = whole; ramp = ramp; before = x.1.0; point = x.1.1; after = x.1.2 }

module _ (r : Road) where
  pub tangents-among : (ts : List Tangent) → ts ≡ r.tangents → map as_tangent (besides blank_tangent blank_tangent ts) ≡ items_at (tangent_among r) (length r.tangents)
  tangents-among ts e = rw (e, besides_at blank_tangent blank_tangent r.tangents) (mapped (beside blank_tangent blank_tangent r.tangents) as_tangent (count_from 0 (length r.tangents)))

  pub points-among : (ps : List Crossfall) → ps ≡ r.crossfalls → (whole ramp : ℕ) → whole ≡ total r → ramp ≡ r.head.ramp → map (as_point (length ps) whole ramp) (enumerate_from 0 (besides blank_crossfall blank_crossfall ps)) ≡ items_at (point_among r) (length r.crossfalls)
  points-among ps e whole ramp f g =
      let item = beside blank_crossfall blank_crossfall r.crossfalls in
      rw (e, f, g, besides_at blank_crossfall blank_crossfall r.crossfalls, numbered item 0 (length r.crossfalls)) (mapped (λ (k : ℕ). (k, item k)) (as_point (length r.crossfalls) (total r) r.head.ramp) (count_from 0 (length r.crossfalls)))

-- what a chain gives, as another list
pub gives : {S A B : Type 0} {steps : S → Option A → S → Type 0} {v : A → B} {s : S} {xs ys : List B} → xs ≡ ys → YieldsList steps v s xs → AlwaysYields steps v s ys
gives {steps = steps} {v} {s} e all = subst (λ (l : List _). AlwaysYields steps v s l) e all.runs

-- where no item passes a test, none at a place does
none-at : {A : Type 0} (item : ℕ → A) (test : A → Bool) (i n : ℕ) → list_any test (map item (count_from i n)) ≡ false → (k : ℕ) → i ≤ k → k < i + n → test (item k) ≡ false
unfolding count_from
none-at item test i zero e k low high = absurd (omega arith)
none-at item test i (suc n) e k low high = go (ℕ_discrete k i) (none-at item test (suc i) n (or_right (test (item i)) _ e) k)
  where
    go : Dec (k ≡ i) → (suc i ≤ k → k < suc i + n → test (item k) ≡ false) → test (item k) ≡ false
    go (yes q) later = ap (λ (j : ℕ). test (item j)) q ∙ or_left (test (item i)) _ e
    go (no q) later = later (omega (arith, q)) (omega arith)

pub none-passes : {A : Type 0} (item : ℕ → A) (test : A → Bool) {n : ℕ} → list_any test (items_at item n) ≡ false → (k : ℕ) → k < n → test (item k) ≡ false
none-passes item test {n} e k h = none-at item test 0 n e k (omega arith) (omega arith)
