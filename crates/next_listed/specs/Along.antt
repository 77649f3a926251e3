-- The listed stations of the items of a list, along the list.
use Rattle.std.specs.Prelude.{◌≡◌, refl, List, [], ◌∷◌, ◌++◌, map, flat_map, take, length, get_or, ℕ, zero, suc, ◌+◌, ◌-◌, ◌<◌, eqb, if◌then◌else◌, Option, None, false}
use Rattle.std.specs.List.{scan}
use Rattle.std.specs.Iterator.{AlwaysYields}
use Rattle.std.proofs.lemmas.Iterator.{YieldsList}
use Rattle.std.proofs.lemmas.Iterator.Consumers.{YieldsList-from_shown}
use Rattle.std.proofs.Common.{subst, Some, sym, ap, ap₂, ◌∙◌, arith, add-zero, ne_eqb}
use Rattle.std.proofs.Math.Nat.{sub-zero}
use Rattle.road.specs.Base.{count_from, joined, sum_of}
use Rattle.road.specs.File.{Road}
use Rattle.road.specs.Exact.{blank_tangent, element_start, tangent_start, total, vertex_count}
use Rattle.road.specs.Listed.{multiples, element_ends, curve_stations, stations, next_listed}
use Rattle.road.specs.declared.Element.{Element}
use Rattle.road.specs.declared.Tangent.{Tangent}
use Rattle.road.specs.declared.Crossfall.{Crossfall}
use Rattle.next_listed.specs.Search.{added, after, added-append, added-none, counted_twice}
use Rattle.next_listed.specs.declared.Search.{Search}

-- the stations of the crossfall points
abbrev pub point_stations : List Crossfall → List ℕ
point_stations ps = map (λ (p : Crossfall). p.station) ps

-- the ends of elements that begin at a station
abbrev pub ends_from : ℕ → List Element → List ℕ
ends_from start [] = []
ends_from start (e ∷ es) = (start + e.length) ∷ ends_from (start + e.length) es

-- as an iterator with a running end gives them
pub ends-scanned : (start : ℕ) (es : List Element) → scan (λ (a : ℕ) (e : Element). a + e.length) (λ (a : ℕ) (e : Element). a + e.length) start es ≡ ends_from start es
ends-scanned start [] = refl
ends-scanned start (e ∷ es) = ap (λ (l : List ℕ). (start + e.length) ∷ l) (ends-scanned (start + e.length) es)

-- both ends of the curve at the end of each tangent, the first of which begins at a station
abbrev pub curves_from : ℕ → List Tangent → List ℕ
curves_from start [] = []
curves_from start (t ∷ ts) = let vertex = start + t.length in (vertex - t.half) ∷ (vertex + t.half) ∷ curves_from vertex ts

-- as an iterator with a running vertex gives them
pub curves-scanned : (start : ℕ) (ts : List Tangent)
    → flat_map (λ (y : List ℕ). y) (scan (λ (a : ℕ) (t : Tangent). a + t.length) (λ (a : ℕ) (t : Tangent). (a + t.length - t.half) ∷ (a + t.length + t.half) ∷ []) start ts) ≡ curves_from start ts
curves-scanned start [] = refl
curves-scanned start (t ∷ ts) = ap (λ (l : List ℕ). (start + t.length - t.half) ∷ (start + t.length + t.half) ∷ l) (curves-scanned (start + t.length) ts)

-- what an iterator gives, as another list
pub gives : {S : Type 0} {steps : S → Option ℕ → S → Type 0} {s : S} {xs ys : List ℕ} → xs ≡ ys → YieldsList steps (λ x. x) s xs → AlwaysYields steps (λ x. x) s ys
gives {steps = steps} {s} e all = subst (λ (l : List ℕ). AlwaysYields steps (λ x. x) s l) e all.runs

-- the items of an iterator that shows what it has left
pub shows : {S : Type 0} (steps : S → Option ℕ → S → Type 0) (shown : S → List ℕ) → ((s t : S) → steps s None t → length (shown s) ≡ 0) → ((s : S) (x : ℕ) (t : S) → steps s (Some x) t → shown s ≡ x ∷ shown t)
    → (s : S) {xs : List ℕ} → shown s ≡ xs → YieldsList steps (λ x. x) s xs
shows steps shown none some s e = subst (λ (l : List ℕ). YieldsList steps (λ x. x) s l) e (YieldsList-from_shown steps (λ x. x) shown none some s)

pub two_fit : (n : ℕ) → n ≡ 2 → n < 18446744073709551616
two_fit n e = omega arith

-- ---- they are those of the definition

map-shifted : (f : ℕ → ℕ) (i n : ℕ) → map f (count_from (suc i) n) ≡ map (λ k. f (suc k)) (count_from i n)
unfolding count_from
map-shifted f i zero = refl
map-shifted f i (suc n) = ap (λ (l : List ℕ). f (suc i) ∷ l) (map-shifted f (suc i) n)

joined-shifted : (g : ℕ → List ℕ) (i n : ℕ) → joined g (count_from (suc i) n) ≡ joined (λ k. g (suc k)) (count_from i n)
unfolding count_from joined
joined-shifted g i zero = refl
joined-shifted g i (suc n) = ap (λ (l : List ℕ). g (suc i) ++ l) (joined-shifted g (suc i) n)

ends_are : (start : ℕ) (es : List Element) (f : ℕ → ℕ) → ((i : ℕ) → f i ≡ start + sum_of (λ (e : Element). e.length) (take (suc i) es)) → map f (count_from 0 (length es)) ≡ ends_from start es
unfolding count_from sum_of
ends_are start [] f h = refl
ends_are start (e ∷ es) f h =
    ap₂ (λ (x : ℕ) (l : List ℕ). x ∷ l) (let first = h 0 in omega arith)
    (map-shifted f 0 (length es) ∙ ends_are (start + e.length) es (λ i. f (suc i)) (λ i. let next = h (suc i) in omega arith))

pub element-ends : (r : Road) → element_ends r ≡ ends_from 0 r.plan
unfolding element_ends element_start
element-ends r = ends_are 0 r.plan (λ i. element_start r (suc i)) (λ i. omega arith)

-- a curve of half length 0 has one end, its vertex
abbrev curve : (vertex half : ℕ) → List ℕ
curve v h = if eqb h 0 then v ∷ [] else (v - h) ∷ (v + h) ∷ []

both_ends : (s v h : ℕ) (o : Option ℕ) → added s (curve v h) o ≡ added s ((v - h) ∷ (v + h) ∷ []) o
both_ends s v zero o = rw (sub-zero v, add-zero v) (sym (counted_twice s v o))
both_ends s v (suc h) o = let e : eqb (suc h) 0 ≡ false = ne_eqb (suc h) 0 (λ (e : suc h ≡ 0). omega arith) in rw e

curves_are : (s start : ℕ) (ts : List Tangent) (g : ℕ → List ℕ) (o : Option ℕ) → ((i : ℕ) → g i ≡ curve (start + sum_of (λ (t : Tangent). t.length) (take (suc i) ts)) (get_or ts i blank_tangent).half)
    → added s (joined g (count_from 0 (length ts - 1))) o ≡ added s (curves_from start (take (length ts - 1) ts)) o
unfolding count_from joined sum_of
curves_are s start [] g o h = refl
curves_are s start (t ∷ []) g o h = refl
curves_are s start (t ∷ u ∷ ts) g o h =
    let v = start + t.length in
    let h' = t.half in
    let first : start + (t.length + 0) ≡ v = omega arith in
    let n : suc (suc (length ts)) - 1 ≡ suc (length ts) = omega arith in
    let m : suc (length ts) - 1 ≡ length ts = omega arith in
    let rest = curves_are s v (u ∷ ts) (λ k. g (suc k)) (added s ((v - h') ∷ (v + h') ∷ []) o) (λ i. h (suc i) ∙ ap (λ (x : ℕ). curve x (get_or (u ∷ ts) i blank_tangent).half) (omega arith)) in
    rw n
    (added-append s (g 0) (joined g (count_from 1 (length ts))) o
    ∙ ap₂ (λ (l : List ℕ) (p : Option ℕ). added s l p) (joined-shifted g 0 (length ts)) (ap (λ (l : List ℕ). added s l o) (h 0 ∙ ap (λ (x : ℕ). curve x h') first) ∙ both_ends s v h' o)
    ∙ (rw m at rest))

pub curve-ends : (r : Road) (s : ℕ) (o : Option ℕ) → added s (joined (curve_stations r) (count_from 0 (vertex_count r))) o ≡ added s (curves_from 0 (take (length r.tangents - 1) r.tangents)) o
unfolding curve_stations tangent_start
curve-ends r s o = curves_are s 0 r.tangents (curve_stations r) o (λ i. let e : 0 + sum_of (λ (t : Tangent). t.length) (take (suc i) r.tangents) ≡ sum_of (λ (t : Tangent). t.length) (take (suc i) r.tangents) = omega arith in rw e)

-- ---- the search after all stations of a road
abbrev pub after_all : Road → Search → Search
after_all r q = after (point_stations r.crossfalls) (after (curves_from 0 (take (length r.tangents - 1) r.tangents)) (after (ends_from 0 r.plan) (after (multiples r.head.step (total r)) (after (total r ∷ []) (after (0 ∷ []) q)))))

pub next-after : (r : Road) (s : ℕ) → (after_all r (record { from = s; least = None })).least ≡ next_listed r s
unfolding next_listed stations
next-after r s =
    sym (ap (added s (point_stations r.crossfalls)) (curve-ends r s _))
    ∙ sym (added-append s (joined (curve_stations r) (count_from 0 (vertex_count r))) (point_stations r.crossfalls) _)
    ∙ ap (λ (l : List ℕ). added s (joined (curve_stations r) (count_from 0 (vertex_count r)) ++ point_stations r.crossfalls) (added s l (added s (multiples r.head.step (total r)) (added s (0 ∷ total r ∷ []) None)))) (sym (element-ends r))
    ∙ sym (added-append s (element_ends r) _ _)
    ∙ sym (added-append s (multiples r.head.step (total r)) _ _)
    ∙ added-none s (stations r)
