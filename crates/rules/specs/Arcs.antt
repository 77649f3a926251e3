-- Refusal 19: elements and pairs of ascending points passed together.
use Rattle.std.specs.Prelude.{◌≡◌, Bool, not, ◌&&◌, ◌⊎◌, leb, Option, None, Some}
use Rattle.std.proofs.Math.Path.{refl, ap}
use Rattle.std.proofs.Common.{◌∙◌, inl, inr, leb-true, le-leb, le-ltb}
use Rattle.std.proofs.Math.Bool.{true, false}
use Prim.Native.Nat.{ℕ, zero, suc, ◌-◌, ◌<◌, ◌≤◌}
use native.Mathlib.Omega.{arith}
use Rattle.std.proofs.Math.Decide.{ℕ_discrete, dec_lt}
use Rattle.std.proofs.lemmas.Bool.{not-false}
use Rattle.std.proofs.Math.ListN.{length, get_or-eq_default}
use Rattle.std.proofs.Math.Dec.{ltb}
use Rattle.road.specs.Base.{first_that, last_that, sum_of}
use Rattle.road.specs.File.{Road}
use Rattle.road.specs.declared.Limits.{Limits}
use Rattle.road.specs.Exact.{blank_crossfall, element_of, point_of, element_start, point_at, is_arc}
use Rattle.road.specs.Rules.{changes, changes_between, changes_on, allowed, wrong_superelevation}
use Rattle.laws_of_search.specs.Searches.{first-none, first-clear}
use Rattle.road.specs.declared.Element.{Element}
use Rattle.road.specs.declared.Crossfall.{Crossfall}
use Rattle.superelevation.specs.Shown.{shown_by}
use Rattle.laws_of_search.specs.Last.{rises_to}
use Rattle.laws_of_acceptance.specs.PointsInOrder.{PointOrder, points-rise, pair-at}
use Rattle.laws_of_acceptance.specs.Lists.{element-step}
use Rattle.laws_of_lists.specs.Tests.{true_false, and_yes, or_no, or_yes, or_true}

-- ---- tests

module _ (l : Limits) (r : Road) where
  -- the test of element i and the pair of points j and j + 1
  abbrev pub pair_test : ℕ → ℕ → Bool
  pair_test i j = shown_by l (element_of r i) (element_start r i) (element_start r (suc i)) (point_of r j) (point_of r (suc j))

  abbrev changes_at : ℕ → ℕ → Bool
  changes_at i j = changes_between (element_start r i) (element_start r (suc i)) (point_of r j) (point_of r (suc j))

  abbrev allowed_at : ℕ → ℕ → Bool
  allowed_at i j = allowed l (element_of r i).radius (point_of r j)

pub arc-test : (l : Limits) (r : Road) (i j : ℕ) {e : Element} {low high : ℕ} {p q : Crossfall}
    → e ≡ element_of r i → low ≡ element_start r i → high ≡ element_start r (suc i) → p ≡ point_of r j → q ≡ point_of r (suc j)
    → shown_by l e low high p q ≡ pair_test l r i j
arc-test l r i j a b c d f = rw (a, b, c, d, f)

-- "On an arc a crossfall changes", by the first pair that shows it
change_by : (l : Limits) (r : Road) (i : ℕ) (o : Option ℕ) → first_that (λ k. changes_at l r i k) (length r.crossfalls - 1) ≡ o → changes_on r i ≡ (elim o [ Some j ↦ true | None ↦ false ])
unfolding changes_on
change_by l r i o p = rw (p, changes_on)

-- element i has been tested with the pairs from the one where it begins up to j
pub record Merged (l : Limits) (r : Road) (i j : ℕ) : Type 0 where
  pub pair : 0 < j → suc j < length r.crossfalls
  pub reached : (point_of r j).station ≤ element_start r (suc i)
  pub from : point_at r (element_start r i) ≤ j
  pub clear : (k : ℕ) → point_at r (element_start r i) ≤ k → k < j → pair_test l r i k ≡ false

module _ (l : Limits) (r : Road) (points : PointOrder r) where
  up_to : (i j : ℕ) → i ≤ j → j < length r.crossfalls → (point_of r i).station ≤ (point_of r j).station
  up_to i j h g = rises_to (λ k. (point_of r k).station) (length r.crossfalls - 1) i j (points-rise points) h (omega arith)

  -- without two points there is one place alone
  one_place : (s : ℕ) → length r.crossfalls - 1 ≡ 0 → point_at r s ≡ 0
  unfolding point_at last_that
  one_place s e = rw e

  -- where a station's pair begins
  at_or_before : (s : ℕ) → (point_of r (point_at r s)).station ≤ s
  at_or_before s = go (dec_lt 0 (length r.crossfalls - 1))
    where
      go : Dec (0 < length r.crossfalls - 1) → (point_of r (point_at r s)).station ≤ s
      go (yes h) = (pair-at points s h).from
      go (no n) = let f = points.first in rw (one_place s (omega arith)) (omega arith)

  -- an element's pair of points is the last that begins at or before it
  found_at : (s j : ℕ) → (0 < j → suc j < length r.crossfalls) → (point_of r j).station ≤ s → j ≤ point_at r s
  found_at s zero h g = omega arith
  found_at s (suc j) h g = go (dec_lt (point_at r s) (suc j)) (h (omega arith))
    where
      go : Dec (point_at r s < suc j) → suc (suc j) < length r.crossfalls → suc j ≤ point_at r s
      go (yes y) p = absurd (omega (arith, (pair-at points s (omega arith)).next (omega arith), up_to (suc (point_at r s)) (suc j) y (omega arith)))
      go (no y) p = omega arith

  not_after : (s j : ℕ) → (suc (suc j) < length r.crossfalls → s < (point_of r (suc j)).station) → point_at r s ≤ j
  not_after s j h = go (dec_lt 0 (length r.crossfalls - 1)) (dec_lt j (point_at r s))
    where
      go : Dec (0 < length r.crossfalls - 1) → Dec (j < point_at r s) → point_at r s ≤ j
      go (no n) d = omega (arith, one_place s (omega arith))
      go (yes y) (no d) = omega arith
      go (yes y) (yes d) = let b = pair-at points s y in let w = b.below in absurd (omega (arith, b.from, h (omega arith), up_to (suc j) (point_at r s) d (omega arith)))

  -- what a test that fails says of an arc
  smooth : (i j : ℕ) → is_arc (element_of r i) ≡ true → pair_test l r i j ≡ false → (changes_at l r i j ≡ false) × ((leb (point_of r j).station (element_start r i) && not (allowed_at l r i j)) ≡ false)
  unfolding shown_by
  smooth i j a e = or_no _ _ (rw (a, shown_by) at e)

  -- up to pair j every test has failed, that of j too
  tested : {i j : ℕ} → Merged l r i j → pair_test l r i j ≡ false → (k : ℕ) → point_at r (element_start r i) ≤ k → k ≤ j → pair_test l r i k ≡ false
  tested {i} {j} m e k h g = go (ℕ_discrete k j)
    where
      go : Dec (k ≡ j) → pair_test l r i k ≡ false
      go (yes d) = ap (pair_test l r i) d ∙ e
      go (no n) = m.clear k h (omega (arith, n))

  -- pairs that end before the element begins, or begin after it ends, do not count
  before_it : (i k : ℕ) → (point_of r (suc k)).station ≤ element_start r i → changes_at l r i k ≡ false
  unfolding changes_between
  before_it i k h = go (ltb (point_of r k).station (element_start r (suc i)))
    where
      go : (b : Bool) → ((b && ltb (element_start r i) (point_of r (suc k)).station) && changes (point_of r k) (point_of r (suc k))) ≡ false
      go true = rw (le-ltb _ _ h)
      go false = refl

  after_it : (i k : ℕ) → element_start r (suc i) ≤ (point_of r k).station → changes_at l r i k ≡ false
  unfolding changes_between
  after_it i k h = rw (le-ltb _ _ h)

  module _ (i j : ℕ) (m : Merged l r i j) (e : pair_test l r i j ≡ false) (done : suc (suc j) < length r.crossfalls → element_start r (suc i) < (point_of r (suc j)).station) where
    no_change : is_arc (element_of r i) ≡ true → (k : ℕ) → k < length r.crossfalls - 1 → changes_at l r i k ≡ false
    no_change a k h = go (dec_lt k (point_at r (element_start r i))) (dec_lt j k)
      where
        go : Dec (k < point_at r (element_start r i)) → Dec (j < k) → changes_at l r i k ≡ false
        go (yes u) d = before_it i k (low u m.from)
          where
            low : k < point_at r (element_start r i) → point_at r (element_start r i) ≤ j → (point_of r (suc k)).station ≤ element_start r i
            low u f = let g = m.pair (omega arith) in let x = up_to (suc k) (point_at r (element_start r i)) u (omega arith) in let y = at_or_before (element_start r i) in omega arith
        go (no u) (yes d) = after_it i k (let x = up_to (suc j) k d (omega arith) in let y = done (omega arith) in omega arith)
        go (no u) (no d) = (smooth i k a (tested m e k (omega arith) (omega arith))).0

    right_there : is_arc (element_of r i) ≡ true → allowed_at l r i (point_at r (element_start r i)) ≡ true
    right_there a = not-false _ (rw (le-leb _ _ (at_or_before (element_start r i))) at (smooth i (point_at r (element_start r i)) a (tested m e (point_at r (element_start r i)) (omega arith) m.from)).1)

    -- an element is passed
    pub passed : wrong_superelevation l r i ≡ false
    unfolding wrong_superelevation allowed changes_between
    passed = go (is_arc (element_of r i)) refl
      where
        go : (b : Bool) → is_arc (element_of r i) ≡ b → wrong_superelevation l r i ≡ false
        go false a = rw a
        go true a = rw (a, change_by l r i None (first-clear _ _ (no_change a)), right_there a)

    pub next-element : Merged l r (suc i) j
    next-element =
        let s = element-step r (suc i) in
        let h = m.reached in
        record {
          pair = m.pair;
          reached = omega arith;
          from = not_after (element_start r (suc i)) j done;
          clear = λ k a b. absurd (let f = found_at (element_start r (suc i)) j m.pair m.reached in omega arith);
        }

  pub next-pair : {i j : ℕ} → Merged l r i j → pair_test l r i j ≡ false → suc (suc j) < length r.crossfalls → (point_of r (suc j)).station ≤ element_start r (suc i) → Merged l r i (suc j)
  next-pair {i} {j} m e h g =
      let f = m.from in
      record { pair = λ u. h; reached = g; from = omega arith; clear = λ k a b. tested m e k a (omega arith) }

  pub merged-start : Merged l r 0 0
  unfolding element_start sum_of
  merged-start =
      let f = points.first in
      record {
        pair = λ u. absurd (omega arith);
        reached = omega arith;
        from = not_after (element_start r 0) 0 (λ h. first_above h);
        clear = λ k a b. absurd (omega arith);
      }
    where
      first_above : 2 < length r.crossfalls → element_start r 0 < (point_of r 1).station
      first_above h = let a = points.ascend 0 (omega arith) in omega arith

  -- ---- an arc that fails

  -- a pair with a change lies on the list
  on_list : (i j : ℕ) → (0 < j → suc j < length r.crossfalls) → changes_at l r i j ≡ true → j < length r.crossfalls - 1
  unfolding changes_between
  on_list i j p e = go (dec_lt j (length r.crossfalls - 1))
    where
      go : Dec (j < length r.crossfalls - 1) → j < length r.crossfalls - 1
      go (yes h) = h
      go (no n) =
          let blank : (point_of r (suc j)).station ≡ 0 = ap (λ (x : Crossfall). x.station) (get_or-eq_default r.crossfalls blank_crossfall (late n)) in
          absurd (true_false _ e (before_it i j (omega arith)))
        where
          late : (j < length r.crossfalls - 1 → ⊥) → length r.crossfalls ≤ suc j
          late n = omega arith

  changed : (i j : ℕ) → j < length r.crossfalls - 1 → changes_at l r i j ≡ true → changes_on r i ≡ true
  unfolding changes_between
  changed i j h e = go (first_that (λ k. changes_at l r i k) (length r.crossfalls - 1)) refl
    where
      go : (o : Option ℕ) → first_that (λ k. changes_at l r i k) (length r.crossfalls - 1) ≡ o → changes_on r i ≡ true
      go (Some k) p = change_by l r i (Some k) p
      go None p = absurd (true_false _ e (first-none _ _ p j h))

  pub fails : {i j : ℕ} → Merged l r i j → pair_test l r i j ≡ true → wrong_superelevation l r i ≡ true
  unfolding wrong_superelevation shown_by allowed
  fails {i} {j} m e = go (is_arc (element_of r i)) refl
    where
      change : is_arc (element_of r i) ≡ true → changes_at l r i j ≡ true → wrong_superelevation l r i ≡ true
      change a h = rw (a, changed i j (on_list i j m.pair h) h)

      bad : is_arc (element_of r i) ≡ true → leb (point_of r j).station (element_start r i) ≡ true → not (allowed_at l r i j) ≡ true → wrong_superelevation l r i ≡ true
      bad a h n =
          let f = found_at (element_start r i) j m.pair (leb-true _ _ h) in
          let g = m.from in
          let p : point_at r (element_start r i) ≡ j = omega arith in
          rw (a, p, n) (or_true (changes_on r i))

      go : (b : Bool) → is_arc (element_of r i) ≡ b → wrong_superelevation l r i ≡ true
      go false a = absurd (true_false _ e (rw a))
      go true a = which (or_yes _ _ (rw (a, shown_by) at e))
        where
          which : (changes_at l r i j ≡ true) ⊎ ((leb (point_of r j).station (element_start r i) && not (allowed_at l r i j)) ≡ true) → wrong_superelevation l r i ≡ true
          which (inl h) = change a h
          which (inr h) = let t = and_yes _ _ h in bad a t.0 t.1
