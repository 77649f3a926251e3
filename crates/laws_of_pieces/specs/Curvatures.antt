-- Curvature: at an element's end both elements have one curvature, and a clothoid runs evenly from 0 to its arc's, or back, or from one arc's to another's.
use Rattle.std.specs.Prelude.{◌≡◌, Bool, [], ◌∷◌, ℕ, zero, suc, ◌*◌, ◌≤◌, ◌<◌, length, ℤ, pos, negsuc, nat_abs, ◌-ℤ◌, if◌then◌else◌}
use Rattle.std.proofs.Math.Path.{refl, ap, ap₂}
use Rattle.std.proofs.Common.{sym, ◌∙◌}
use Rattle.std.proofs.Math.Bool.{true, false}
use native.Mathlib.Omega.{arith}
use Rattle.std.proofs.Math.Decide.{dec_lt}
use Rattle.std.proofs.Math.ListN.{get_or-eq_default}
use Rattle.integers.specs.Ring.{◌:+◌, ◌:-◌, ◌:*◌, #, ring, $}
use Rattle.integers.specs.Fraction.{Frac, ◌÷◌, whole, ◌+ᶠ◌, ◌-ᶠ◌, ◌×ᶠ◌, ◌≈ᶠ◌}
use Rattle.integers.specs.Values.{positive-mul, same-value, other_way, ◌then◌}
use Rattle.road.specs.File.{Road}
use Rattle.road.specs.declared.Kind.{Kind}
use Rattle.road.specs.declared.Kind.TheVariants as kinds
use Rattle.road.specs.declared.Kind.TheVariants.{Straight, Arc, Clothoid}
use Rattle.road.specs.Exact.{blank_element, element_of, element_start, element_at, is_straight, is_arc, is_clothoid, arc_curvature, end_curvature, start_curvature, clothoid_curvature, curvature_on, curvature, from◌to◌}
use Rattle.road.specs.Rules.{element_before}
use Rattle.laws_of_acceptance.specs.OfKind.{is-arc-kind, is-clothoid-kind}
use Rattle.laws_of_acceptance.specs.PlanOrder.{Stands, PlanOrder}
use Rattle.laws_of_acceptance.specs.Positive.{Accepted, plan_ordered}
use Rattle.laws_of_acceptance.specs.Lists.{element-step}
use Rattle.std.proofs.lemmas.Bool.{both_ways}
use Rattle.laws_of_acceptance.specs.Ranges.{element_in}
use Rattle.laws_of_pieces.specs.Joints.{none_from, ahead_by}
use Rattle.laws_of_search.specs.Items.{EndToEnd, value-at}
use Rattle.laws_of_search.specs.Small.{from-rest}

pub record OnElement (r : Road) (i s : ℕ) : Type 0 where
  pub place : i < length r.plan
  pub low : element_start r i ≤ s
  pub high : s ≤ element_start r (suc i)

-- ---- evenly from S to E over a length L, at u past its start
abbrev pub evenly : (S E : Frac) (u : ℤ) (L : ℕ) → Frac
evenly S E u L = S +ᶠ (E -ᶠ S) ×ᶠ (u ÷ L)

module _ (S E : Frac) (u : ℤ) (L : ℕ) (p_s : 0 < S.den) (p_e : 0 < E.den) (p_l : 0 < L) where
  evenly-positive : 0 < (evenly S E u L).den
  evenly-positive = positive-mul S.den (E.den * S.den * L) p_s (positive-mul (E.den * S.den) L (positive-mul E.den S.den p_e p_s) p_l)

  evenly-start : u ≡ pos 0 → evenly S E u L ≈ᶠ S
  evenly-start e = record {
    defined = evenly-positive;
    other-defined = p_s;
    same = rw e (ring (S.num ∷ E.num ∷ pos S.den ∷ pos E.den ∷ pos L ∷ [])
        (($ 0 :* ($ 3 :* $ 2 :* $ 4) :+ (($ 1 :* $ 2 :- $ 0 :* $ 3) :* # 0) :* $ 2) :* $ 2) ($ 0 :* ($ 2 :* ($ 3 :* $ 2 :* $ 4))) tt);
  }

  evenly-end : u ≡ pos L → evenly S E u L ≈ᶠ E
  evenly-end e = record {
    defined = evenly-positive;
    other-defined = p_e;
    same = rw e (ring (S.num ∷ E.num ∷ pos S.den ∷ pos E.den ∷ pos L ∷ [])
        (($ 0 :* ($ 3 :* $ 2 :* $ 4) :+ (($ 1 :* $ 2 :- $ 0 :* $ 3) :* $ 4) :* $ 2) :* $ 3) ($ 1 :* ($ 2 :* ($ 3 :* $ 2 :* $ 4))) tt);
  }

-- from 0, and to 0
evenly_in : (E : Frac) (u : ℤ) (L : ℕ) → 0 < E.den → 0 < L → evenly (whole (pos 0)) E u L ≈ᶠ E ×ᶠ (u ÷ L)
evenly_in E u L p_e p_l = record {
  defined = evenly-positive (whole (pos 0)) E u L (omega arith) p_e p_l;
  other-defined = positive-mul E.den L p_e p_l;
  same = ring (E.num ∷ u ∷ pos E.den ∷ pos L ∷ [])
      ((# 0 :* ($ 2 :* # 1 :* $ 3) :+ (($ 0 :* # 1 :- # 0 :* $ 2) :* $ 1) :* # 1) :* ($ 2 :* $ 3)) (($ 0 :* $ 1) :* (# 1 :* ($ 2 :* # 1 :* $ 3))) tt;
}

evenly-out : (S : Frac) (u w : ℤ) (L : ℕ) → 0 < S.den → 0 < L → w ≡ pos L -ℤ u → evenly S (whole (pos 0)) u L ≈ᶠ S ×ᶠ (w ÷ L)
evenly-out S u w L p_s p_l e = record {
  defined = evenly-positive S (whole (pos 0)) u L p_s (omega arith) p_l;
  other-defined = positive-mul S.den L p_s p_l;
  same = rw e (ring (S.num ∷ u ∷ pos S.den ∷ pos L ∷ [])
      (($ 0 :* (# 1 :* $ 2 :* $ 3) :+ ((# 0 :* $ 2 :- $ 0 :* # 1) :* $ 1) :* $ 2) :* ($ 2 :* $ 3)) (($ 0 :* ($ 3 :- $ 1)) :* ($ 2 :* (# 1 :* $ 2 :* $ 3))) tt);
}

-- ---- an element by its kind
module _ (r : Road) (i : ℕ) where
  on-straight : (s : ℕ) → is_straight (element_of r i) ≡ true → curvature_on r i s ≡ whole (pos 0)
  unfolding curvature_on
  on-straight s e = rw e

  on-arc : (s : ℕ) → (element_of r i).kind ≡ Arc → curvature_on r i s ≡ arc_curvature (element_of r i).radius
  unfolding curvature_on
  on-arc s e = rw e

  pub on-clothoid : (s : ℕ) → (element_of r i).kind ≡ Clothoid → curvature_on r i s ≡ clothoid_curvature r i s
  unfolding curvature_on
  on-clothoid s e = rw e

  -- a straight's and an arc's own
  pub on-own : (s : ℕ) → ((element_of r i).kind ≡ kinds.Other → ⊥) → is_clothoid (element_of r i) ≡ false → curvature_on r i s ≡ end_curvature r i
  unfolding curvature_on end_curvature
  on-own s named o = go (element_of r i).kind refl
    where
      go : (k : Kind) → (element_of r i).kind ≡ k → curvature_on r i s ≡ end_curvature r i
      go Straight e = rw e
      go Arc e = rw e
      go Clothoid e = absurd (both_ways (is_clothoid (element_of r i)) o (rw e))
      go kinds.Other e = absurd (named e)

  end_zero : is_arc (element_of r i) ≡ false → end_curvature r i ≡ whole (pos 0)
  unfolding end_curvature
  end_zero e = rw e

  end-arc : is_arc (element_of r i) ≡ true → end_curvature r i ≡ arc_curvature (element_of r i).radius
  unfolding end_curvature
  end-arc e = rw e

start_zero : (r : Road) (i : ℕ) → is_arc (element_before r i) ≡ false → start_curvature r i ≡ whole (pos 0)
start_zero r zero e = refl
start_zero r (suc i) e = end_zero r i e

-- ---- denominators
arc-curvature-positive : (radius : ℤ) → 0 < nat_abs radius → 0 < (arc_curvature radius).den
arc-curvature-positive (pos b) h = h
arc-curvature-positive (negsuc b) h = omega arith

-- past the end of the plan there is no arc
arc-within : (r : Road) (i : ℕ) → is_arc (element_of r i) ≡ true → i < length r.plan
arc-within r i e = go (dec_lt i (length r.plan))
  where
    none-past : length r.plan ≤ i → is_arc (element_of r i) ≡ false
    none-past h = ap is_arc (get_or-eq_default r.plan blank_element h)

    go : Dec (i < length r.plan) → i < length r.plan
    go (yes h) = h
    go (no h) = absurd (both_ways (is_arc (element_of r i)) (none-past (omega arith)) e)

module _ {r : Road} (A : Accepted r) where
  order : PlanOrder r
  order = plan_ordered A

  arc-positive : (i : ℕ) → i < length r.plan → is_arc (element_of r i) ≡ true → 0 < (arc_curvature (element_of r i).radius).den
  arc-positive i h e = arc-curvature-positive (element_of r i).radius (omega (arith, ((element_in A i h).radius.arc e).low))

  end-positive : (i : ℕ) → 0 < (end_curvature r i).den
  unfolding end_curvature
  end-positive i = go (is_arc (element_of r i)) refl
    where
      go : (b : Bool) → is_arc (element_of r i) ≡ b → 0 < (if b then arc_curvature (element_of r i).radius else whole (pos 0)).den
      go true e = arc-positive i (arc-within r i e) e
      go false e = omega arith

  start-positive : (i : ℕ) → 0 < (start_curvature r i).den
  start-positive zero = omega arith
  start-positive (suc i) = end-positive i

  clothoid-positive : (i s : ℕ) → i < length r.plan → 0 < (clothoid_curvature r i s).den
  unfolding clothoid_curvature
  clothoid-positive i s h =
      let a = start-positive i in
      let b = end-positive (suc i) in
      positive-mul (start_curvature r i).den ((end_curvature r (suc i)).den * (start_curvature r i).den * (element_of r i).length) a
      (positive-mul ((end_curvature r (suc i)).den * (start_curvature r i).den) (element_of r i).length (positive-mul (end_curvature r (suc i)).den (start_curvature r i).den b a) (element_in A i h).length.low)

  pub element-positive : (i s : ℕ) → i < length r.plan → 0 < (curvature_on r i s).den
  unfolding curvature_on
  element-positive i s h = by (is_straight (element_of r i)) (is_arc (element_of r i)) refl
    where
      by : (a b : Bool) → is_arc (element_of r i) ≡ b → 0 < (if a then whole (pos 0) else (if b then arc_curvature (element_of r i).radius else clothoid_curvature r i s)).den
      by true b q = omega arith
      by false true q = arc-positive i h q
      by false false q = clothoid-positive i s h

  -- ---- a clothoid at its ends
  pub clothoid-start : (i s : ℕ) → i < length r.plan → s ≡ element_start r i → clothoid_curvature r i s ≈ᶠ start_curvature r i
  unfolding clothoid_curvature
  clothoid-start i s h e =
      evenly-start (start_curvature r i) (end_curvature r (suc i)) (from element_start r i to s) (element_of r i).length (start-positive i) (end-positive (suc i)) (element_in A i h).length.low (none_from (element_start r i) s e)

  pub clothoid-end : (i s : ℕ) → i < length r.plan → s ≡ element_start r (suc i) → clothoid_curvature r i s ≈ᶠ end_curvature r (suc i)
  unfolding clothoid_curvature
  clothoid-end i s h e =
      evenly-end (start_curvature r i) (end_curvature r (suc i)) (from element_start r i to s) (element_of r i).length (start-positive i) (end-positive (suc i)) (element_in A i h).length.low
      (ahead_by (element_start r i) s (element_of r i).length (e ∙ element-step r i))

  -- ---- where two elements meet: a clothoid has there what its neighbour gives
  clothoid-before : (i s : ℕ) → suc i < length r.plan → s ≡ element_start r (suc i) → (element_of r i).kind ≡ Clothoid → curvature_on r i s ≈ᶠ end_curvature r (suc i)
  clothoid-before i s h e k = same-value (element-positive i s (omega arith)) (on-clothoid r i s k) then clothoid-end i s (omega arith) e

  clothoid-after : (i s : ℕ) → suc i < length r.plan → s ≡ element_start r (suc i) → (element_of r (suc i)).kind ≡ Clothoid → end_curvature r i ≈ᶠ curvature_on r (suc i) s
  clothoid-after i s h e k = other_way (same-value (element-positive (suc i) s h) (on-clothoid r (suc i) s k) then clothoid-start (suc i) s h e)

  pub elements_meet : (i s : ℕ) → suc i < length r.plan → s ≡ element_start r (suc i) → curvature_on r i s ≈ᶠ curvature_on r (suc i) s
  elements_meet i s h e = go (element_of r i).kind refl
    where
      into : Stands r Clothoid (suc i) → is_clothoid (element_of r i) ≡ false → curvature_on r i s ≈ᶠ curvature_on r (suc i) s
      into c o = same-value (element-positive i s (omega arith)) (on-own r i s (element_in A i (omega arith)).kind o) then clothoid-after i s h e c.is

      -- 0 where two clothoids meet
      behind : (element_of r i).kind ≡ Clothoid → (b : Bool) → is_clothoid (element_of r (suc i)) ≡ b → curvature_on r i s ≈ᶠ curvature_on r (suc i) s
      behind k false o = clothoid-before i s h e k then same-value (end-positive (suc i)) (sym (on-own r (suc i) s (element_in A (suc i) h).kind o))
      behind k true o =
          let q = is-clothoid-kind (element_of r (suc i)).kind o in
          clothoid-before i s h e k then same-value (end-positive (suc i)) (end_zero r (suc i) (rw q) ∙ sym (end_zero r i (rw k))) then clothoid-after i s h e q

      go : (k : Kind) → (element_of r i).kind ≡ k → curvature_on r i s ≈ᶠ curvature_on r (suc i) s
      go Straight k = into (order.straight i (record { within = omega arith; is = k }) h) (rw k)
      go Arc k = into (order.arc i (record { within = omega arith; is = k })) (rw k)
      go Clothoid k = behind k (is_clothoid (element_of r (suc i))) refl
      go kinds.Other k = absurd ((element_in A i (omega arith)).kind k)

  -- the exact curvature at a station is that of any element that has the station
  elements : EndToEnd (element_start r) (length r.plan) (curvature_on r)
  elements = record {
    ascends = λ i h. omega (arith, element-step r i, (element_in A i h).length.low);
    positive = element-positive;
    joint = elements_meet;
  }

  pub curvature-on : (i s : ℕ) → OnElement r i s → curvature r s ≈ᶠ curvature_on r i s
  unfolding curvature element_at
  curvature-on i s o = value-at elements i s o.place o.low o.high

  -- ---- "Curvature is 0 on straights, 10⁹/R on arcs", ends included
  pub straight-curvature : (i s : ℕ) → OnElement r i s → is_straight (element_of r i) ≡ true → curvature r s ≈ᶠ whole (pos 0)
  straight-curvature i s o e = curvature-on i s o then same-value (element-positive i s o.place) (on-straight r i s e)

  pub arc-curvature : (i s : ℕ) → OnElement r i s → is_arc (element_of r i) ≡ true → curvature r s ≈ᶠ arc_curvature (element_of r i).radius
  arc-curvature i s o e = curvature-on i s o then same-value (element-positive i s o.place) (on-arc r i s (is-arc-kind (element_of r i).kind e))

  -- ---- "A clothoid therefore carries the curvature at both of its ends"
  module _ (i s : ℕ) (o : OnElement r i s) (c : is_clothoid (element_of r i) ≡ true) where
    by_ends : {S E : Frac} → start_curvature r i ≡ S → end_curvature r (suc i) ≡ E → curvature r s ≈ᶠ evenly S E (from element_start r i to s) (element_of r i).length
    unfolding clothoid_curvature
    by_ends p q =
        curvature-on i s o
        then same-value (element-positive i s o.place) (on-clothoid r i s (is-clothoid-kind (element_of r i).kind c) ∙ ap₂ (λ (x y : Frac). evenly x y (from element_start r i to s) (element_of r i).length) p q)

    -- "on a clothoid its arc's 10⁹/R × distance from the clothoid's straight end / clothoid length": the arc follows it, and none stands before it
    pub clothoid_in : is_arc (element_before r i) ≡ false → is_arc (element_of r (suc i)) ≡ true → curvature r s ≈ᶠ arc_curvature (element_of r (suc i)).radius ×ᶠ ((from element_start r i to s) ÷ (element_of r i).length)
    clothoid_in n e =
        by_ends (start_zero r i n) (end-arc r (suc i) e)
        then evenly_in (arc_curvature (element_of r (suc i)).radius) (from element_start r i to s) (element_of r i).length (arc-positive (suc i) (arc-within r (suc i) e) e) (element_in A i o.place).length.low

  -- the arc stands before it, and none follows it
  pub clothoid-out : (i s : ℕ) → OnElement r (suc i) s → is_clothoid (element_of r (suc i)) ≡ true → is_arc (element_of r i) ≡ true → is_arc (element_of r (suc (suc i))) ≡ false
      → curvature r s ≈ᶠ arc_curvature (element_of r i).radius ×ᶠ ((from s to element_start r (suc (suc i))) ÷ (element_of r (suc i)).length)
  clothoid-out i s o c e n =
      by_ends (suc i) s o c (end-arc r i e) (end_zero r (suc (suc i)) n)
      then evenly-out (arc_curvature (element_of r i).radius) (from element_start r (suc i) to s) (from s to element_start r (suc (suc i))) (element_of r (suc i)).length (arc-positive i (arc-within r i e) e) (element_in A (suc i) o.place).length.low
      (from-rest (element_start r (suc i)) s (element_of r (suc i)).length (element_start r (suc (suc i))) (element-step r (suc i)))

  -- an egg: "its curvature runs evenly from one to the other"
  pub egg-curvature : (i s : ℕ) → OnElement r (suc i) s → is_clothoid (element_of r (suc i)) ≡ true → is_arc (element_of r i) ≡ true → is_arc (element_of r (suc (suc i))) ≡ true
      → curvature r s ≈ᶠ evenly (arc_curvature (element_of r i).radius) (arc_curvature (element_of r (suc (suc i))).radius) (from element_start r (suc i) to s) (element_of r (suc i)).length
  egg-curvature i s o c e f = by_ends (suc i) s o c (end-arc r i e) (end-arc r (suc (suc i)) f)

  -- a pair: "with curvature 0 where they meet"
  pub pair-meets : (i : ℕ) → suc i < length r.plan → is_clothoid (element_of r i) ≡ true → is_clothoid (element_of r (suc i)) ≡ true → curvature r (element_start r (suc i)) ≈ᶠ whole (pos 0)
  pair-meets i h c d =
      curvature-on i (element_start r (suc i)) (record { place = omega arith; low = omega (arith, element-step r i); high = omega arith })
      then clothoid-before i (element_start r (suc i)) h refl (is-clothoid-kind (element_of r i).kind c)
      then same-value (end-positive (suc i)) (end_zero r (suc i) (rw (is-clothoid-kind (element_of r (suc i)).kind d)))
