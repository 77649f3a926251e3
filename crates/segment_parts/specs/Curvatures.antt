-- The curvature of an element by its two ends says the exact curvature. A clothoid has its neighbours' at its ends, any other element its own at both.
use Rattle.std.specs.Prelude.{◌≡◌, refl, Bool, true, false, ◌&&◌, ◌⊎◌, [], ◌∷◌, ℕ, zero, suc, ◌*◌, ◌≤◌, ◌<◌, length, ℤ, pos, negsuc, nat_abs, ◌-ℤ◌, if◌then◌else◌}
use Rattle.std.proofs.Common.{ap, ap₂, ◌∙◌, inl, inr, arith, le-ltb}
use Rattle.std.proofs.Math.Decide.{dec_lt}
use Rattle.std.proofs.Math.ListN.{get_or-eq_default}
use Rattle.integers.specs.Bridge.{nat, lt! }
use Rattle.integers.specs.Ring.{◌:+◌, ◌:-◌, ◌:*◌, ring, $}
use Rattle.integers.specs.Fraction.{Frac, ◌÷◌, whole, ◌+ᶠ◌, ◌-ᶠ◌, ◌×ᶠ◌, ◌≈ᶠ◌}
use Rattle.integers.specs.Values.{◌then◌, same-value, positive-mul}
use Rattle.integers.specs.Width.{above_zero}
use Rattle.road.specs.Rules.{right_turn, left_turn, same_turn, element_before}
use Rattle.laws_of_lists.specs.Tests.{true_false, and_left, and_right, or_yes}
use Rattle.road.specs.File.{Road, clothoid_kind}
use Rattle.road.specs.declared.Kind.{Kind}
use Rattle.road.specs.declared.Kind.TheVariants as kinds
use Rattle.road.specs.declared.Kind.TheVariants.{Straight, Arc, Clothoid}
use Rattle.laws_of_acceptance.specs.Ranges.{element_in}
use Rattle.laws_of_acceptance.specs.OfKind.{is-arc-kind, is-clothoid-kind}
use Rattle.road.specs.Exact.{blank_element, element_of, is_arc, is_clothoid, element_start, arc_curvature, start_curvature, end_curvature, clothoid_curvature, curvature_on, curvature, from◌to◌}
use Rattle.laws_of_acceptance.specs.Ranged.{Within}
use Rattle.road.specs.declared.Element.{Element}
use Rattle.laws_of_pieces.specs.Curvatures.{OnElement, element-positive, curvature-on}
use Rattle.laws_of_acceptance.specs.Guaranteed.{Guaranteed}
use Rattle.segment.specs.Segment.{value_of, SizedEnd, Joined, from_zero, to_zero, same-arc, egg}
use Rattle.segment.specs.declared.End.{End}
use Rattle.segment.specs.declared.Curvature.{Curvature}
use Rattle.segment_parts.specs.Ends.{turned, turned-size, end_of, curvature_at}

-- evenly from one end to the other, d past the start of a length
abbrev pub between : (S E : Frac) (L : ℕ) (d : ℤ) → Frac
between S E L d = S ×ᶠ ((pos L -ℤ d) ÷ L) +ᶠ E ×ᶠ (d ÷ L)

-- a curvature of element i, whose numbers are small
pub record Curved (r : Road) (i : ℕ) (c : Curvature) : Type 0 where
  pub length : c.length ≡ pos (element_of r i).length
  pub start : SizedEnd c.start
  pub end : SizedEnd c.end
  pub joined : Joined c.start c.end
  pub value : (y : ℕ) → OnElement r i y → curvature r y ≈ᶠ between (value_of c.start) (value_of c.end) (element_of r i).length (from element_start r i to y)

-- ---- fractions
module _ (S E : Frac) (L : ℕ) (d : ℤ) (p_s : 0 < S.den) (p_e : 0 < E.den) (p_l : 0 < L) where
  between-positive : 0 < (between S E L d).den
  between-positive = positive-mul (S.den * L) (E.den * L) (positive-mul S.den L p_s p_l) (positive-mul E.den L p_e p_l)

  two_shares : S +ᶠ (E -ᶠ S) ×ᶠ (d ÷ L) ≈ᶠ between S E L d
  two_shares = record {
    defined = positive-mul S.den (E.den * S.den * L) p_s (positive-mul (E.den * S.den) L (positive-mul E.den S.den p_e p_s) p_l);
    other-defined = between-positive;
    same = ring (S.num ∷ E.num ∷ pos S.den ∷ pos E.den ∷ pos L ∷ d ∷ [])
        (($ 0 :* ($ 3 :* $ 2 :* $ 4) :+ (($ 1 :* $ 2 :- $ 0 :* $ 3) :* $ 5) :* $ 2) :* (($ 2 :* $ 4) :* ($ 3 :* $ 4)))
        ((($ 0 :* ($ 4 :- $ 5)) :* ($ 3 :* $ 4) :+ ($ 1 :* $ 5) :* ($ 2 :* $ 4)) :* ($ 2 :* ($ 3 :* $ 2 :* $ 4))) tt;
  }

one_share : (S : Frac) (L : ℕ) (d : ℤ) → 0 < S.den → 0 < L → S ≈ᶠ between S S L d
one_share S L d p_s p_l = record {
  defined = p_s;
  other-defined = between-positive S S L d p_s p_s p_l;
  same = ring (S.num ∷ pos S.den ∷ pos L ∷ d ∷ []) ($ 0 :* (($ 1 :* $ 2) :* ($ 1 :* $ 2))) ((($ 0 :* ($ 2 :- $ 3)) :* ($ 1 :* $ 2) :+ ($ 0 :* $ 3) :* ($ 1 :* $ 2)) :* $ 1) tt;
}

-- ---- an end
arc-curvature-is : (radius : ℤ) → arc_curvature radius ≡ turned radius ÷ nat_abs radius
arc-curvature-is (pos n) = refl
arc-curvature-is (negsuc n) = refl

end-value : (r : Road) (i : ℕ) → end_curvature r i ≡ value_of (end_of (element_of r i))
unfolding end_curvature
end-value r i = go (is_arc (element_of r i))
  where
    go : (b : Bool) → (if b then arc_curvature (element_of r i).radius else whole (pos 0)) ≡ value_of (if b then record { turn = turned (element_of r i).radius; radius = pos (nat_abs (element_of r i).radius) } else record { turn = pos 0; radius = pos 1 })
    go true = arc-curvature-is (element_of r i).radius
    go false = refl

start-value : (r : Road) (i : ℕ) → start_curvature r i ≡ value_of (end_of (element_before r i))
start-value r zero = refl
start-value r (suc i) = end-value r i

no_turn : (e : Element) → is_arc e ≡ false → (end_of e).turn ≡ pos 0
no_turn e q = rw q

arc-end : (e : Element) → is_arc e ≡ true → end_of e ≡ record { turn = turned e.radius; radius = pos (nat_abs e.radius) }
arc-end e q = rw q

-- arcs of the same turn have one sign
same-turned : (a b : ℤ) → same_turn a b ≡ true → turned a ≡ turned b
same-turned (pos n) (pos m) h = refl
same-turned (negsuc n) (negsuc m) h = refl
same-turned (pos n) (negsuc m) h = absurd (opposed (or_yes _ (left_turn (pos n) && left_turn (negsuc m)) h))
  where
    opposed : ((right_turn (pos n) && right_turn (negsuc m)) ≡ true) ⊎ ((left_turn (pos n) && left_turn (negsuc m)) ≡ true) → ⊥
    opposed (inl e) = true_false _ (and_right (right_turn (pos n)) (right_turn (negsuc m)) e) refl
    opposed (inr e) = true_false _ (and_left (left_turn (pos n)) (left_turn (negsuc m)) e) (le-ltb n 0 (omega arith))
same-turned (negsuc n) (pos m) h = absurd (opposed (or_yes _ (left_turn (negsuc n) && left_turn (pos m)) h))
  where
    opposed : ((right_turn (negsuc n) && right_turn (pos m)) ≡ true) ⊎ ((left_turn (negsuc n) && left_turn (pos m)) ≡ true) → ⊥
    opposed (inl e) = true_false _ (and_left (right_turn (negsuc n)) (right_turn (pos m)) e) refl
    opposed (inr e) = true_false _ (and_right (left_turn (negsuc n)) (left_turn (pos m)) e) (le-ltb m 0 (omega arith))

sized-end : (e : Element) → (is_arc e ≡ true → Within 10000 10000000 (nat_abs e.radius)) → SizedEnd (end_of e)
sized-end e arc = go (is_arc e) refl
  where
    go : (b : Bool) → is_arc e ≡ b → SizedEnd (end_of e)
    go true q =
        let w = arc q in
        let low = w.low in
        rw q (record { turn = omega (arith, turned-size e.radius); radius-low = lt! (nat 0) (nat (nat_abs e.radius)) (omega arith); radius-high = w.high })
    go false q = rw q (record { turn = omega arith; radius-low = lt! (nat 0) (nat 1) (omega arith); radius-high = omega arith })

-- ---- an element by its kind
clothoid-is : (r : Road) (i s : ℕ) → (element_of r i).kind ≡ Clothoid → curvature_on r i s ≡ clothoid_curvature r i s
unfolding curvature_on
clothoid-is r i s e = rw e

clothoid_by : (r : Road) (i y : ℕ)
    → clothoid_curvature r i y ≡ value_of (end_of (element_before r i)) +ᶠ (value_of (end_of (element_of r (suc i))) -ᶠ value_of (end_of (element_before r i))) ×ᶠ ((from element_start r i to y) ÷ (element_of r i).length)
unfolding clothoid_curvature
clothoid_by r i y = ap₂ (λ (S E : Frac). S +ᶠ (E -ᶠ S) ×ᶠ ((from element_start r i to y) ÷ (element_of r i).length)) (start-value r i) (end-value r (suc i))

-- a straight or an arc
own_is : (r : Road) (i s : ℕ) (k : Kind) → (element_of r i).kind ≡ k → (k ≡ kinds.Other → ⊥) → clothoid_kind k ≡ false → curvature_on r i s ≡ end_curvature r i
unfolding curvature_on end_curvature
own_is r i s Straight e named h = rw e
own_is r i s Arc e named h = rw e
own_is r i s Clothoid e named h = absurd (true_false true refl h)
own_is r i s kinds.Other e named h = absurd (named refl)

module _ {r : Road} (G : Guaranteed r) where
  -- past the end of the plan stands no arc
  none-past : (j : ℕ) → length r.plan ≤ j → is_arc (element_of r j) ≡ false
  none-past j h = ap (λ (e : Element). is_arc e) (get_or-eq_default r.plan blank_element h)

  arc-inside : (j : ℕ) → is_arc (element_of r j) ≡ true → j < length r.plan
  arc-inside j q = go (dec_lt j (length r.plan))
    where
      go : Dec (j < length r.plan) → j < length r.plan
      go (yes h) = h
      go (no h) = absurd (true_false (is_arc (element_of r j)) q (none-past j (omega arith)))

  end-sized : (j : ℕ) → SizedEnd (end_of (element_of r j))
  end-sized j = sized-end (element_of r j) (λ q. G.radius j (arc-inside j q) q)

  start-sized : (i : ℕ) → SizedEnd (end_of (element_before r i))
  start-sized zero = sized-end blank_element (λ q. absurd (true_false false q refl))
  start-sized (suc i) = end-sized i

  -- ---- all that is used of the plan's rules: a clothoid between two arcs is an egg
  joined-ends : (i : ℕ) → i < length r.plan → (element_of r i).kind ≡ Clothoid → Joined (end_of (element_before r i)) (end_of (element_of r (suc i)))
  joined-ends zero h e = from_zero refl
  joined-ends (suc i) h e = go (is_arc (element_of r i)) (is_arc (element_of r (suc (suc i)))) refl refl
    where
      go : (b c : Bool) → is_arc (element_of r i) ≡ b → is_arc (element_of r (suc (suc i))) ≡ c → Joined (end_of (element_of r i)) (end_of (element_of r (suc (suc i))))
      go false c p q = from_zero (no_turn (element_of r i) p)
      go true false p q = to_zero (no_turn (element_of r (suc (suc i))) q)
      go true true p q =
          let E = G.egg i (record { within = omega arith; is = is-arc-kind _ p }) (record { within = h; is = e }) (record { within = arc-inside (suc (suc i)) q; is = is-arc-kind _ q }) in
          rw (arc-end (element_of r i) p, arc-end (element_of r (suc (suc i))) q) (egg (same-turned (element_of r i).radius (element_of r (suc (suc i))).radius E.turn) E.first-high E.second-high)

  -- ---- the element
  pub curved : (i : ℕ) → i < length r.plan → Curved r i (curvature_at r i)
  curved i h = go (is_clothoid (element_of r i)) refl
    where
      L : ℕ
      L = (element_of r i).length

      positive : {e : End} → SizedEnd e → 0 < (value_of e).den
      positive {e} z = above_zero e.radius z.radius-low

      go : (b : Bool) → is_clothoid (element_of r i) ≡ b → Curved r i (curvature_at r i)
      go true e = rw e (record {
        length = refl;
        start = start-sized i;
        end = end-sized (suc i);
        joined = joined-ends i h (is-clothoid-kind _ e);
        value = λ y o.
            curvature-on G.accepted_as i y o
            then same-value (element-positive G.accepted_as i y h) (clothoid-is r i y (is-clothoid-kind _ e) ∙ clothoid_by r i y)
            then two_shares (value_of (end_of (element_before r i))) (value_of (end_of (element_of r (suc i)))) L (from element_start r i to y) (positive (start-sized i)) (positive (end-sized (suc i))) (G.element-length i h).low;
      })
      go false e = rw e (record {
        length = refl;
        start = end-sized i;
        end = end-sized i;
        joined = same-arc refl;
        value = λ y o.
            curvature-on G.accepted_as i y o
            then same-value (element-positive G.accepted_as i y h) (own_is r i y (element_of r i).kind refl (element_in G.accepted_as i h).kind e ∙ end-value r i)
            then one_share (value_of (end_of (element_of r i))) L (from element_start r i to y) (positive (end-sized i)) (G.element-length i h).low;
      })
