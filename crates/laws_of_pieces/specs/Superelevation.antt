-- Document 01, refusal 19: its test holds exactly where the exact crossfall is constant on the whole arc, ends included, and right there.
use Rattle.std.specs.Prelude.{◌≡◌, refl, Bool, true, false, not, ◌&&◌, ◌||◌, ◌⊎◌, ◌↔◌, [], ◌∷◌, length, T, ltb, leb, ℤ, nat_abs, neg_ℤ, ◌+ℤ◌, ◌-ℤ◌, ◌*ℤ◌, ◌<ℤ◌, IsSomeAnd, Option, None, Some}
use Rattle.std.proofs.Common.{sym, ap₂, ◌∙◌, subst, inl, inr, ltb-true, lt-ltb, leb-true, le-leb, eqb-true, eq-eqb}
use Rattle.std.proofs.Math.Path.{ap}
use Prim.Native.Nat.{ℕ, zero, suc, ◌+◌, ◌*◌, ◌-◌, ◌≤◌, ◌<◌, min, max}
use native.Mathlib.Omega.{arith}
use Rattle.std.proofs.Math.Decide.{dec_le}
use Rattle.std.proofs.lemmas.Bool.{not-false, and_from, and_parts, or_cases, or_parts}
use Rattle.std.proofs.Math.IntN.{pos}
use Rattle.std.specs.Int.Signed.{lt_z}
use Rattle.integers.specs.Bridge.{int, ◌⊖◌, eq!, abs?}
use Rattle.integers.specs.Ring.{◌:+◌, ◌:-◌, ◌:*◌, #, ring, $}
use Rattle.integers.specs.Fraction.{whole, ◌≈ᶠ◌}
use Rattle.integers.specs.Values.{cancel, same-value, other_way, ◌then◌}
use Rattle.road.specs.Base.{first_that}
use Rattle.road.specs.File.{Road}
use Rattle.std.specs.Option.{option_map_or}
use Rattle.road.specs.Limits.{limits}
use Rattle.road.specs.declared.Limits.{Limits}
use Rattle.road.specs.Exact.{element_of, is_arc, element_start, total, point_of, point_at, Side, left, right, crossfall_of, crossfall_by, crossfall, from◌to◌}
use Rattle.road.specs.Rules.{eq_z, changes, meets, changes_between, changes_on, inner, superelevated, crowned, allowed, wrong_superelevation}
use Rattle.laws_of_search.specs.Searches.{first-none, first-clear}
use Rattle.road.specs.declared.Rule.TheVariants as rule
use Rattle.laws_of_acceptance.specs.Lists.{element-step}
use Rattle.road.specs.declared.Crossfall.{Crossfall}
use Rattle.std.proofs.Math.Bool.{or-true}
use Rattle.laws_of_acceptance.specs.Positive.{Accepted, points_ordered}
use Rattle.laws_of_acceptance.specs.Facts.{elements_rise}
use Rattle.laws_of_acceptance.specs.PointsInOrder.{PointOrder, points-rise, pair-at}
use Rattle.laws_of_acceptance.specs.Ranges.{element_in}
use Rattle.laws_of_search.specs.Last.{rises_to, Begun, begun-before}
use Rattle.laws_of_pieces.specs.Crossfalls.{by_positive, crossfall_by_lem}

-- the whole numbers of the tests
eq_z_true : (a b : ℤ) → eq_z a b ≡ true → a ≡ b
eq_z_true a b e = let w = abs? (int a ⊖ int b) 0 (omega (arith, eqb-true (nat_abs (a -ℤ b)) 0 e)) in eq! (int a) (int b) (omega arith)

eq_z-same : (a b : ℤ) → a ≡ b → eq_z a b ≡ true
eq_z-same a b e = eq-eqb (nat_abs (a -ℤ b)) 0 (rw e (ap nat_abs (ring (b ∷ []) ($ 0 :- $ 0) (# 0) tt)))

-- element i meets the part from point j to the next, and there a crossfall changes
abbrev meets_at : Road → ℕ → ℕ → Bool
meets_at r i j = meets (element_start r i) (element_start r (suc i)) (point_of r j) (point_of r (suc j))

abbrev changes_at : Road → ℕ → Bool
changes_at r j = changes (point_of r j) (point_of r (suc j))

-- from point j to the next no crossfall changes
abbrev Same : Road → ℕ → Type 0
Same r j = (d : Side) → crossfall_of d (point_of r j) ≡ crossfall_of d (point_of r (suc j))

abbrev differs : Road → ℕ → Side → Bool
differs r j d = not (eq_z (crossfall_of d (point_of r j)) (crossfall_of d (point_of r (suc j))))

changes-same : (r : Road) (j : ℕ) → changes_at r j ≡ false → Same r j
changes-same r j e left = eq_z_true _ _ (not-false _ (or_parts (differs r j left) (differs r j right) e).0)
changes-same r j e right = eq_z_true _ _ (not-false _ (or_parts (differs r j left) (differs r j right) e).1)

same-changes : (r : Road) (j : ℕ) → Same r j → changes_at r j ≡ false
same-changes r j h = rw (eq_z-same _ _ (h left), eq_z-same _ _ (h right))

-- "On an arc a crossfall changes": at no pair of points that has more than one station in common with it
changes-on : (r : Road) (i : ℕ) → (changes_on r i ≡ false) ↔ ((j : ℕ) → j < length r.crossfalls - 1 → (meets_at r i j && changes_at r j) ≡ false)
unfolding changes_on changes_between
changes-on r i = (there, λ h. rw (first-clear (λ j. meets_at r i j && changes_at r j) (length r.crossfalls - 1) h, changes_on))
  where
    there : changes_on r i ≡ false → (j : ℕ) → j < length r.crossfalls - 1 → (meets_at r i j && changes_at r j) ≡ false
    there e = go (first_that (λ j. meets_at r i j && changes_at r j) (length r.crossfalls - 1)) refl e
      where
        go : (o : Option ℕ) → first_that (λ j. meets_at r i j && changes_at r j) (length r.crossfalls - 1) ≡ o → elim o [ Some j ↦ true | None ↦ false ] ≡ false → (j : ℕ) → j < length r.crossfalls - 1 → (meets_at r i j && changes_at r j) ≡ false
        go (Some k) p q = absurd cc
        go None p q = first-none (λ j. meets_at r i j && changes_at r j) (length r.crossfalls - 1) p

-- a pair of points with one crossfall
flat-pair : (c c' u : ℤ) (k : ℕ) → c ≡ c' → (c *ℤ pos k +ℤ ((c' -ℤ c) *ℤ u) *ℤ pos 1) *ℤ pos 1 ≡ c *ℤ pos (1 * k)
flat-pair c c' u k e = rw e (ring (c' ∷ u ∷ pos k ∷ []) (($ 0 :* $ 2 :+ (($ 0 :- $ 0) :* $ 1) :* # 1) :* # 1) ($ 0 :* (# 1 :* $ 2)) tt)

-- a pair with one value at two stations has one crossfall
two-stations : (c c' x y z : ℤ) (k g : ℕ) → 0 < g → y ≡ x +ℤ pos g
    → (c *ℤ pos k +ℤ ((c' -ℤ c) *ℤ x) *ℤ pos 1) *ℤ pos 1 ≡ z → (c *ℤ pos k +ℤ ((c' -ℤ c) *ℤ y) *ℤ pos 1) *ℤ pos 1 ≡ z → c ≡ c'
two-stations c c' x y z k g p e hx hy = cancel g c c' p
    (ring (c ∷ c' ∷ pos g ∷ z ∷ []) ($ 0 :* $ 2) ($ 0 :* $ 2 :+ ($ 3 :- $ 3)) tt
    ∙ ap₂ (λ (m n : ℤ). c *ℤ pos g +ℤ (m -ℤ n)) (sym hy) (sym hx)
    ∙ rw e (ring (c ∷ c' ∷ x ∷ pos k ∷ pos g ∷ [])
    ($ 0 :* $ 4 :+ (($ 0 :* $ 3 :+ (($ 1 :- $ 0) :* ($ 2 :+ $ 4)) :* # 1) :* # 1 :- ($ 0 :* $ 3 :+ (($ 1 :- $ 0) :* $ 2) :* # 1) :* # 1)) ($ 1 :* $ 4) tt))

-- ---- the crossfall is constant on a whole element, ends included: at each station it is that of the point at the element's start
unfoldable pub Constant : Road → ℕ → Type 0
Constant r i = (d : Side) (s : ℕ) → element_start r i ≤ s → s ≤ element_start r (suc i) → crossfall d r s ≈ᶠ whole (crossfall_of d (point_of r (point_at r (element_start r i))))

module _ {r : Road} (P : PointOrder r) (two : 2 ≤ length r.crossfalls) (i : ℕ) (long : element_start r i < element_start r (suc i)) (within : element_start r (suc i) ≤ total r) where
  abbrev a : ℕ
  a = element_start r i

  abbrev b : ℕ
  b = element_start r (suc i)

  abbrev m : ℕ
  m = length r.crossfalls - 1

  abbrev place : ℕ → ℕ
  place j = (point_of r j).station

  point_of_lem : (t : ℕ) → Begun place m t (point_at r t)
  point_of_lem t = pair-at P t (omega arith)

  before-next : (t : ℕ) → t < b → t < place (suc (point_at r t))
  before-next t h = begun-before (point_of_lem t) (omega (arith, P.last m (omega arith)))

  meet_between : (j : ℕ) → place j < b → a < place (suc j) → meets_at r i j ≡ true
  meet_between j l u = and_from (ltb (place j) b) (ltb a (place (suc j))) (lt-ltb (place j) b l) (lt-ltb a (place (suc j)) u)

  module _ (kept : (j : ℕ) → j < m → (meets_at r i j && changes_at r j) ≡ false) where
    unchanged : (j : ℕ) → j < m → place j < b → a < place (suc j) → Same r j
    unchanged j h l u = changes-same r j (go (meets_at r i j) (meet_between j l u) (kept j h))
      where
        go : (c : Bool) → c ≡ true → (c && changes_at r j) ≡ false → changes_at r j ≡ false
        go true e f = f
        go false e f = absurd cc

    -- from the point at the start to the point at t
    module _ (d : Side) (t : ℕ) (from-a : a ≤ t) (before-b : t < b) where
      abbrev j0 : ℕ
      j0 = point_at r a

      abbrev j1 : ℕ
      j1 = point_at r t

      upto : (k : ℕ) → j0 + k ≤ j1 → crossfall_of d (point_of r (j0 + k)) ≡ crossfall_of d (point_of r j0)
      upto zero h = ap (λ (k : ℕ). crossfall_of d (point_of r k)) (omega arith)
      upto (suc k) h =
          let l = (point_of_lem t).below in
          let n = (point_of_lem t).from in
          let low = rises_to place m (j0 + k) j1 (points-rise P) (omega arith) (omega arith) in
          let high = rises_to place m (suc j0) (suc (j0 + k)) (points-rise P) (omega arith) (omega arith) in
          let e : j0 + suc k ≡ suc (j0 + k) = omega arith in
          ap (λ (k : ℕ). crossfall_of d (point_of r k)) e
          ∙ sym (unchanged (j0 + k) (omega arith) (omega arith) (omega (arith, before-next a long)) d)
          ∙ upto k (omega arith)

      not_before : j0 ≤ j1
      not_before = go (dec_le j0 j1)
        where
          go : Dec (j0 ≤ j1) → j0 ≤ j1
          go (yes y) = y
          go (no y) =
              let l = (point_of_lem a).below in
              let n = (point_of_lem a).from in
              absurd (omega (arith, before-next t before-b, rises_to place m (suc j1) j0 (points-rise P) (omega arith) (omega arith)))

      flat-at : (s : ℕ) → t ≤ s → s ≤ suc t → crossfall d r s ≈ᶠ whole (crossfall_of d (point_of r j0))
      unfolding crossfall_by
      flat-at s l u =
          let p = (point_of_lem t).below in
          let n = (point_of_lem t).from in
          let o = before-next t before-b in
          let e : j0 + (j1 - j0) ≡ j1 = let q = not_before in omega arith in
          crossfall_by_lem P d j1 s (record { place = omega arith; low = omega arith; high = omega arith })
          then record {
            defined = by_positive P d j1 s (omega arith);
            other-defined = omega arith;
            same = flat-pair (crossfall_of d (point_of r j1)) (crossfall_of d (point_of r (suc j1))) (from place j1 to s) (place (suc j1) - place j1) (unchanged j1 p (omega arith) (omega arith) d);
          }
          then same-value (omega arith) (ap (λ (k : ℕ). whole (crossfall_of d (point_of r k))) (sym e) ∙ ap whole (upto (j1 - j0) (omega arith)))

  constant_if : ((j : ℕ) → j < m → (meets_at r i j && changes_at r j) ≡ false) → Constant r i
  unfolding Constant
  constant_if kept d s l u = let t : ℕ = min s (b - 1) in flat-at kept d t (omega arith) (omega arith) s (omega arith) (omega arith)

  -- where it is constant, no pair that the arc meets changes
  pair_same : Constant r i → (j : ℕ) → j < m → place j < b → a < place (suc j) → Same r j
  unfolding Constant crossfall_by
  pair_same c j h l u d =
      let x : ℕ = max a (place j) in
      let y : ℕ = min b (place (suc j)) in
      let w = P.ascend j (omega arith) in
      let z = whole (crossfall_of d (point_of r (point_at r a))) in
      let at : (s : ℕ) → x ≤ s → s ≤ y → crossfall_by d r j s ≈ᶠ z = λ s p q. other_way (crossfall_by_lem P d j s (record { place = omega arith; low = omega arith; high = omega arith })) then c d s (omega arith) (omega arith) in
      two-stations (crossfall_of d (point_of r j)) (crossfall_of d (point_of r (suc j))) (from place j to x) (from place j to y) _ (place (suc j) - place j) (y - x) (omega arith)
      (further (place j) x y (omega arith)) (at x (omega arith) (omega arith)).same (at y (omega arith) (omega arith)).same
    where
      further : (p x y : ℕ) → x ≤ y → (from p to y) ≡ (from p to x) +ℤ pos (y - x)
      further p x y l = let e : y ≡ x + (y - x) = omega arith in ap (λ (k : ℕ). from p to k) e ∙ ring (pos p ∷ pos x ∷ pos (y - x) ∷ []) ($ 1 :+ $ 2 :- $ 0) (($ 1 :- $ 0) :+ $ 2) tt

  unchanged_if : Constant r i → (j : ℕ) → j < m → (meets_at r i j && changes_at r j) ≡ false
  unchanged_if c j h = go (meets_at r i j) refl
    where
      go : (e : Bool) → meets_at r i j ≡ e → (e && changes_at r j) ≡ false
      go false q = refl
      go true q =
          same-changes r j (pair_same c j h (ltb-true (place j) b (and_parts (ltb (place j) b) (ltb a (place (suc j))) q).0) (ltb-true a (place (suc j)) (and_parts (ltb (place j) b) (ltb a (place (suc j))) q).1))

  -- so the test of "On an arc a crossfall changes", which looks at pairs of points, speaks of every station
  pub constant_iff : (changes_on r i ≡ false) ↔ Constant r i
  constant_iff = (λ e. constant_if ((changes-on r i).0 e), λ c. (changes-on r i).1 (unchanged_if c))

-- ---- "and right there"

-- "left = −right with the inner side negative"
pub record Superelevated (radius : ℤ) (p : Crossfall) : Type 0 where
  pub opposite : p.left ≡ neg_ℤ p.right
  pub inward : crossfall_of (inner radius) p <ℤ pos 0

-- "−25,000 on both sides with radius, unsigned, at least R'", where there is such a radius
pub record Crowned (l : Limits) (radius : ℤ) (p : Crossfall) : Type 0 where
  pub left_side : p.left ≡ neg_ℤ (pos l.crown)
  pub right_side : p.right ≡ neg_ℤ (pos l.crown)
  pub wide : IsSomeAnd l.radius_both (λ least. least ≤ nat_abs radius)

negative : (a : ℤ) → (lt_z a (pos 0) ≡ true) ↔ (a <ℤ pos 0)
negative a = (λ e. record { lt = subst T (sym e) tt }, λ h. go (lt_z a (pos 0)) h.lt)
  where
    go : (c : Bool) → T c → c ≡ true
    go true t = refl
    go false t = absurd t

superelevated_iff : (radius : ℤ) (p : Crossfall) → (superelevated radius p ≡ true) ↔ Superelevated radius p
superelevated_iff radius p = (there, λ h. and_from x y (eq_z-same _ _ h.opposite) ((negative _).1 h.inward))
  where
    x : Bool
    x = eq_z p.left (neg_ℤ p.right)

    y : Bool
    y = lt_z (crossfall_of (inner radius) p) (pos 0)

    there : superelevated radius p ≡ true → Superelevated radius p
    there e = record { opposite = eq_z_true _ _ (and_parts x y e).0; inward = (negative _).0 (and_parts x y e).1 }

wide_iff : (limit : Option ℕ) (n : ℕ) → (option_map_or (λ least. leb least n) limit false ≡ true) ↔ IsSomeAnd limit (λ least. least ≤ n)
wide_iff None n = (λ e. absurd cc, λ h. absurd h)
wide_iff (Some least) n = (leb-true least n, le-leb least n)

crowned_iff : (l : Limits) (radius : ℤ) (p : Crossfall) → (crowned l radius p ≡ true) ↔ Crowned l radius p
crowned_iff l radius p = (there, back)
  where
    x : Bool
    x = eq_z p.left (neg_ℤ (pos l.crown))

    y : Bool
    y = eq_z p.right (neg_ℤ (pos l.crown))

    z : Bool
    z = option_map_or (λ least. leb least (nat_abs radius)) l.radius_both false

    there : crowned l radius p ≡ true → Crowned l radius p
    there e =
        let f = and_parts (x && y) z e in
        record {
          left_side = eq_z_true _ _ (and_parts x y f.0).0;
          right_side = eq_z_true _ _ (and_parts x y f.0).1;
          wide = (wide_iff l.radius_both (nat_abs radius)).0 f.1;
        }

    back : Crowned l radius p → crowned l radius p ≡ true
    back h = and_from (x && y) z (and_from x y (eq_z-same _ _ h.left_side) (eq_z-same _ _ h.right_side)) ((wide_iff l.radius_both (nat_abs radius)).1 h.wide)

-- the point at an element's start
abbrev pub start_point : Road → ℕ → Crossfall
start_point r i = point_of r (point_at r (element_start r i))

-- a road whose points ascend from 0 to T keeps refusal 19 at an element if and only if that is no arc, or has a constant crossfall of one of the two forms
pub superelevation_iff : {r : Road} → PointOrder r → 2 ≤ length r.crossfalls → (l : Limits) (i : ℕ) → i < length r.plan → 0 < (element_of r i).length
    → (wrong_superelevation l r i ≡ false)
    ↔ (is_arc (element_of r i) ≡ true → Constant r i × (Superelevated (element_of r i).radius (start_point r i) ⊎ Crowned l (element_of r i).radius (start_point r i)))
unfolding wrong_superelevation allowed total
superelevation_iff {r} P two l i h long = (λ e q. there (is_arc (element_of r i)) q e, λ k. back (is_arc (element_of r i)) refl k)
  where
    R : ℤ
    R = (element_of r i).radius

    p : Crossfall
    p = start_point r i

    steady : (changes_on r i ≡ false) ↔ Constant r i
    steady = constant_iff P two i (omega (arith, element-step r i)) (rises_to (element_start r) (length r.plan) (suc i) (length r.plan) (elements_rise r) h (omega arith))

    form : (superelevated R p ≡ true) ⊎ (crowned l R p ≡ true) → Superelevated R p ⊎ Crowned l R p
    form (inl e) = inl ((superelevated_iff R p).0 e)
    form (inr e) = inr ((crowned_iff l R p).0 e)

    formed : Superelevated R p ⊎ Crowned l R p → (superelevated R p || crowned l R p) ≡ true
    formed (inl e) = rw ((superelevated_iff R p).1 e)
    formed (inr e) = rw ((crowned_iff l R p).1 e) (or-true (superelevated R p))

    there : (c : Bool) → c ≡ true → (c && (changes_on r i || not (superelevated R p || crowned l R p))) ≡ false → Constant r i × (Superelevated R p ⊎ Crowned l R p)
    there true q e =
        (steady.0 (or_parts (changes_on r i) (not (superelevated R p || crowned l R p)) e).0, form (or_cases (superelevated R p) (crowned l R p) (not-false (superelevated R p || crowned l R p) (or_parts (changes_on r i) (not (superelevated R p || crowned l R p)) e).1)))
    there false q e = absurd cc

    back : (c : Bool) → is_arc (element_of r i) ≡ c → (is_arc (element_of r i) ≡ true → Constant r i × (Superelevated R p ⊎ Crowned l R p)) → (c && (changes_on r i || not (superelevated R p || crowned l R p))) ≡ false
    back false q k = refl
    back true q k = let g = k q in rw (steady.1 g.0, formed g.1)

-- so on each arc of an accepted road the crossfall is constant, and of one of the two forms
pub accepted-arc : {r : Road} → Accepted r → (i : ℕ) → i < length r.plan → is_arc (element_of r i) ≡ true
    → Constant r i × (Superelevated (element_of r i).radius (start_point r i) ⊎ Crowned (limits r) (element_of r i).radius (start_point r i))
accepted-arc {r} A i h e = (superelevation_iff (points_ordered A) A.ranges.points.count.low (limits r) i h (element_in A i h).length.low).0 (A.kept rule.Superelevation i h) e
