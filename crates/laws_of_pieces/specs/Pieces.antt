-- The straight parts and the curves of the profile: where two of them have a station in common, they have one value, be it height or grade.
use Rattle.std.specs.Prelude.{◌≡◌, true, ◌&&◌, leb, ltb, Option, None, Some}
use Rattle.std.proofs.Math.Path.{refl, subst}
use Rattle.std.proofs.Common.{sym, ap, ltb-true, leb-true, lt-ltb, le-leb}
use Prim.Native.Nat.{ℕ, zero, suc, ◌+◌, ◌-◌, ◌≤◌, ◌<◌}
use native.Mathlib.Omega.{arith}
use Rattle.std.proofs.Math.Decide.{dec_lt, dec_le}
use Rattle.std.proofs.Math.ListN.{length}
use Rattle.integers.specs.Fraction.{Frac, ◌≈ᶠ◌}
use Rattle.integers.specs.Values.{same-value, other_way, ◌then◌}
use Rattle.road.specs.File.{Road}
use Rattle.road.specs.Exact.{tangent_start, tangent_at, total, vertex_count, vertex, half_length, in_curve, curve_at, half_before_of}
use Rattle.laws_of_search.specs.Searches.{first_some, first-none}
use Rattle.laws_of_acceptance.specs.Lists.{tangent-step}
use Rattle.std.proofs.lemmas.Bool.{and_from, and_parts, both_ways}
use Rattle.laws_of_acceptance.specs.Facts.{Facts, tangent-begun}
use Rattle.laws_of_search.specs.Last.{Rising, rises_to, begun-upto}

pub record OnStraight (r : Road) (i s : ℕ) : Type 0 where
  pub place : i < length r.tangents
  pub low : tangent_start r i + half_before_of r i ≤ s
  pub high : i < vertex_count r → s + half_length r i ≤ vertex r i
  pub upto : s ≤ tangent_start r (suc i)

pub record OnCurve (r : Road) (i s : ℕ) : Type 0 where
  pub place : i < vertex_count r
  pub long : 0 < half_length r i
  pub low : vertex r i ≤ s + half_length r i
  pub high : s ≤ vertex r i + half_length r i

-- as the definition's test has it
pub on-curve : (r : Road) (s i : ℕ) → i < vertex_count r → in_curve r s i ≡ true → OnCurve r i s
unfolding in_curve
on-curve r s i h e =
    let h1 = ltb 0 (half_length r i) in
    let h2 = leb (vertex r i) (s + half_length r i) in
    let h3 = leb s (vertex r i + half_length r i) in
    let f = (and_parts (h1 && h2) h3 e).0 in
    record {
      place = h;
      long = ltb-true 0 (half_length r i) (and_parts h1 h2 f).0;
      low = leb-true (vertex r i) (s + half_length r i) (and_parts h1 h2 f).1;
      high = leb-true s (vertex r i + half_length r i) (and_parts (h1 && h2) h3 e).1;
    }

pub in_curve_lem : {r : Road} {s i : ℕ} → OnCurve r i s → in_curve r s i ≡ true
unfolding in_curve
in_curve_lem {r} {s} {i} c =
    let h1 = ltb 0 (half_length r i) in
    let h2 = leb (vertex r i) (s + half_length r i) in
    let h3 = leb s (vertex r i + half_length r i) in
    and_from (h1 && h2) h3 (and_from h1 h2 (lt-ltb 0 (half_length r i) c.long) (le-leb (vertex r i) (s + half_length r i) c.low)) (le-leb s (vertex r i + half_length r i) c.high)

-- the curve that the definition finds at a station, and where it finds none
pub curve-found : (r : Road) (s i : ℕ) → curve_at r s ≡ Some i → OnCurve r i s
unfolding curve_at
curve-found r s i e = let f = first_some (in_curve r s) (vertex_count r) i e in on-curve r s i f.place f.bad

pub no-curve-found : {r : Road} {s i : ℕ} → curve_at r s ≡ None → OnCurve r i s → ⊥
unfolding curve_at
no-curve-found {r} {s} {i} e c = both_ways (in_curve r s i) (first-none (in_curve r s) (vertex_count r) e i c.place) (in_curve_lem c)

-- a value W of the profile, which is S i s on tangent i and C i s in curve i; tangents and curves have one value where they meet
pub record Along (r : Road) (W : ℕ → Option ℕ → Frac) (S C : ℕ → ℕ → Frac) : Type 0 where
  pub curved : (i s : ℕ) → W s (Some i) ≡ C i s
  pub straight : (s : ℕ) → W s None ≡ S (tangent_at r s) s
  pub straight-positive : (i s : ℕ) → 0 < (S i s).den
  pub curve-positive : (i s : ℕ) → 0 < half_length r i → 0 < (C i s).den
  pub at-vertex : (i s : ℕ) → i < vertex_count r → half_length r i ≡ 0 → s ≡ vertex r i → S i s ≈ᶠ S (suc i) s
  pub at-start : (i s : ℕ) → i < vertex_count r → 0 < half_length r i → s + half_length r i ≡ vertex r i → C i s ≈ᶠ S i s
  pub at-end : (i s : ℕ) → i < vertex_count r → 0 < half_length r i → s ≡ vertex r i + half_length r i → C i s ≈ᶠ S (suc i) s

-- where the straight part of a tangent begins
abbrev begins : Road → ℕ → ℕ
begins r i = tangent_start r i + half_before_of r i

module _ {r : Road} (F : Facts r) where
  rising : Rising (begins r) (length r.tangents)
  unfolding Rising
  rising i h = omega (arith, F.room i h, tangent-step r i)

  -- a later curve begins at or past the end of an earlier one
  pub curves_apart : (i j : ℕ) → i < j → j < vertex_count r → vertex r i + half_length r i + half_length r j ≤ vertex r j
  curves_apart i j l h = omega (arith, rises_to (begins r) (length r.tangents) (suc i) j rising l (omega arith), F.room j (omega arith), tangent-step r j)

  -- the straight part begins where the curve before it ends
  pub at-begin : (i s : ℕ) → suc i < length r.tangents → s ≡ vertex r i + half_length r i → OnStraight r (suc i) s
  at-begin i s h e =
      let a = F.room (suc i) h in
      let b = tangent-step r (suc i) in
      record { place = h; low = omega arith; high = λ l. omega arith; upto = omega arith }

  -- where the straight part before a curve ends
  pub at-stop : (i s : ℕ) → i < vertex_count r → s + half_length r i ≡ vertex r i → OnStraight r i s
  at-stop i s h e =
      let a = F.room i (omega arith) in
      let b = tangent-step r i in
      record { place = omega arith; low = omega arith; high = λ l. omega arith; upto = omega arith }

  -- where there is no curve, the tangent at s has s on its straight part
  own : (s : ℕ) → s ≤ total r → ((i : ℕ) → OnCurve r i s → ⊥) → OnStraight r (tangent_at r s) s
  own s h free =
      let t = tangent_at r s in
      let b = tangent-begun F s in
      record { place = b.below; low = lower t b.from b.below; high = λ l. higher t l (b.next (omega arith)); upto = begun-upto b (omega (arith, F.whole)) }
    where
      lower : (t : ℕ) → tangent_start r t ≤ s → t < length r.tangents → tangent_start r t + half_before_of r t ≤ s
      lower zero l p = omega arith
      lower (suc t) l p = go (dec_le (tangent_start r (suc t) + half_length r t) s)
        where
          go : Dec (tangent_start r (suc t) + half_length r t ≤ s) → tangent_start r (suc t) + half_length r t ≤ s
          go (yes y) = y
          go (no y) = absurd (free t (record { place = omega arith; long = omega arith; low = omega arith; high = omega arith }))

      higher : (t : ℕ) → t < vertex_count r → s < vertex r t → s + half_length r t ≤ vertex r t
      higher t p l = go (dec_le (s + half_length r t) (vertex r t))
        where
          go : Dec (s + half_length r t ≤ vertex r t) → s + half_length r t ≤ vertex r t
          go (yes y) = y
          go (no y) = absurd (free t (record { place = p; long = omega arith; low = omega arith; high = omega arith }))

  module _ {W : ℕ → Option ℕ → Frac} {S C : ℕ → ℕ → Frac} (A : Along r W S C) where
    straights : (k i j s : ℕ) → j ≡ i + k → OnStraight r i s → OnStraight r j s → S i s ≈ᶠ S j s
    straights zero i j s e a b = same-value (A.straight-positive i s) (ap (λ (k : ℕ). S k s) (omega arith))
    straights (suc k) i j s e a b =
        let n = b.place in
        let u = a.high (omega arith) in
        let v = rises_to (begins r) (length r.tangents) (suc i) j rising (omega arith) (omega arith) in
        let w = b.low in
        A.at-vertex i s (omega arith) (omega arith) (omega arith)
        then straights k (suc i) j s (omega arith) (at-begin i s (omega arith) (omega arith)) b

    -- two straight parts at one station
    pub straight-straight : (i j s : ℕ) → OnStraight r i s → OnStraight r j s → S i s ≈ᶠ S j s
    straight-straight i j s a b = go (dec_le i j)
      where
        go : Dec (i ≤ j) → S i s ≈ᶠ S j s
        go (yes l) = straights (j - i) i j s (omega arith) a b
        go (no l) = other_way (straights (i - j) j i s (omega arith) b a)

    -- a curve and a straight part at one station
    pub curve-straight : (i j s : ℕ) → OnCurve r i s → OnStraight r j s → C i s ≈ᶠ S j s
    curve-straight i j s a b = go (dec_lt j i) (dec_lt i j)
      where
        first : s + half_length r i ≡ vertex r i → C i s ≈ᶠ S j s
        first e = A.at-start i s a.place a.long e then straight-straight i j s (at-stop i s a.place e) b

        after : j < i → s + half_length r i ≡ vertex r i
        after l =
            let p = a.place in
            let u = b.high (omega arith) in
            let v = rises_to (begins r) (length r.tangents) (suc j) i rising l (omega arith) in
            let w = F.room i (omega arith) in
            let x = tangent-step r i in
            let y = a.low in
            omega arith

        before : i < j → s ≡ vertex r i + half_length r i
        before l =
            let p = b.place in
            let v = rises_to (begins r) (length r.tangents) (suc i) j rising l (omega arith) in
            let w = b.low in
            let y = a.high in
            omega arith

        go : Dec (j < i) → Dec (i < j) → C i s ≈ᶠ S j s
        go (yes l) m = first (after l)
        go (no l) (yes m) =
            let p = b.place in
            A.at-end i s a.place a.long (before m) then straight-straight (suc i) j s (at-begin i s (omega arith) (before m)) b
        go (no l) (no m) =
            let q : i ≡ j = omega arith in
            let p = a.place in
            let y = a.low in
            let u : s + half_length r i ≤ vertex r i = subst (λ (k : ℕ). s + half_length r k ≤ vertex r k) (sym q) (b.high (omega arith)) in
            first (omega arith)

    -- two curves at one station
    curves : (i j s : ℕ) → i < j → OnCurve r i s → OnCurve r j s → C i s ≈ᶠ C j s
    curves i j s l a b =
        let v = curves_apart i j l b.place in
        let y = b.low in
        let z = a.high in
        let e : s ≡ vertex r i + half_length r i = omega arith in
        A.at-end i s a.place a.long e then other_way (curve-straight j (suc i) s b (at-begin i s (omega arith) e))

    pub curve-curve : (i j s : ℕ) → OnCurve r i s → OnCurve r j s → C i s ≈ᶠ C j s
    curve-curve i j s a b = go (dec_lt i j) (dec_lt j i)
      where
        go : Dec (i < j) → Dec (j < i) → C i s ≈ᶠ C j s
        go (yes l) m = curves i j s l a b
        go (no l) (yes m) = other_way (curves j i s m b a)
        go (no l) (no m) = same-value (A.curve-positive i s a.long) (ap (λ (k : ℕ). C k s) (omega arith))

    -- the value at a station is that of any straight part or curve that has the station
    pub value-curve : (i s : ℕ) → OnCurve r i s → W s (curve_at r s) ≈ᶠ C i s
    value-curve i s c = go (curve_at r s) refl
      where
        go : (o : Option ℕ) → curve_at r s ≡ o → W s o ≈ᶠ C i s
        go (Some k) e = subst (λ (v : Frac). v ≈ᶠ C i s) (sym (A.curved k s)) (curve-curve k i s (curve-found r s k e) c)
        go None e = absurd (no-curve-found e c)

    pub value-straight : (i s : ℕ) → s ≤ total r → OnStraight r i s → W s (curve_at r s) ≈ᶠ S i s
    value-straight i s h c = go (curve_at r s) refl
      where
        go : (o : Option ℕ) → curve_at r s ≡ o → W s o ≈ᶠ S i s
        go (Some k) e = subst (λ (v : Frac). v ≈ᶠ S i s) (sym (A.curved k s)) (curve-straight k i s (curve-found r s k e) c)
        go None e = subst (λ (v : Frac). v ≈ᶠ S i s) (sym (A.straight s)) (straight-straight (tangent_at r s) i s (own s h (λ k. no-curve-found e)) c)
