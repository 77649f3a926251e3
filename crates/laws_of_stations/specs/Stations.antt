-- Document 01, "Listed stations, ascending, each one time": which stations are listed, each of them, and none twice.
use Rattle.std.specs.Prelude.{◌≡◌, Bool, ◌⊎◌, ◌↔◌, ℕ, suc, ◌+◌, ◌*◌, ◌-◌, ◌/◌, ◌≤◌, ◌<◌, length, get_or, if◌then◌else◌}
use Rattle.std.proofs.Math.Path.{refl}
use Rattle.std.proofs.Common.{sym, ap, ◌∙◌, inl, inr, le-div_iff_mul-le}
use Rattle.std.proofs.Math.Bool.{true, false}
use mathlib.Core.List.Memᴰ
use mathlib.Core.List.{List, [], ◌∷◌, ◌++◌, map, Memᴰ}
use native.Mathlib.Omega.{arith}
use borrow.Author.Tests.{eqb-true, eqb-false}
use Rattle.std.proofs.Math.Dec.{eqb}
use Rattle.road.specs.Base.{count_from, joined}
use Rattle.road.specs.File.{Road}
use Rattle.road.specs.Exact.{blank_crossfall, total, element_start, vertex_count, vertex, half_length, point_of}
use Rattle.road.specs.Listed.{multiples, element_ends, curve_stations, stations, listed}
use Rattle.laws_of_lists.specs.All.{All}
use Rattle.road.specs.declared.Crossfall.{Crossfall}
use Rattle.laws_of_acceptance.specs.Facts.{Facts, curve-begins, curve-ends, elements_rise, points-inside}
use Rattle.laws_of_search.specs.Last.{rises_to}
use Rattle.laws_of_search.specs.Members.{below_has, below-from, item_has, item_from, joined_has, joined-from, all_members}
use Rattle.laws_of_search.specs.Ascends.{Ascends, ascending-ascends, ascends_strictly, ascends-one}
use Rattle.laws_of_stations.specs.Next.{listed_has, listed-from}

-- "0, T, the multiples of step below T, all element ends, both ends of each curve with h > 0, each vertex with h = 0, all crossfall points"
pub data Named (r : Road) (x : ℕ) : Type 0 where
  zero_station : x ≡ 0 → Named r x
  end-station : x ≡ total r → Named r x
  multiple : (k : ℕ) → x ≡ k * r.head.step → x < total r → Named r x
  element-end : (i : ℕ) → i < length r.plan → x ≡ element_start r (suc i) → Named r x
  curve-start : (i : ℕ) → i < vertex_count r → 0 < half_length r i → x + half_length r i ≡ vertex r i → Named r x
  curve-end : (i : ℕ) → i < vertex_count r → 0 < half_length r i → x ≡ vertex r i + half_length r i → Named r x
  bare-vertex : (i : ℕ) → i < vertex_count r → half_length r i ≡ 0 → x ≡ vertex r i → Named r x
  point : (i : ℕ) → i < length r.crossfalls → x ≡ (point_of r i).station → Named r x

-- ---- what is named is listed
module _ (r : Road) where
  abbrev ends : List ℕ
  ends = 0 ∷ total r ∷ []

  abbrev curves : List ℕ
  curves = joined (curve_stations r) (count_from 0 (vertex_count r))

  abbrev points : List ℕ
  points = map (λ (p : Crossfall). p.station) r.crossfalls

  -- the k-th multiple below T
  below : (k : ℕ) → 0 < r.head.step → (k * r.head.step < total r) ↔ (k < (total r + (r.head.step - 1)) / r.head.step)
  below k p =
      (λ h. (le-div_iff_mul-le {k = r.head.step} {x = suc k} {y = total r + (r.head.step - 1)} p).1 (omega arith), λ h. let l = (le-div_iff_mul-le {k = r.head.step} {x = suc k} {y = total r + (r.head.step - 1)} p).0 h in omega arith)

  in_multiples : {x : ℕ} → Memᴰ x (multiples r.head.step (total r)) → Memᴰ x (stations r)
  unfolding stations
  in_multiples m = Memᴰ.append_right ends (Memᴰ.append_left (element_ends r ++ (curves ++ points)) m)

  in_elements : {x : ℕ} → Memᴰ x (element_ends r) → Memᴰ x (stations r)
  unfolding stations
  in_elements m = Memᴰ.append_right ends (Memᴰ.append_right (multiples r.head.step (total r)) (Memᴰ.append_left (curves ++ points) m))

  in_curves : {x : ℕ} (i : ℕ) → i < vertex_count r → Memᴰ x (curve_stations r i) → Memᴰ x (stations r)
  unfolding stations
  in_curves i h m =
      Memᴰ.append_right ends (Memᴰ.append_right (multiples r.head.step (total r)) (Memᴰ.append_right (element_ends r)
      (Memᴰ.append_left points (joined_has (curve_stations r) (below_has h) m))))

  in_points : {x : ℕ} → Memᴰ x points → Memᴰ x (stations r)
  unfolding stations
  in_points m = Memᴰ.append_right ends (Memᴰ.append_right (multiples r.head.step (total r)) (Memᴰ.append_right (element_ends r) (Memᴰ.append_right curves m)))

  -- both ends of a curve, which are the vertex where h is 0
  both-ends : (i : ℕ) → Memᴰ (vertex r i - half_length r i) (curve_stations r i) × Memᴰ (vertex r i + half_length r i) (curve_stations r i)
  unfolding curve_stations
  both-ends i = go (eqb (half_length r i) 0) refl
    where
      ends_if : Bool → List ℕ
      ends_if b = if b then vertex r i ∷ [] else (vertex r i - half_length r i) ∷ (vertex r i + half_length r i) ∷ []

      go : (b : Bool) → eqb (half_length r i) 0 ≡ b → Memᴰ (vertex r i - half_length r i) (ends_if b) × Memᴰ (vertex r i + half_length r i) (ends_if b)
      go true q = let z = eqb-true (half_length r i) 0 q in (Memᴰ.head (omega arith), Memᴰ.head (omega arith))
      go false q = (Memᴰ.head refl, Memᴰ.tail (Memᴰ.head refl))

  pub starts-listed : (i x : ℕ) → i < vertex_count r → x + half_length r i ≡ vertex r i → Memᴰ x (stations r)
  starts-listed i x h e = in_curves i h (Memᴰ.cast (omega arith) (both-ends i).0)

  pub ends-listed : (i x : ℕ) → i < vertex_count r → x ≡ vertex r i + half_length r i → Memᴰ x (stations r)
  ends-listed i x h e = in_curves i h (Memᴰ.cast e (both-ends i).1)

  pub point-listed : (i : ℕ) → i < length r.crossfalls → Memᴰ (point_of r i).station (stations r)
  point-listed i h = in_points (Memᴰ.map (λ (p : Crossfall). p.station) (item_has blank_crossfall r.crossfalls i h))

  pub stations_has : {x : ℕ} → 0 < r.head.step → Named r x → Memᴰ x (stations r)
  unfolding stations multiples element_ends
  stations_has {x} p (zero_station e) = Memᴰ.head e
  stations_has {x} p (end-station e) = Memᴰ.tail (Memᴰ.head e)
  stations_has {x} p (multiple k e l) =
      in_multiples (Memᴰ.cast e (Memᴰ.map (λ k. k * r.head.step) (below_has ((below k p).0 (omega arith)))))
  stations_has {x} p (element-end i h e) = in_elements (Memᴰ.cast e (Memᴰ.map (λ i. element_start r (suc i)) (below_has h)))
  stations_has {x} p (curve-start i h l e) = starts-listed i x h e
  stations_has {x} p (curve-end i h l e) = ends-listed i x h e
  stations_has {x} p (bare-vertex i h z e) = ends-listed i x h (omega arith)
  stations_has {x} p (point i h e) = Memᴰ.cast e (point-listed i h)

  -- ---- what is listed is named
  module _ (F : Facts r) (p : 0 < r.head.step) {x : ℕ} where
    from-ends : Memᴰ x ends → Named r x
    from-ends m = go (Memᴰ.cases_cons m)
      where
        go : (x ≡ 0) ⊎ Memᴰ x (total r ∷ []) → Named r x
        go (inl e) = zero_station e
        go (inr n) = end-station (Memᴰ.eq_of_singleton n)

    from-multiples : Memᴰ x (multiples r.head.step (total r)) → Named r x
    unfolding multiples
    from-multiples m =
        let t = Memᴰ.of_map (λ k. k * r.head.step) (count_from 0 ((total r + (r.head.step - 1)) / r.head.step)) m in
        let e = t.2 in
        let l = (below t.0 p).1 (below-from t.1) in
        multiple t.0 (sym e) (omega arith)

    from_elements : Memᴰ x (element_ends r) → Named r x
    unfolding element_ends
    from_elements m =
        let t = Memᴰ.of_map (λ i. element_start r (suc i)) (count_from 0 (length r.plan)) m in
        element-end t.0 (below-from t.1) (sym t.2)

    from-curve : (i : ℕ) → i < vertex_count r → Memᴰ x (curve_stations r i) → Named r x
    unfolding curve_stations
    from-curve i h m = go (eqb (half_length r i) 0) refl m
      where
        two : 0 < half_length r i → (x ≡ vertex r i - half_length r i) ⊎ Memᴰ x ((vertex r i + half_length r i) ∷ []) → Named r x
        two l (inl e) = curve-start i h l (omega (arith, curve-begins F i h))
        two l (inr n) = curve-end i h l (Memᴰ.eq_of_singleton n)

        go : (b : Bool) → eqb (half_length r i) 0 ≡ b → Memᴰ x (if b then vertex r i ∷ [] else (vertex r i - half_length r i) ∷ (vertex r i + half_length r i) ∷ []) → Named r x
        go true q m = bare-vertex i h (eqb-true (half_length r i) 0 q) (Memᴰ.eq_of_singleton m)
        go false q m = two (omega (arith, eqb-false (half_length r i) 0 q)) (Memᴰ.cases_cons m)

    from-curves : Memᴰ x curves → Named r x
    from-curves m =
        let g = joined-from (curve_stations r) (count_from 0 (vertex_count r)) m in
        from-curve g.item (below-from g.among) g.given

    from-points : Memᴰ x points → Named r x
    from-points m =
        let t = Memᴰ.of_map (λ (p : Crossfall). p.station) r.crossfalls m in
        let i = item_from blank_crossfall t.1 in
        point i.place i.within (sym t.2 ∙ ap (λ (p : Crossfall). p.station) i.is)

    pub stations-from : Memᴰ x (stations r) → Named r x
    unfolding stations
    stations-from m = one (Memᴰ.append_cases ends m)
      where
        four : Memᴰ x curves ⊎ Memᴰ x points → Named r x
        four (inl m) = from-curves m
        four (inr m) = from-points m

        three : Memᴰ x (element_ends r) ⊎ Memᴰ x (curves ++ points) → Named r x
        three (inl m) = from_elements m
        three (inr m) = four (Memᴰ.append_cases curves m)

        two : Memᴰ x (multiples r.head.step (total r)) ⊎ Memᴰ x (element_ends r ++ (curves ++ points)) → Named r x
        two (inl m) = from-multiples m
        two (inr m) = three (Memᴰ.append_cases (element_ends r) m)

        one : Memᴰ x ends ⊎ Memᴰ x (multiples r.head.step (total r) ++ (element_ends r ++ (curves ++ points))) → Named r x
        one (inl m) = from-ends m
        one (inr m) = two (Memᴰ.append_cases (multiples r.head.step (total r)) m)

-- "ascending, each one time"
pub listed_strictly : (r : Road) (i : ℕ) → suc i < length (listed r) → get_or (listed r) i 0 < get_or (listed r) (suc i) 0
unfolding listed
listed_strictly r = ascends_strictly (ascending-ascends (stations r))

module _ {r : Road} (F : Facts r) (p : 0 < r.head.step) where
  -- the listed stations are those that the paper names, and no others
  pub listed_exactly : (x : ℕ) → Memᴰ x (listed r) ↔ Named r x
  listed_exactly x = (λ m. stations-from r F p (listed-from r x m), λ n. listed_has r x (stations_has r p n))

  -- so the list is the only ascending one of the stations that the paper names
  pub listed_only : (l : List ℕ) → Ascends 0 l → ((x : ℕ) → Memᴰ x l ↔ Named r x) → l ≡ listed r
  unfolding listed
  listed_only l a h = ascends-one a (ascending-ascends (stations r)) (λ z m. (listed_exactly z).1 ((h z).0 m)) (λ z m. (h z).1 ((listed_exactly z).0 m))

  -- none is beyond T
  named_inside : {x : ℕ} → Named r x → x ≤ total r
  unfolding total
  named_inside (zero_station e) = omega arith
  named_inside (end-station e) = omega arith
  named_inside (multiple k e l) = omega arith
  named_inside (element-end i h e) = omega (arith, rises_to (element_start r) (length r.plan) (suc i) (length r.plan) (elements_rise r) h (omega arith))
  named_inside (curve-start i h l e) = omega (arith, curve-ends F i h)
  named_inside (curve-end i h l e) = omega (arith, curve-ends F i h)
  named_inside (bare-vertex i h z e) = omega (arith, curve-ends F i h)
  named_inside (point i h e) = omega (arith, points-inside F i h)

  pub stations-inside : All (λ x. x ≤ total r) (stations r)
  stations-inside = all_members (stations r) (λ x m. named_inside (stations-from r F p m))
