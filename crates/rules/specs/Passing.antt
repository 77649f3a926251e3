-- Refusal 19: elements and pairs of points passed together, wherever the items come from. The laws of the loop over element i and points j and j + 1.
use Rattle.std.specs.Prelude.{◌≡◌, refl, Bool, true, false, ℕ, suc, ◌+◌, ◌<◌, ◌≤◌, length, None, Some}
use Rattle.std.proofs.Common.{sym, ap, ◌∙◌, arith, add-one}
use Rattle.road.specs.Base.{first_that, sum_of}
use Rattle.road.specs.File.{Road}
use Rattle.road.specs.declared.Limits.{Limits}
use Rattle.road.specs.Exact.{element_of, point_of, element_start}
use Rattle.road.specs.Rules.{wrong_superelevation}
use Rattle.laws_of_acceptance.specs.Lists.{element-step, Sums, sums_start, sums_on}
use Rattle.road.specs.declared.Element.{Element}
use Rattle.road.specs.declared.Crossfall.{Crossfall}
use Rattle.superelevation.specs.Shown.{shown_by}
use Rattle.laws_of_acceptance.specs.PointsInOrder.{PointOrder}
use Rattle.rules.specs.Search.{Passed, start, found, on, nothing}
use Rattle.rules.specs.Arcs.{Merged, merged-start, next-pair, next-element, passed, fails, pair_test, arc-test}

-- element i begins at `low`, and is passed with points j and j + 1; no element before it is bad
pub record Passing (l : Limits) (r : Road) (i j low : ℕ) : Type 0 where
  pub few : length r.plan ≤ 201
  pub begin : Sums (element_start r) 201 i low
  pub merged : Merged l r i j
  pub clear : Passed (wrong_superelevation l r) (length r.plan) i

module _ (l : Limits) (r : Road) (ascend : PointOrder r) where
  pub passing_start : length r.plan ≤ 201 → Passing l r 0 0 0
  unfolding element_start sum_of
  passing_start h = record { few = h; begin = sums_start (omega arith) refl; merged = merged-start l r ascend; clear = start }

  module _ {i j low : ℕ} (a : Passing l r i j low) {e : Element} {p q : Crossfall} {b : Bool}
      (inside : i < length r.plan) (small : e.length ≤ 4294967295) (here : e ≡ element_of r i) (near : p ≡ point_of r j) (far : q ≡ point_of r (j + 1)) (tested : b ≡ shown_by l e low (low + e.length) p q) where
    ends : Sums (element_start r) 201 (i + 1) (low + e.length)
    ends = let few = a.few in sums_on a.begin (omega arith) small (element-step r i ∙ ap (λ (x : Element). element_start r i + x.length) (sym here))

    end_is : low + e.length ≡ element_start r (suc i)
    end_is = ends.is ∙ ap (element_start r) (add-one i)

    far-is : q ≡ point_of r (suc j)
    far-is = far ∙ ap (λ (k : ℕ). point_of r k) (add-one j)

    test : b ≡ pair_test l r i j
    test = tested ∙ arc-test l r i j here a.begin.is end_is near far-is

    pub passing_found : b ≡ true → Some i ≡ first_that (wrong_superelevation l r) (length r.plan)
    passing_found t = found a.clear inside (fails l r ascend a.merged (sym test ∙ t))

    station-is : q.station ≡ (point_of r (suc j)).station
    station-is = ap (λ (x : Crossfall). x.station) far-is

    -- there are more pairs, and the next one begins before the element ends
    pub passing_pair : b ≡ false → j + 2 < length r.crossfalls → q.station ≤ low + e.length → Passing l r i (j + 1) low
    passing_pair f more next =
        let until = end_is in
        let same = station-is in
        record {
          few = a.few;
          begin = a.begin;
          merged = rw (add-one j) (next-pair l r ascend a.merged (sym test ∙ f) (omega arith) (omega arith));
          clear = a.clear;
        }

    -- else the next pair begins beyond the element's end
    pub passing_element : b ≡ false → (j + 2 < length r.crossfalls → low + e.length < q.station) → Passing l r (i + 1) j (low + e.length)
    passing_element f beyond =
        let h = sym test ∙ f in
        record {
          few = a.few;
          begin = ends;
          merged = rw (add-one i) (next-element l r ascend i j a.merged h later);
          clear = on a.clear inside (passed l r ascend i j a.merged h later);
        }
      where
        later : suc (suc j) < length r.crossfalls → element_start r (suc i) < (point_of r (suc j)).station
        later g =
            let more = beyond (omega arith) in
            let until = end_is in
            let same = station-is in
            omega arith

pub passing_nothing : {l : Limits} {r : Road} {i j low : ℕ} → Passing l r i j low → length r.plan ≤ i → None ≡ first_that (wrong_superelevation l r) (length r.plan)
passing_nothing a h = nothing a.clear h
