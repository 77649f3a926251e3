-- What the rules say of a road that keeps them, as numbers, whatever their limits.
use Rattle.std.specs.Prelude.{◌≡◌, refl, [], List, ◌∷◌, ◌++◌, ℕ, suc, ◌+◌, ◌-◌, ◌≤◌, ◌<◌, length, take, ℤ, pos, ◌+ℤ◌, ◌*ℤ◌}
use Rattle.std.proofs.Common.{sym, ap, ◌∙◌, arith, take-suc}
use Rattle.std.proofs.Math.IntN.{+ℤ_assoc, +ℤ_idl, +ℤ_idr}
use Rattle.road.specs.Base.{sum_of}
use Rattle.road.specs.File.{Road}
use Rattle.road.specs.Exact.{blank_tangent, tangent_of, point_of, element_start, element_at, tangent_start, tangent_at, point_at, total, vertex_count, vertex, half_length, rise, half_before_of}
use Rattle.laws_of_acceptance.specs.Lists.{element-step, tangent-step}
use Rattle.road.specs.declared.Tangent.{Tangent}
use Rattle.laws_of_search.specs.Last.{Rising, rises_to, Begun, begun}
use Rattle.laws_of_acceptance.specs.PointsInOrder.{PointOrder}
use Rattle.laws_of_acceptance.specs.PointsInOrder as ordered

-- ---- where tangents and elements begin
rise-append : (l : List Tangent) (t : Tangent) → rise (l ++ (t ∷ [])) ≡ rise l +ℤ t.grade *ℤ pos t.length
unfolding rise
rise-append [] t = +ℤ_idr (t.grade *ℤ pos t.length) ∙ sym (+ℤ_idl (t.grade *ℤ pos t.length))
rise-append (x ∷ l) t = ap (λ (z : ℤ). x.grade *ℤ pos x.length +ℤ z) (rise-append l t) ∙ sym (+ℤ_assoc (x.grade *ℤ pos x.length) (rise l) (t.grade *ℤ pos t.length))

pub starts-rise : (r : Road) → Rising (tangent_start r) (length r.tangents)
unfolding Rising
starts-rise r i h = omega (arith, tangent-step r i)

pub elements_rise : (r : Road) → Rising (element_start r) (length r.plan)
unfolding Rising
elements_rise r i h = omega (arith, element-step r i)

pub rise-next : (r : Road) (i : ℕ) → i < length r.tangents → rise (take (suc i) r.tangents) ≡ rise (take i r.tangents) +ℤ (tangent_of r i).grade *ℤ pos (tangent_of r i).length
rise-next r i h = ap rise (take-suc r.tangents i blank_tangent h) ∙ rise-append (take i r.tangents) (tangent_of r i)

pub start_first : (r : Road) → tangent_start r 0 ≡ 0
unfolding tangent_start sum_of
start_first r = refl

-- ---- the facts
pub record Facts (r : Road) : Type 0 where
  pub tangents : 0 < length r.tangents
  pub points : 2 ≤ length r.crossfalls
  pub whole : tangent_start r (length r.tangents) ≡ total r
  pub room : (i : ℕ) → i < length r.tangents → half_before_of r i + half_length r i ≤ (tangent_of r i).length
  pub first : (point_of r 0).station ≡ 0
  pub ascend : (i : ℕ) → suc i < length r.crossfalls → (point_of r i).station < (point_of r (suc i)).station
  pub last : (i : ℕ) → suc i ≡ length r.crossfalls → (point_of r i).station ≡ total r

-- the order of rule 16
pub order : {r : Road} → Facts r → PointOrder r
order F = record { first = F.first; ascend = F.ascend; last = F.last }

pub points-rise : {r : Road} → Facts r → Rising (λ i. (point_of r i).station) (length r.crossfalls - 1)
points-rise F = ordered.points-rise (order F)

pub points-end : {r : Road} → Facts r → (point_of r (length r.crossfalls - 1)).station ≡ total r
points-end {r} F = let two = F.points in F.last (length r.crossfalls - 1) (omega arith)

pub points-inside : {r : Road} → Facts r → (i : ℕ) → i < length r.crossfalls → (point_of r i).station ≤ total r
points-inside {r} F i h =
    let n : ℕ = length r.crossfalls - 1 in
    omega (arith, rises_to (λ i. (point_of r i).station) n i n (points-rise F) (omega arith) (omega arith), points-end F)

-- ---- the tangent, the pair of points and the element of a station
module _ {r : Road} (F : Facts r) (s : ℕ) where
  pub tangent-begun : Begun (tangent_start r) (length r.tangents) s (tangent_at r s)
  unfolding tangent_at
  tangent-begun = begun (tangent_start r) (length r.tangents) s F.tangents (omega (arith, start_first r))

  pub pair-begun : Begun (λ i. (point_of r i).station) (length r.crossfalls - 1) s (point_at r s)
  pair-begun = let two = F.points in ordered.pair-at (order F) s (omega arith)

pub element-begun : (r : Road) (s : ℕ) → 0 < length r.plan → Begun (element_start r) (length r.plan) s (element_at r s)
unfolding element_at element_start sum_of
element-begun r s h = begun (element_start r) (length r.plan) s h (omega arith)

-- a vertex without a curve has one grade on both sides: rule 15
abbrev pub Level : Road → Type 0
Level r = (i : ℕ) → i < vertex_count r → half_length r i ≡ 0 → (tangent_of r (suc i)).grade ≡ (tangent_of r i).grade

-- ---- the curves of the profile
module _ {r : Road} (F : Facts r) where
  -- a curve begins on the tangent before its vertex, and ends on the one after it
  pub curve-begins : (i : ℕ) → i < vertex_count r → tangent_start r i + half_before_of r i + half_length r i ≤ vertex r i
  curve-begins i h = omega (arith, F.room i (omega arith), tangent-step r i)

  pub curve-ends : (i : ℕ) → i < vertex_count r → vertex r i + half_length r i ≤ total r
  curve-ends i h =
      let a = F.room (suc i) (omega arith) in
      let b = tangent-step r (suc i) in
      let c = rises_to (tangent_start r) (length r.tangents) (suc (suc i)) (length r.tangents) (starts-rise r) (omega arith) (omega arith) in
      omega (arith, F.whole)
