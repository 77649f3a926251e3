-- The ranges of an accepted road, item by item, and what rules 5 and 15 add to them.
use Rattle.std.specs.Prelude.{◌≡◌, Bool, true, false, ℤ, pos, if◌then◌else◌}
use Rattle.std.proofs.Math.Path.{subst}
use Prim.Native.Nat.{ℕ, suc, ◌*◌, ◌-◌, ◌≤◌, ◌<◌}
use native.Mathlib.Omega.{arith}
use Rattle.std.proofs.Math.Nat.{mul-le-mul_right}
use borrow.Author.Tests.{ltb-false}
use Rattle.std.proofs.Math.ListN.{length}
use Rattle.std.proofs.Math.IntN.{nat_abs}
use Rattle.std.specs.Int.Signed.{lt_z}
use Rattle.integers.specs.Bridge.{int, ◌⊖◌, eq!, abs?}
use Rattle.road.specs.File.{Road}
use Rattle.road.specs.Limits.{limits}
use Rattle.road.specs.Exact.{blank_element, blank_tangent, blank_crossfall, element_of, tangent_of, point_of, element_start, tangent_start, total, half_length, grade_change, Side, left, right, crossfall_of}
use Rattle.road.specs.Rules.{vertical_radius, sharp_vertex}
use Rattle.road.specs.declared.Rule.TheVariants as rule
use Rattle.road.specs.declared.ElementRule.TheVariants as element
use Rattle.road.specs.declared.TangentRule.TheVariants as tangent
use Rattle.laws_of_lists.specs.All.{all-at}
use Rattle.laws_of_acceptance.specs.Ranged.{ElementRange, TangentRange, PointRange}
use Rattle.laws_of_acceptance.specs.Positive.{Accepted, facts}
use Rattle.laws_of_acceptance.specs.Lists.{element-step}
use Rattle.laws_of_acceptance.specs.Table.{limits-sound}
use Rattle.laws_of_search.specs.Last.{rises_to}
use Rattle.laws_of_acceptance.specs.Facts.{Level, starts-rise, elements_rise}

module _ {r : Road} (A : Accepted r) where
  pub element_in : (i : ℕ) → i < length r.plan → ElementRange (element_of r i)
  element_in i h = all-at blank_element i A.ranges.plan.each h

  pub tangent_in : (i : ℕ) → i < length r.tangents → TangentRange (tangent_of r i)
  tangent_in i h = all-at blank_tangent i A.ranges.profile.tangents.each h

  pub point_in : (i : ℕ) → i < length r.crossfalls → PointRange (point_of r i)
  point_in i h = all-at blank_crossfall i A.ranges.points.each h

  pub crossfall_in_lem : (d : Side) (i : ℕ) → i < length r.crossfalls → nat_abs (crossfall_of d (point_of r i)) ≤ 80000
  crossfall_in_lem left i h = (point_in i h).left
  crossfall_in_lem right i h = (point_in i h).right

  -- ---- T
  -- rule 5
  pub total-small : total r ≤ 100000000
  unfolding total
  total-small =
      let one = A.ranges.plan.count.low in
      let n : ℕ = length r.plan in
      let e : suc (n - 1) ≡ n = omega arith in
      subst (λ (k : ℕ). element_start r k ≤ 100000000) e (ltb-false 100000000 (element_start r (suc (n - 1))) (A.kept (rule.Element element.PlanLength) (n - 1) (omega arith)))

  pub element-inside : (i : ℕ) → i ≤ length r.plan → element_start r i ≤ total r
  unfolding total
  element-inside i h = rises_to (element_start r) (length r.plan) i (length r.plan) (elements_rise r) h (omega arith)

  pub tangent-inside : (i : ℕ) → i ≤ length r.tangents → tangent_start r i ≤ total r
  tangent-inside i h = omega (arith, rises_to (tangent_start r) (length r.tangents) i (length r.tangents) (starts-rise r) h (omega arith), (facts A).whole)

  pub total-positive : 1 ≤ total r
  total-positive =
      let one = A.ranges.plan.count.low in
      omega (arith, element-inside 1 one, element-step r 0, (element_in 0 one).length.low)

  -- ---- rule 15
  radius-above : (change : ℤ) → 0 < vertical_radius (limits r) change
  radius-above change = go (lt_z (pos 0) change)
    where
      go : (b : Bool) → 0 < (if b then (limits r).sag_radius else (limits r).crest_radius)
      go true = (limits-sound r).sag
      go false = (limits-sound r).crest

  -- a vertex without a curve has one grade on both sides
  pub level : Level r
  unfolding sharp_vertex
  level i h z =
      let c = grade_change r i in
      let l = ltb-false (2 * half_length r i * 1000000) (vertical_radius (limits r) c * nat_abs c) (A.kept (rule.Tangent tangent.SharpVertex) i h) in
      let m : nat_abs c ≤ 0 = omega (arith, mul-le-mul_right (nat_abs c) (radius-above c)) in
      let w = abs? (int (tangent_of r (suc i)).grade ⊖ int (tangent_of r i).grade) 0 m in
      eq! (int (tangent_of r (suc i)).grade) (int (tangent_of r i).grade) (omega arith)
