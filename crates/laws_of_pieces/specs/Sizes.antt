-- How large the exact values of an accepted road are, up to T.
use Rattle.std.specs.Prelude.{◌≡◌, Bool, List, ◌∷◌, take, ℤ, negsuc, ◌+ℤ◌, ◌-ℤ◌, ◌*ℤ◌, if◌then◌else◌, Option, None, Some}
use Rattle.std.proofs.Math.Path.{refl}
use Rattle.std.proofs.Math.Bool.{true, false}
use Prim.Native.Nat.{ℕ, zero, suc, ◌+◌, ◌*◌, ◌-◌, ◌≤◌, ◌<◌}
use native.Mathlib.Omega.{arith}
use Rattle.std.proofs.Math.Nat.{mul-le-mul_left}
use Rattle.std.proofs.Math.ListN.{length}
use Rattle.std.proofs.Math.IntN.{pos, nat_abs}
use Rattle.integers.specs.Bridge.{abs_sum, abs_difference, abs_product}
use Rattle.road.specs.Base.{sum_of}
use Rattle.integers.specs.Fraction.{◌÷◌, whole, ◌+ᶠ◌, ◌-ᶠ◌, ◌×ᶠ◌}
use Rattle.road.specs.File.{Road}
use Rattle.road.specs.Exact.{total, tangent_of, point_of, element_of, element_start, element_at, is_straight, is_arc, tangent_start, tangent_at, vertex_count, vertex, half_length, grade_change, past, rise, start_height, tangent_height, curve_at, curve_height, height_by, height, grade_by, grade, Side, crossfall_of, crossfall_by, crossfall, point_at, edge_drop, arc_curvature, end_curvature, start_curvature, clothoid_curvature, curvature_on, curvature, from◌to◌}
use Rattle.road.specs.Lane.{lane_width}
use Rattle.laws_of_lists.specs.All.{All}
use Rattle.laws_of_acceptance.specs.Ranged.{TangentRange}
use Rattle.laws_of_lists.specs.All as all
use Rattle.laws_of_acceptance.specs.Positive.{Accepted, facts}
use Rattle.laws_of_acceptance.specs.Lists.{element-step}
use Rattle.road.specs.declared.Tangent.{Tangent}
use Rattle.laws_of_acceptance.specs.Table.{lane_range}
use Rattle.laws_of_acceptance.specs.Facts.{points-end, tangent-begun, pair-begun, element-begun}
use Rattle.laws_of_acceptance.specs.Ranges.{total-small, tangent-inside, tangent_in, crossfall_in_lem}
use Rattle.laws_of_search.specs.Last.{begun-upto}
use Rattle.laws_of_pieces.specs.Pieces.{OnCurve, curve-found}
use Rattle.laws_of_search.specs.Small.{Small, abs_from, small-sum, small-less, small_product}

rise-small : {l : List Tangent} (i : ℕ) → All TangentRange l → nat_abs (rise (take i l)) ≤ 120000 * sum_of (λ (t : Tangent). t.length) (take i l)
unfolding rise sum_of
rise-small zero a = omega arith
rise-small (suc i) all.none = omega arith
rise-small {l = t ∷ l} (suc i) (all.more p a) =
    let h = abs_sum (t.grade *ℤ pos t.length) (rise (take i l)) (abs_product t.grade (pos t.length) {l = t.length} p.grade (omega arith)) (rise-small i a) in
    omega arith

module _ {r : Road} (A : Accepted r) where
  tangent-size : (i s : ℕ) → i < length r.tangents → s ≤ total r → nat_abs (tangent_height r i s).num ≤ 27000000 * 1000000000000
  unfolding tangent_height start_height tangent_start
  tangent-size i s h l =
      let T = total-small A in
      let st = tangent-inside A i (omega arith) in
      let g = (tangent_in A i h).grade in
      let a = abs_product r.start (pos 1000000) {l = 1000000} A.ranges.profile.start (omega arith) in
      let b = abs_sum (r.start *ℤ pos 1000000) (rise (take i r.tangents)) a (rise-small i A.ranges.profile.tangents.each) in
      let c = abs_product (tangent_of r i).grade (from tangent_start r i to s) g (abs_from (tangent_start r i) s 100000000 (omega arith) (omega arith)) in
      let m = abs_product (r.start *ℤ pos 1000000 +ℤ rise (take i r.tangents)) (pos 1000000) {l = 1000000} b (omega arith) in
      let n = abs_product ((tangent_of r i).grade *ℤ (from tangent_start r i to s)) (pos 1000000) {l = 1000000} c (omega arith) in
      let z = abs_sum ((r.start *ℤ pos 1000000 +ℤ rise (take i r.tangents)) *ℤ pos 1000000) ((tangent_of r i).grade *ℤ (from tangent_start r i to s) *ℤ pos 1000000) m n in
      omega arith

  change-size : (i : ℕ) → i < vertex_count r → nat_abs (grade_change r i) ≤ 240000
  change-size i h = abs_difference (tangent_of r (suc i)).grade (tangent_of r i).grade (tangent_in A (suc i) (omega arith)).grade (tangent_in A i (omega arith)).grade

  -- u, in a curve
  past-size : (i s : ℕ) → OnCurve r i s → nat_abs (past r i s) ≤ 2 * half_length r i
  past-size i s c = let low = c.low in let high = c.high in abs_from (vertex r i) (s + half_length r i) (2 * half_length r i) (omega arith) (omega arith)

  curve-size : (i s : ℕ) → OnCurve r i s → s ≤ total r → nat_abs (curve_height r i s).num ≤ 27240000 * (curve_height r i s).den
  unfolding curve_height tangent_height start_height
  curve-size i s c l =
      let p = c.place in
      let h = half_length r i in
      let t = (tangent_height r i s).num in
      let half = (tangent_in A i (omega arith)).half in
      let a = abs_product t (pos (4 * h * 1000000)) {l = 4 * h * 1000000} (tangent-size i s (omega arith) l) (omega arith) in
      let u = past-size i s c in
      let b = abs_product (grade_change r i) (past r i s *ℤ past r i s) (change-size i p) (abs_product (past r i s) (past r i s) u u) in
      let d = abs_product (grade_change r i *ℤ (past r i s *ℤ past r i s)) (pos 1000000000000) {l = 1000000000000} b (omega arith) in
      let z = abs_sum (t *ℤ pos (4 * h * 1000000)) (grade_change r i *ℤ (past r i s *ℤ past r i s) *ℤ pos 1000000000000) a d in
      omega (arith, mul-le-mul_left h half)

  pub tangent-at : (s : ℕ) → tangent_at r s < length r.tangents
  tangent-at s = (tangent-begun (facts A) s).below

  pub height-small : (s : ℕ) → s ≤ total r → Small (height r s) 27240000
  unfolding Small height tangent_height start_height
  height-small s l = go (curve_at r s) refl
    where
      go : (o : Option ℕ) → curve_at r s ≡ o → 0 < (height_by r s o).den → nat_abs (height_by r s o).num ≤ 27240000 * (height_by r s o).den
      go (Some i) e q = curve-size i s (curve-found r s i e) l
      go None e q = let h = tangent-size (tangent_at r s) s (tangent-at s) l in omega arith

  pub grade-small : (s : ℕ) → Small (grade r s) 360000
  unfolding Small grade
  grade-small s = go (curve_at r s) refl
    where
      go : (o : Option ℕ) → curve_at r s ≡ o → 0 < (grade_by r s o).den → nat_abs (grade_by r s o).num ≤ 360000 * (grade_by r s o).den
      go (Some i) e q =
          let c = curve-found r s i e in
          let p = c.place in
          let h = half_length r i in
          let a = abs_product (tangent_of r i).grade (pos (2 * h)) {l = 2 * h} (tangent_in A i (omega arith)).grade (omega arith) in
          let b = abs_product (grade_change r i *ℤ past r i s) (pos 1) {l = 1} (abs_product (grade_change r i) (past r i s) (change-size i p) (past-size i s c)) (omega arith) in
          let z = abs_sum ((tangent_of r i).grade *ℤ pos (2 * h)) (grade_change r i *ℤ past r i s *ℤ pos 1) a b in
          omega arith
      go None e q = let h = (tangent_in A (tangent_at r s) (tangent-at s)).grade in omega arith

  -- ---- crossfall and edge_drop
  pub crossfall-small : (d : Side) (s : ℕ) → s ≤ total r → Small (crossfall d r s) 240000
  unfolding Small crossfall crossfall_by
  crossfall-small d s l q =
      let F = facts A in
      let i = point_at r s in
      let g = pair-begun F s in
      let p = g.below in
      let w : ℕ = (point_of r (suc i)).station - (point_of r i).station in
      let low = g.from in
      let high = begun-upto g (omega (arith, points-end F)) in
      let c0 = crossfall_in_lem A d i (omega arith) in
      let c1 = crossfall_in_lem A d (suc i) (omega arith) in
      let a = abs_product (crossfall_of d (point_of r i)) (pos w) {l = w} c0 (omega arith) in
      let b = abs_product (crossfall_of d (point_of r (suc i)) -ℤ crossfall_of d (point_of r i)) (from (point_of r i).station to s) (abs_difference (crossfall_of d (point_of r (suc i))) (crossfall_of d (point_of r i)) c1 c0) (abs_from (point_of r i).station s w (omega arith) (omega arith)) in
      let c = abs_product ((crossfall_of d (point_of r (suc i)) -ℤ crossfall_of d (point_of r i)) *ℤ (from (point_of r i).station to s)) (pos 1) {l = 1} b (omega arith) in
      let z = abs_sum (crossfall_of d (point_of r i) *ℤ pos w) ((crossfall_of d (point_of r (suc i)) -ℤ crossfall_of d (point_of r i)) *ℤ (from (point_of r i).station to s) *ℤ pos 1) a c in
      omega arith

  pub drop-small : (d : Side) (s : ℕ) → s ≤ total r → Small (edge_drop d r s) 840
  unfolding Small edge_drop
  drop-small d s l q =
      let lane = (lane_range r).high in
      let a = abs_product (crossfall d r s).num (pos (lane_width r)) {l = 3500} (crossfall-small d s l (omega arith)) lane in
      omega arith

  -- ---- curvature
  arc-curvature-small : (radius : ℤ) → 0 < (arc_curvature radius).den → nat_abs (arc_curvature radius).num ≤ 1000000000 * (arc_curvature radius).den
  arc-curvature-small (pos b) q = omega arith
  arc-curvature-small (negsuc b) q = omega arith

  end-small : (i : ℕ) → Small (end_curvature r i) 1000000000
  unfolding Small end_curvature
  end-small i = go (is_arc (element_of r i))
    where
      go : (b : Bool) → 0 < (if b then arc_curvature (element_of r i).radius else whole (pos 0)).den → nat_abs (if b then arc_curvature (element_of r i).radius else whole (pos 0)).num ≤ 1000000000 * (if b then arc_curvature (element_of r i).radius else whole (pos 0)).den
      go true q = arc-curvature-small (element_of r i).radius q
      go false q = omega arith

  first-end-small : (i : ℕ) → Small (start_curvature r i) 1000000000
  unfolding Small
  first-end-small zero q = omega arith
  first-end-small (suc i) q = end-small i q

  pub curvature-small : (s : ℕ) → s ≤ total r → Small (curvature r s) 3000000000
  unfolding Small curvature curvature_on clothoid_curvature total
  curvature-small s l =
      let i = element_at r s in
      let g = element-begun r s A.ranges.plan.count.low in
      kinds i (element-step r i) g.from (begun-upto g l) (is_straight (element_of r i)) (is_arc (element_of r i))
    where
      kinds : (i : ℕ) → element_start r (suc i) ≡ element_start r i + (element_of r i).length → element_start r i ≤ s → s ≤ element_start r (suc i) → (a b : Bool)
          → Small (if a then whole (pos 0) else (if b then arc_curvature (element_of r i).radius else start_curvature r i +ᶠ (end_curvature r (suc i) -ᶠ start_curvature r i) ×ᶠ ((from element_start r i to s) ÷ (element_of r i).length))) 3000000000
      kinds i e low high true b = λ q. omega arith
      kinds i e low high false true = λ q. omega (arith, arc-curvature-small (element_of r i).radius q)
      kinds i e low high false false =
          small-sum (start_curvature r i) ((end_curvature r (suc i) -ᶠ start_curvature r i) ×ᶠ ((from element_start r i to s) ÷ (element_of r i).length)) 1000000000 2000000000 (first-end-small i)
          (small_product (end_curvature r (suc i) -ᶠ start_curvature r i) ((from element_start r i to s) ÷ (element_of r i).length) 2000000000 1 (small-less (end_curvature r (suc i)) (start_curvature r i) 1000000000 1000000000 (end-small (suc i)) (first-end-small i))
          (λ q. omega (arith, abs_from (element_start r i) s (element_of r i).length (omega arith) (omega arith))))
