-- Request A.2: "A crossfall of opposite sign should give the opposite drop". So, as printed, the edges of a superelevated arc lie as far above the axis as below it.
use Rattle.std.specs.Prelude.{◌≡◌, refl, true, ℕ, suc, ◌≤◌, ◌<◌, length, pos, ◌+ℤ◌, ◌*ℤ◌, neg_ℤ}
use Rattle.std.proofs.Common.{ap, ◌∙◌, arith}
use Rattle.integers.specs.Bridge.{int, nat, ◌⊕◌, ◌⊗◌, neg, eq!, eq?}
use Rattle.integers.specs.Fraction.{◌÷◌, whole, opposite, ◌×ᶠ◌, ◌≈ᶠ◌}
use Rattle.integers.specs.Values.{same-value, other_way, ◌then◌, mul-value, opposite-value, opposite_product}
use Rattle.integers.specs.Rounding.{rounded}
use Rattle.integers.proofs.RoundingLaws.{rounded-value, rounded-opposite}
use Rattle.road.specs.File.{Road}
use Rattle.road.specs.Lane.{lane_width}
use Rattle.road.specs.Exact.{element_of, element_start, is_arc, height, Side, left, right, crossfall, edge_drop}
use Rattle.road.specs.Line.{printed_edge}
use Rattle.laws_of_acceptance.specs.Positive.{Accepted}
use Rattle.laws_of_pieces.specs.Superelevation.{Constant, Superelevated, start_point, accepted-arc}

-- where the lane is as wide, on any two sides at any two stations, of one road or of two
pub opposite-drop : (d e : Side) (r q : Road) (s t : ℕ) → lane_width r ≡ lane_width q → crossfall d r s ≈ᶠ opposite (crossfall e q t) → rounded (edge_drop d r s) ≡ neg_ℤ (rounded (edge_drop e q t))
unfolding edge_drop
opposite-drop d e r q s t lane h =
    let c = crossfall e q t in
    let w = pos (lane_width r) ÷ 1000000 in
    rounded-value (mul-value w (omega arith) h)
    ∙ ap rounded (opposite_product c w)
    ∙ rounded-opposite (c ×ᶠ w)
    ∙ ap (λ (lane : ℕ). neg_ℤ (rounded (c ×ᶠ (pos lane ÷ 1000000)))) lane

-- the two sides of a superelevated arc of an accepted road, at each of its stations
module _ {r : Road} (A : Accepted r) (i : ℕ) (within : i < length r.plan) (is-arc : is_arc (element_of r i) ≡ true)
    (form : Superelevated (element_of r i).radius (start_point r i)) (s : ℕ) (low : element_start r i ≤ s) (high : s ≤ element_start r (suc i)) where
  sides-opposite : crossfall left r s ≈ᶠ opposite (crossfall right r s)
  unfolding Constant
  sides-opposite =
      let steady = (accepted-arc A i within is-arc).0 in
      steady left s low high then same-value (omega arith) (ap whole form.opposite) then opposite-value (other_way (steady right s low high))

  pub arc-drops : rounded (edge_drop left r s) ≡ neg_ℤ (rounded (edge_drop right r s))
  arc-drops = opposite-drop left right r r s s refl sides-opposite

  pub arc_edges : printed_edge left r s +ℤ printed_edge right r s ≡ pos 2 *ℤ rounded (height r s)
  unfolding printed_edge
  arc_edges =
      let h = int (rounded (height r s)) in
      let c = int (rounded (edge_drop left r s)) in
      let d = int (rounded (edge_drop right r s)) in
      eq! (h ⊕ c ⊕ (h ⊕ d)) (nat 2 ⊗ h) (omega (arith, eq? c (neg d) arc-drops))
