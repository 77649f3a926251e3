-- Sums along the lists of a road: where the next item begins, and a running sum of lengths.
use Rattle.std.specs.Prelude.{◌≡◌, refl, List, [], ◌∷◌, ℕ, zero, suc, ◌+◌, ◌*◌, ◌<◌, ◌≤◌, take, get_or}
use Rattle.std.proofs.Common.{sym, ap, arith, add-one}
use Rattle.road.specs.Base.{sum_of}
use Rattle.road.specs.File.{Road}
use Rattle.road.specs.Exact.{blank_element, blank_tangent, element_of, tangent_of, element_start, tangent_start}
use Rattle.road.specs.declared.Element.{Element}
use Rattle.road.specs.declared.Tangent.{Tangent}

-- one more item; past the end the blank item adds nothing
pub sum_step : {A : Type 0} (f : A → ℕ) (d : A) (l : List A) (i : ℕ) → f d ≡ 0 → sum_of f (take (suc i) l) ≡ sum_of f (take i l) + f (get_or l i d)
unfolding sum_of
sum_step f d [] zero z = omega arith
sum_step f d [] (suc i) z = omega arith
sum_step f d (a ∷ l) zero z = omega arith
sum_step f d (a ∷ l) (suc i) z = let h = sum_step f d l i z in omega arith

-- the next item begins where this one ends
pub element-step : (r : Road) (i : ℕ) → element_start r (suc i) ≡ element_start r i + (element_of r i).length
unfolding element_start
element-step r i = sum_step (λ (e : Element). e.length) blank_element r.plan i refl

pub tangent-step : (r : Road) (i : ℕ) → tangent_start r (suc i) ≡ tangent_start r i + (tangent_of r i).length
unfolding tangent_start
tangent-step r i = sum_step (λ (t : Tangent). t.length) blank_tangent r.tangents i refl

-- a running sum of lengths, i of n items on
pub record Sums (start : ℕ → ℕ) (n i sum : ℕ) : Type 0 where
  pub few : n ≤ 201
  pub within : i ≤ n
  pub is : sum ≡ start i
  pub small : sum ≤ 4294967295 * i

pub sums_start : {start : ℕ → ℕ} {n : ℕ} → n ≤ 201 → start 0 ≡ 0 → Sums start n 0 0
sums_start h e = record { few = h; within = omega arith; is = sym e; small = omega arith }

module _ {start : ℕ → ℕ} {n i sum : ℕ} (s : Sums start n i sum) where
  pub sums_on : {length : ℕ} → i < n → length ≤ 4294967295 → start (suc i) ≡ start i + length → Sums start n (i + 1) (sum + length)
  sums_on h small e =
      let few = s.few in
      let is = s.is in
      let low = s.small in
      let next : start (i + 1) ≡ start (suc i) = ap start (add-one i) in
      record { few = few; within = omega arith; is = omega arith; small = omega arith }
