-- The exact crossfall at a station is that of any pair of neighbouring points that has the station between them.
use Rattle.std.specs.Prelude.{◌≡◌, [], ◌∷◌, ℕ, suc, ◌*◌, ◌-◌, ◌≤◌, ◌<◌, length, ℤ, pos, ◌+ℤ◌, ◌-ℤ◌, ◌*ℤ◌}
use native.Mathlib.Omega.{arith}
use Rattle.integers.specs.Ring.{◌:+◌, ◌:-◌, ◌:*◌, #, ring, $}
use Rattle.integers.specs.Fraction.{whole, ◌≈ᶠ◌}
use Rattle.integers.specs.Values.{other_way, ◌then◌}
use Rattle.road.specs.File.{Road}
use Rattle.road.specs.Exact.{Side, point_of, point_at, crossfall_of, crossfall_by, crossfall, from◌to◌}
use Rattle.laws_of_acceptance.specs.Facts.{Facts, order}
use Rattle.laws_of_acceptance.specs.PointsInOrder.{PointOrder}
use Rattle.laws_of_pieces.specs.Joints.{none_from, ahead_by}
use Rattle.laws_of_search.specs.Items.{EndToEnd, value-at}

pub record BetweenPoints (r : Road) (i s : ℕ) : Type 0 where
  pub place : suc i < length r.crossfalls
  pub low : (point_of r i).station ≤ s
  pub high : s ≤ (point_of r (suc i)).station

abbrev places : Road → ℕ → ℕ
places r i = (point_of r i).station

-- a pair has its points' crossfalls at its ends
at_first : (c c' u : ℤ) (k : ℕ) → u ≡ pos 0 → (c *ℤ pos k +ℤ ((c' -ℤ c) *ℤ u) *ℤ pos 1) *ℤ pos 1 ≡ c *ℤ pos (1 * k)
at_first c c' u k e = rw e (ring (c ∷ c' ∷ pos k ∷ []) (($ 0 :* $ 2 :+ (($ 1 :- $ 0) :* # 0) :* # 1) :* # 1) ($ 0 :* (# 1 :* $ 2)) tt)

at_second : (c c' u : ℤ) (k : ℕ) → u ≡ pos k → (c *ℤ pos k +ℤ ((c' -ℤ c) *ℤ u) *ℤ pos 1) *ℤ pos 1 ≡ c' *ℤ pos (1 * k)
at_second c c' u k e = rw e (ring (c ∷ c' ∷ pos k ∷ []) (($ 0 :* $ 2 :+ (($ 1 :- $ 0) :* $ 2) :* # 1) :* # 1) ($ 1 :* (# 1 :* $ 2)) tt)

module _ {r : Road} (P : PointOrder r) (d : Side) where
  pub by_positive : (i s : ℕ) → suc i < length r.crossfalls → 0 < (crossfall_by d r i s).den
  unfolding crossfall_by
  by_positive i s h = let l = P.ascend i h in omega arith

  pub pair-first : (i s : ℕ) → suc i < length r.crossfalls → s ≡ places r i → crossfall_by d r i s ≈ᶠ whole (crossfall_of d (point_of r i))
  unfolding crossfall_by
  pair-first i s h e = record {
    defined = by_positive i s h;
    other-defined = omega arith;
    same = at_first (crossfall_of d (point_of r i)) (crossfall_of d (point_of r (suc i))) (from places r i to s) (places r (suc i) - places r i) (none_from (places r i) s e);
  }

  pub pair-second : (i s : ℕ) → suc i < length r.crossfalls → s ≡ places r (suc i) → crossfall_by d r i s ≈ᶠ whole (crossfall_of d (point_of r (suc i)))
  unfolding crossfall_by
  pair-second i s h e =
      let l = P.ascend i h in
      record {
        defined = by_positive i s h;
        other-defined = omega arith;
        same = at_second (crossfall_of d (point_of r i)) (crossfall_of d (point_of r (suc i))) (from places r i to s) (places r (suc i) - places r i) (ahead_by (places r i) s (places r (suc i) - places r i) (omega arith));
      }

  pairs : EndToEnd (places r) (length r.crossfalls - 1) (crossfall_by d r)
  pairs = record {
    ascends = λ i h. P.ascend i (omega arith);
    positive = λ i s h. by_positive i s (omega arith);
    joint = λ i s h e. pair-second i s (omega arith) e then other_way (pair-first (suc i) s (omega arith) e);
  }

  pub crossfall_by_lem : (i s : ℕ) → BetweenPoints r i s → crossfall d r s ≈ᶠ crossfall_by d r i s
  unfolding crossfall point_at
  crossfall_by_lem i s b = let p = b.place in value-at pairs i s (omega arith) b.low b.high

-- of an accepted road
pub crossfall-between : {r : Road} → Facts r → (d : Side) (i s : ℕ) → BetweenPoints r i s → crossfall d r s ≈ᶠ crossfall_by d r i s
crossfall-between F d i s b = crossfall_by_lem (order F) d i s b
