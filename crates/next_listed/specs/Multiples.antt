-- Of the multiples of step below T, the least that is not below s is s rounded up to a multiple, where that is below T.
use Rattle.std.specs.Prelude.{◌≡◌, refl, [], ◌∷◌, map, Option}
use Rattle.std.proofs.Common.{sym, ap, ◌∙◌, div-add-mod', mod-lt}
use Prim.Native.Nat.{ℕ, zero, suc, ◌+◌, ◌*◌, ◌-◌, ◌/◌, ◌%◌, ◌≤◌, ◌<◌}
use native.Mathlib.Omega.{arith}
use Rattle.std.proofs.Math.Decide.{dec_lt}
use Rattle.std.proofs.Math.Nat.{mul-le-mul_right}
use Rattle.road.specs.Base.{count_from}
use Rattle.road.specs.Listed.{counted, multiples}
use Rattle.next_listed.specs.declared.Search.{Search}
use Rattle.next_listed.specs.Search.{after, added, not_counted, absorbed}

module _ (s step : ℕ) where
  -- none counts
  none_from : (n i : ℕ) (o : Option ℕ) → ((k : ℕ) → k < i + n → k * step < s) → added s (map (λ k. k * step) (count_from i n)) o ≡ o
  unfolding count_from
  none_from zero i o below = refl
  none_from (suc n) i o below = ap (added s (map (λ k. k * step) (count_from (suc i) n))) (not_counted s (i * step) o (below i (omega arith))) ∙ none_from n (suc i) o (λ k h. below k (omega arith))

  module _ (q : ℕ) (low : (k : ℕ) → k < q → k * step < s) (high : s ≤ q * step) where
    -- beyond the least
    beyond : (n i : ℕ) (o : Option ℕ) → q ≤ i → added s (map (λ k. k * step) (count_from i n)) (counted s (q * step) o) ≡ counted s (q * step) o
    unfolding count_from
    beyond zero i o h = refl
    beyond (suc n) i o h =
        ap (added s (map (λ k. k * step) (count_from (suc i) n))) (absorbed s (q * step) (i * step) o high (mul-le-mul_right step h))
        ∙ beyond n (suc i) o (omega arith)

    one_from : (n i : ℕ) (o : Option ℕ) → i ≤ q → q < i + n → added s (map (λ k. k * step) (count_from i n)) o ≡ counted s (q * step) o
    unfolding count_from
    one_from zero i o h l = absurd (omega arith)
    one_from (suc n) i o h l = go (dec_lt i q) (λ a. one_from n (suc i) o a (omega arith))
      where
        go : Dec (i < q) → (suc i ≤ q → added s (map (λ k. k * step) (count_from (suc i) n)) o ≡ counted s (q * step) o) → added s (map (λ k. k * step) (count_from (suc i) n)) (counted s (i * step) o) ≡ counted s (q * step) o
        go (yes a) rest = ap (added s (map (λ k. k * step) (count_from (suc i) n))) (not_counted s (i * step) o (low i a)) ∙ rest a
        go (no a) rest =
            let e : i ≡ q = omega arith in
            ap (λ (k : ℕ). added s (map (λ k. k * step) (count_from (suc i) n)) (counted s (k * step) o)) e ∙ beyond n (suc i) o (omega arith)

module _ (s step T : ℕ) (p : 0 < step) where
  abbrev count : ℕ
  count = (T + (step - 1)) / step

  below-whole : (k : ℕ) → k < count → k * step < T
  below-whole k h = omega (arith, div-add-mod' (T + (step - 1)) step, mul-le-mul_right step h)

  past : (o : Option ℕ) → T ≤ s → added s (multiples step T) o ≡ o
  unfolding multiples
  past o h = none_from s step count 0 o (λ k l. let b = below-whole k (omega arith) in omega arith)

  module _ (m : ℕ) (low : s ≤ m) (high : m < s + step) (whole : m % step ≡ 0) where
    is : m / step * step ≡ m
    is = let e = div-add-mod' m step in omega arith

    below : (k : ℕ) → k < m / step → k * step < s
    below k h = let e = is in omega (arith, mul-le-mul_right step h)

    none : (o : Option ℕ) → T ≤ m → added s (multiples step T) o ≡ o
    unfolding multiples
    none o h = none_from s step count 0 o (λ k l. go k (omega arith) (dec_lt k (m / step)))
      where
        go : (k : ℕ) → k < count → Dec (k < m / step) → k * step < s
        go k l (yes a) = below k a
        go k l (no a) = let b = below-whole k l in let e = is in absurd (omega (arith, let l : m / step ≤ k = omega arith in mul-le-mul_right step l))

    one : (o : Option ℕ) → m < T → added s (multiples step T) o ≡ counted s m o
    unfolding multiples
    one o h = one_from s step (m / step) below (let e = is in omega arith) count 0 o (omega arith) (go (dec_lt (m / step) count)) ∙ ap (λ (x : ℕ). counted s x o) is
      where
        go : Dec (m / step < count) → m / step < 0 + count
        go (yes a) = omega arith
        go (no a) =
            let e = is in
            let b = mod-lt (T + (step - 1)) p in
            absurd (omega (arith, div-add-mod' (T + (step - 1)) step, let l : count ≤ m / step = omega arith in mul-le-mul_right step l))

-- ---- a search for the least from a station on
module _ (step T : ℕ) (q : Search) (p : 0 < step) where
  -- at T and beyond it
  pub multiples_past : T ≤ q.from → q ≡ after (multiples step T) q
  multiples_past h = ap (λ (o : Option ℕ). record { from = q.from; least = o }) (sym (past q.from step T p q.least h))

  -- the next multiple m from the station on
  module _ (m : ℕ) (low : q.from ≤ m) (high : m < q.from + step) (whole : m % step ≡ 0) where
    pub multiples_none : T ≤ m → q ≡ after (multiples step T) q
    multiples_none h = ap (λ (o : Option ℕ). record { from = q.from; least = o }) (sym (none q.from step T p m low high whole q.least h))

    pub multiples_some : m < T → after (m ∷ []) q ≡ after (multiples step T) q
    multiples_some h = ap (λ (o : Option ℕ). record { from = q.from; least = o }) (sym (one q.from step T p m low high whole q.least h))
