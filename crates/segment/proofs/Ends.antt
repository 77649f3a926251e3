-- The curvature between the two ends of an element. What one end gives is one fraction; by the kinds that there are, the sum of both is one fraction too.
use mathlib.Core.Path.{◌≡◌, ap, ap₂, subst, ◌∙◌}
use mathlib.Core.List.{[], ◌∷◌}
use Prim.Native.Nat.{ℕ, ◌*◌, ◌≤◌, ◌<◌}
use native.Mathlib.Omega.{arith}
use native.Mathlib.Nat.{mul-le-mul}
use lib.IntN.{ℤ, pos, ◌-ℤ◌, ◌*ℤ◌, nat_abs}
use lib.Signed.{◌<ℤ◌}
use mir.Syntax.{w64}
use mir.Val.{SFits}
use Rattle.integers.specs.Bridge.{nat, ◌⊗◌, lt!, abs_mul, abs_product}
use Rattle.integers.specs.Ring.{◌:+◌, ◌:-◌, ◌:*◌, #, ring, $}
use Rattle.integers.specs.Fraction.{◌÷◌, ◌+ᶠ◌, ◌×ᶠ◌}
use Rattle.integers.specs.Values.{positive-mul}
use Rattle.integers.specs.Rounding.{round, rounded}
use Rattle.integers.proofs.RoundingLaws.{rounded-value}
use Rattle.integers.specs.Width.{fits64, divisor, above_zero, Doubles}
use Rattle.std.proofs.Math.Logic.{∥∥₁_elim}
use Rattle.std.proofs.Props.{props}
use Rattle.segment.specs.Segment.{SizedEnd, Sound, Joined, from_zero, to_zero, same-arc, egg, past, value_of, curvature_in}
use Rattle.segment.specs.Sizes.{OfEnd, OnEgg}
use Rattle.segment.specs.Short.{remaining-small}
use Rattle.segment.specs.declared.End.{End}
use Rattle.segment.specs.declared.Segment.{Segment}
use Rattle.segment.proofs.Laws.{round-multiple}

module _ {e : End} (p : SizedEnd e) where
  pub turn-fits : SFits w64 e.turn
  turn-fits = fits64 e.turn (omega (arith, p.turn))

  pub radius-fits : SFits w64 e.radius
  radius-fits = fits64 e.radius (omega (arith, p.radius-high))

  pub arc_rounds : Doubles e.turn e.radius
  arc_rounds = record { above = p.radius-low; dividend = omega (arith, p.turn); divisor = omega (arith, p.radius-high) }

-- ---- one end
module _ {e : End} {length distance : ℤ} (p : OfEnd e length distance) where
  over-small : nat_abs (e.turn *ℤ distance) ≤ 10000000000000000
  over-small = abs_product e.turn distance {l = 10000000} p.end-size.turn (let h = p.inside in let k = p.length_high in omega arith)

  under-small : nat_abs (e.radius *ℤ length) ≤ 100000000000000
  under-small = abs_product e.radius length p.end-size.radius-high p.length_high

  pub over-fits : SFits w64 (e.turn *ℤ distance)
  over-fits = fits64 (e.turn *ℤ distance) (omega (arith, over-small))

  pub under-fits : SFits w64 (e.radius *ℤ length)
  under-fits = fits64 (e.radius *ℤ length) (omega (arith, under-small))

  under_low : pos 0 <ℤ (e.radius *ℤ length)
  under_low =
      let r = nat_abs e.radius in
      let l = nat_abs length in
      rw (divisor e.radius p.end-size.radius-low, divisor length p.length-low) (lt! (nat 0) (nat r ⊗ nat l) (omega (arith, mul-le-mul (above_zero e.radius p.end-size.radius-low) (above_zero length p.length-low))))

  pub share_rounds : Doubles (e.turn *ℤ distance) (e.radius *ℤ length)
  share_rounds = record { above = under_low; dividend = omega (arith, over-small); divisor = omega (arith, under-small) }

  pub share_answer : {r : ℤ} → r ≡ round (e.turn *ℤ distance) (nat_abs (e.radius *ℤ length)) → r ≡ rounded (value_of e ×ᶠ (distance ÷ nat_abs length))
  unfolding rounded
  share_answer q = q ∙ ap (round (e.turn *ℤ distance)) (abs_mul e.radius length)

-- ---- both ends
module _ {s : Segment} {x : ℕ} (p : Sound s x) where
  abbrev d : ℤ
  d = past s.element x

  abbrev l : ℕ
  l = nat_abs s.curvature.length

  pub of_start : OfEnd s.curvature.start s.curvature.length (s.curvature.length -ℤ d)
  of_start = record { end-size = p.start-size; length-low = p.length-low; length_high = p.length_high; inside = remaining-small s.curvature.length d p.length-low p.element-low p.element-high }

  pub of_end : OfEnd s.curvature.end s.curvature.length d
  of_end = record { end-size = p.end-size; length-low = p.length-low; length_high = p.length_high; inside = p.element-high }

  pub remaining-fits : SFits w64 (s.curvature.length -ℤ d)
  remaining-fits = fits64 (s.curvature.length -ℤ d) (omega (arith, of_start.inside, p.length_high))

  share_positive : {e : End} → SizedEnd e → 0 < nat_abs e.radius * l
  share_positive {e} h = positive-mul (nat_abs e.radius) l (above_zero e.radius h.radius-low) (above_zero s.curvature.length p.length-low)

  both_positive : 0 < (nat_abs s.curvature.start.radius * l) * (nat_abs s.curvature.end.radius * l)
  both_positive = positive-mul (nat_abs s.curvature.start.radius * l) (nat_abs s.curvature.end.radius * l) (share_positive p.start-size) (share_positive p.end-size)

  pub straight-before : s.curvature.start.turn ≡ pos 0 → rounded (value_of s.curvature.end ×ᶠ (d ÷ l)) ≡ rounded (curvature_in s x)
  unfolding curvature_in
  straight-before e = rounded-value (record {
    defined = share_positive p.end-size;
    other-defined = both_positive;
    same = rw e (ring (s.curvature.end.turn ∷ d ∷ (s.curvature.length -ℤ d) ∷ pos (nat_abs s.curvature.start.radius) ∷ pos (nat_abs s.curvature.end.radius) ∷ pos l ∷ [])
        (($ 0 :* $ 1) :* (($ 3 :* $ 5) :* ($ 4 :* $ 5))) (((# 0 :* $ 2) :* ($ 4 :* $ 5) :+ ($ 0 :* $ 1) :* ($ 3 :* $ 5)) :* ($ 4 :* $ 5)) tt);
  })

  pub straight-behind : s.curvature.end.turn ≡ pos 0 → rounded (value_of s.curvature.start ×ᶠ ((s.curvature.length -ℤ d) ÷ l)) ≡ rounded (curvature_in s x)
  unfolding curvature_in
  straight-behind e = rounded-value (record {
    defined = share_positive p.start-size;
    other-defined = both_positive;
    same = rw e (ring (s.curvature.start.turn ∷ d ∷ (s.curvature.length -ℤ d) ∷ pos (nat_abs s.curvature.start.radius) ∷ pos (nat_abs s.curvature.end.radius) ∷ pos l ∷ [])
        (($ 0 :* $ 2) :* (($ 3 :* $ 5) :* ($ 4 :* $ 5))) ((($ 0 :* $ 2) :* ($ 4 :* $ 5) :+ (# 0 :* $ 1) :* ($ 3 :* $ 5)) :* ($ 3 :* $ 5)) tt);
  })

  pub no_curve : s.curvature.start.turn ≡ pos 0 → s.curvature.end.turn ≡ pos 0 → pos 0 ≡ rounded (curvature_in s x)
  unfolding rounded
  no_curve e f = round-multiple (nat_abs s.curvature.end.radius * l) (pos 0) (share_positive p.end-size) (rw f (ring (d ∷ pos (nat_abs s.curvature.end.radius) ∷ pos l ∷ []) (# 0 :* $ 0) (($ 1 :* $ 2) :* # 0) tt)) ∙ straight-before e

  arc : s.curvature.start ≡ s.curvature.end → rounded (value_of s.curvature.start) ≡ rounded (curvature_in s x)
  unfolding curvature_in
  arc e = rounded-value (record {
    defined = above_zero s.curvature.start.radius p.start-size.radius-low;
    other-defined = both_positive;
    same = rw (← e, divisor s.curvature.length p.length-low) (ring (s.curvature.start.turn ∷ d ∷ pos (nat_abs s.curvature.start.radius) ∷ pos l ∷ [])
        ($ 0 :* (($ 2 :* $ 3) :* ($ 2 :* $ 3))) ((($ 0 :* ($ 3 :- $ 1)) :* ($ 2 :* $ 3) :+ ($ 0 :* $ 1) :* ($ 2 :* $ 3)) :* $ 2) tt);
  })

  -- ---- neither end is a straight's
  module _ (a : s.curvature.start.turn ≡ pos 0 → ⊥) (b : s.curvature.end.turn ≡ pos 0 → ⊥) where
    pub arc-between : s.curvature.start.radius ≡ s.curvature.end.radius → rounded (value_of s.curvature.start) ≡ rounded (curvature_in s x)
    arc-between r = ∥∥₁_elim p.joined (Prim.hlevel props) go
      where
        go : Joined s.curvature.start s.curvature.end → rounded (value_of s.curvature.start) ≡ rounded (curvature_in s x)
        go (from_zero e) = absurd (a e)
        go (to_zero e) = absurd (b e)
        go (same-arc e) = arc e
        go (egg e _ _) = arc (ap₂ (λ (t n : ℤ). record { turn = t; radius = n }) e r)

    pub egg-between : (s.curvature.start.radius ≡ s.curvature.end.radius → ⊥) → OnEgg s.curvature d
    egg-between r = ∥∥₁_elim p.joined (Prim.hlevel props) go
      where
        go : Joined s.curvature.start s.curvature.end → OnEgg s.curvature d
        go (from_zero e) = absurd (a e)
        go (to_zero e) = absurd (b e)
        go (same-arc e) = absurd (r (ap (λ (n : End). n.radius) e))
        go (egg e f g) = record {
          start-size = p.start-size;
          end-size = p.end-size;
          same_turn = e;
          start-high = f;
          end-high = g;
          length-low = p.length-low;
          length_high = p.length_high;
          past-low = p.element-low;
          inside = p.element-high;
        }

  pub egg-answer : {r u : ℤ} → u ≡ d → r ≡ rounded (value_of s.curvature.start ×ᶠ ((s.curvature.length -ℤ u) ÷ l) +ᶠ value_of s.curvature.end ×ᶠ (u ÷ l)) → r ≡ rounded (curvature_in s x)
  unfolding curvature_in
  egg-answer {r} q e = subst (λ (u : ℤ). r ≡ rounded (value_of s.curvature.start ×ᶠ ((s.curvature.length -ℤ u) ÷ l) +ᶠ value_of s.curvature.end ×ᶠ (u ÷ l))) q e
