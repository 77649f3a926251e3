-- The line between the printed heights at two neighbouring stations of an accepted road, at any point of the lane.
use Rattle.std.specs.Prelude.{◌≡◌, [], ◌∷◌, ℤ, ◌*ℤ◌, Option, None, Some}
use Rattle.std.proofs.Math.Path.{refl}
use Rattle.std.proofs.Common.{sym, ap₂, subst, subst₂, arith}
use Prim.Native.Nat.{ℕ, ◌+◌, ◌*◌, ◌-◌, ◌≤◌, ◌<◌}
use Rattle.std.proofs.Math.IntN.{pos}
use Rattle.integers.specs.Ring.{◌:+◌, ◌:-◌, ◌:*◌, #, ring, $}
use Rattle.integers.specs.Rounding.{rounded}
use Rattle.integers.specs.Fraction.{Frac, ◌÷◌, whole, ◌+ᶠ◌, ◌-ᶠ◌, ◌×ᶠ◌, size, ◌≤ᶠ◌, ◌≈ᶠ◌}
use Rattle.integers.specs.Values.{positive-mul, other_way, add-value, mul-value, far-value}
use Rattle.road.specs.File.{Road}
use Rattle.road.specs.Exact.{Side, total, tangent_height, start_height, curve_height, height, crossfall_by, edge_drop, edge, half_length, grade_change}
use Rattle.road.specs.Lane.{lane_width}
use Rattle.road.specs.Line.{printed_edge}
use Rattle.road.specs.Blade.{Neighbouring, blade, one_curve, sagitta, bound}
use Rattle.laws_of_acceptance.specs.Facts.{Facts}
use Rattle.laws_of_pieces.specs.Heights.{height-curve, height-straight}
use Rattle.laws_of_pieces.specs.Crossfalls.{crossfall-between}
use Rattle.laws_of_pieces.specs.OnePiece.{one-curve, straight-over, points-over}
use Rattle.laws_of_blade.specs.Surface.{surface, printed_surface, straight}
use Rattle.laws_of_blade.specs.Chord.{chord_above_sum}
use Rattle.laws_of_blade.specs.PrintedNear.{printed-near}
use Rattle.laws_of_blade.specs.ChordsAbove.{drop_by, tangent_chord_above, curve_chord_above, drop_chord_above}
use Rattle.laws_of_blade.specs.Bound.{width_positive, straight-bound, curve-bound}

module _ (k m : ℕ) (part : k ≤ m) (above : 0 < m) where
  -- the exact height of a point at s, by a height and a crossfall of the same values
  record SurfaceBy (d : Side) (r : Road) (H : Frac) (j s : ℕ) : Type 0 where
    heights : height r s ≈ᶠ H
    drops : edge_drop d r s ≈ᶠ crossfall_by d r j s ×ᶠ (pos (lane_width r) ÷ 1000000)

  surface-value : {d : Side} {r : Road} {H : Frac} {j s : ℕ} → SurfaceBy d r H j s → surface k m d r s ≈ᶠ H +ᶠ drop_by k m d r j s
  unfolding surface
  surface-value e = add-value e.heights (mul-value (pos k ÷ m) above e.drops)

  -- the printed height, measured from them
  near-value : {d : Side} {r : Road} {H : Frac} {j s : ℕ} → SurfaceBy d r H j s → size (printed_surface k m d r s -ᶠ (H +ᶠ drop_by k m d r j s)) ≤ᶠ whole (pos 1)
  unfolding printed_surface
  near-value {d} {r} {H} {j} {s} e = far-value (printed_surface k m d r s) (whole (pos 1)) (omega arith) (surface-value e) (printed-near k m part above d r s e.heights.defined e.drops.defined)

  module _ {r : Road} (F : Facts r) (d : Side) (a s t : ℕ) (long : 0 < s + t) (end : a + s + t ≤ total r) (n : Neighbouring r a (a + s + t)) where
    abbrev P : ℤ
    P = (printed_surface k m d r a).num

    abbrev Q : ℤ
    Q = (printed_surface k m d r (a + s + t)).num

    abbrev B : Frac
    B = straight (printed_surface k m d r a) (printed_surface k m d r (a + s + t)) a (a + s + t) (a + s)

    line-positive : 0 < B.den
    unfolding straight printed_surface
    line-positive = width_positive (1 * (1 * m)) a s t (omega arith) long

    abbrev j : ℕ
    j = (points-over F a (a + s + t) n end).index

    drop-value : (x : ℕ) → a ≤ x → x ≤ a + s + t → edge_drop d r x ≈ᶠ crossfall_by d r j x ×ᶠ (pos (lane_width r) ÷ 1000000)
    unfolding edge_drop
    drop-value x l u = mul-value (pos (lane_width r) ÷ 1000000) (omega arith) (crossfall-between F d j x ((points-over F a (a + s + t) n end).on x l u))

    on-straight : one_curve r a (a + s + t) ≡ None → size (B -ᶠ surface k m d r (a + s)) ≤ᶠ whole (pos 1) +ᶠ whole (pos 0)
    unfolding tangent_height start_height crossfall_by printed_surface
    on-straight free =
        let S = straight-over F a (a + s + t) n end free in
        let i = S.index in
        let e : (x : ℕ) → a ≤ x → x ≤ a + s + t → SurfaceBy d r (tangent_height r i x) j x = λ x l u. record { heights = height-straight F i x (omega arith) (S.on x l u); drops = drop-value x l u } in
        let c : ℕ = (drop_by k m d r j a).den in
        let pc : 0 < c = positive-mul _ m (drop-value a (omega arith) (omega arith)).other-defined above in
        far-value B (whole (pos 1) +ᶠ whole (pos 0)) line-positive (other_way (surface-value (e (a + s) (omega arith) (omega arith))))
        (straight-bound (1 * (1 * m)) a s t (omega arith) long (λ x. (tangent_height r i x +ᶠ drop_by k m d r j x).num) P Q (1000000000000 * c) c (omega arith)
        (chord_above_sum (λ x. (tangent_height r i x).num) (λ x. (drop_by k m d r j x).num) 1000000000000 c a s t (pos 0) (tangent_chord_above r i a s t) (drop_chord_above k m d r j a s t))
        (near-value (e a (omega arith) (omega arith))) (near-value (e (a + s + t) (omega arith) (omega arith))))

    in_one_curve : (i : ℕ) → one_curve r a (a + s + t) ≡ Some i → size (B -ᶠ surface k m d r (a + s)) ≤ᶠ whole (pos 1) +ᶠ sagitta r (a + s + t - a) (Some i)
    unfolding curve_height tangent_height start_height crossfall_by printed_surface
    in_one_curve i w =
        let e : (x : ℕ) → a ≤ x → x ≤ a + s + t → SurfaceBy d r (curve_height r i x) j x = λ x l u. record { heights = height-curve F i x (one-curve r a (a + s + t) i w x l u); drops = drop-value x l u } in
        let c : ℕ = (drop_by k m d r j a).den in
        let pc : 0 < c = positive-mul _ m (drop-value a (omega arith) (omega arith)).other-defined above in
        far-value B (whole (pos 1) +ᶠ sagitta r (a + s + t - a) (Some i)) line-positive (other_way (surface-value (e (a + s) (omega arith) (omega arith))))
        (curve-bound (1 * (1 * m)) a s t (omega arith) long (λ x. (curve_height r i x +ᶠ drop_by k m d r j x).num) P Q (half_length r i) c (grade_change r i) (one-curve r a (a + s + t) i w a (omega arith) (omega arith)).long pc
        (chord_above_sum (λ x. (curve_height r i x).num) (λ x. (drop_by k m d r j x).num) (1000000000000 * (4 * half_length r i * 1000000)) c a s t (grade_change r i *ℤ pos 1000000000000) (curve_chord_above r i a s t) (drop_chord_above k m d r j a s t))
        (near-value (e a (omega arith) (omega arith))) (near-value (e (a + s + t) (omega arith) (omega arith))))

    steps : size (B -ᶠ surface k m d r (a + s)) ≤ᶠ bound r a (a + s + t)
    unfolding bound
    steps = go (one_curve r a (a + s + t)) refl
      where
        go : (o : Option ℕ) → one_curve r a (a + s + t) ≡ o → size (B -ᶠ surface k m d r (a + s)) ≤ᶠ whole (pos 1) +ᶠ sagitta r (a + s + t - a) o
        go None e = on-straight e
        go (Some i) e = in_one_curve i e

  -- k / m of the way from the axis to an edge, the line between the printed heights is as close to the exact one as demand 3 says
  pub surface-between : {r : Road} → Facts r → (d : Side) (a b x : ℕ) → Neighbouring r a b → b ≤ total r → a ≤ x → x ≤ b
      → size (straight (printed_surface k m d r a) (printed_surface k m d r b) a b x -ᶠ surface k m d r x) ≤ᶠ bound r a b
  surface-between {r} F d a b x n end l u =
      let ab = n.before in
      let s : ℕ = x - a in
      let t : ℕ = b - x in
      let eb : a + s + t ≡ b = omega arith in
      let ex : a + s ≡ x = omega arith in
      let f = steps F d a s t (omega arith) (omega arith) (subst (Neighbouring r a) (sym eb) n) in
      subst (λ (y : ℕ). size (straight (printed_surface k m d r a) (printed_surface k m d r b) a b y -ᶠ surface k m d r y) ≤ᶠ bound r a b) ex
      (subst (λ (c : ℕ). size (straight (printed_surface k m d r a) (printed_surface k m d r c) a c (a + s) -ᶠ surface k m d r (a + s)) ≤ᶠ bound r a c) eb f)

-- ---- the edge: all of the way

edge-whole : (d : Side) (r : Road) (s : ℕ) → surface 1 1 d r s ≡ edge d r s
unfolding surface edge
edge-whole d r s =
    let h = height r s in
    let e = edge_drop d r s in
    ap₂ ◌÷◌ (ring (h.num ∷ e.num ∷ pos h.den ∷ pos e.den ∷ []) ($ 0 :* ($ 3 :* # 1) :+ $ 1 :* # 1 :* $ 2) ($ 0 :* $ 3 :+ $ 1 :* $ 2) tt) (omega arith)

blade-whole : (d : Side) (r : Road) (a b x : ℕ) → straight (printed_surface 1 1 d r a) (printed_surface 1 1 d r b) a b x ≡ blade (printed_edge d r a) (printed_edge d r b) a b x
unfolding straight printed_surface printed_edge blade
blade-whole d r a b x = ap₂ ◌÷◌
    (ring (rounded (height r a) ∷ rounded (edge_drop d r a) ∷ rounded (height r b) ∷ rounded (edge_drop d r b) ∷ pos (b - a) ∷ pos x ∷ pos a ∷ [])
    (($ 0 :* # 1 :+ $ 1 :* # 1 :* # 1) :* (# 1 :* $ 4) :+ (($ 2 :* # 1 :+ $ 3 :* # 1 :* # 1) :* # 1 :- ($ 0 :* # 1 :+ $ 1 :* # 1 :* # 1) :* # 1) :* ($ 5 :- $ 6) :* # 1)
    (($ 0 :+ $ 1) :* $ 4 :+ ($ 2 :+ $ 3 :- ($ 0 :+ $ 1)) :* ($ 5 :- $ 6) :* # 1) tt)
    (omega arith)

pub between : {r : Road} → Facts r → (d : Side) (a b x : ℕ) → Neighbouring r a b → b ≤ total r → a ≤ x → x ≤ b
    → size (blade (printed_edge d r a) (printed_edge d r b) a b x -ᶠ edge d r x) ≤ᶠ bound r a b
between {r} F d a b x n end l u =
    subst₂ (λ (y z : Frac). size (y -ᶠ z) ≤ᶠ bound r a b) (blade-whole d r a b x) (edge-whole d r x)
    (surface-between 1 1 (omega arith) (omega arith) F d a b x n end l u)
