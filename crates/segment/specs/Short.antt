-- How large the printed numbers of a sound segment are.
use Rattle.std.specs.Prelude.{◌≡◌, ℕ, ◌*◌, ◌≤◌, ◌<◌, ℤ, negsuc, ◌-ℤ◌, ◌*ℤ◌, ◌≤ℤ◌, ◌<ℤ◌}
use native.Mathlib.Omega.{arith}
use Rattle.std.proofs.Math.Decide.{dec_lt}
use Rattle.std.proofs.Common.{mul-le-mul_left, mul-le-mul_right}
use Rattle.std.proofs.Math.IntN.{pos, nat_abs}
use Rattle.integers.specs.Bridge.{nat, ◌⊖◌, abs!, abs_sum, abs_product}
use Rattle.integers.specs.Fraction.{Frac, ◌÷◌}
use Rattle.integers.specs.Rounding.{rounded}
use Rattle.integers.proofs.RoundingLaws.{round-size}
use Rattle.integers.specs.Values.{positive-mul}
use Rattle.integers.specs.Width.{above_zero}
use Rattle.road.specs.Exact.{Side}
use Rattle.segment.specs.Segment.{SizedEnd, Sound, past, on_tangent, crossfall_over, ramp, height_in, grade_in, crossfall_in, drop_in, curvature_in}
use Rattle.segment.specs.Cases.{height-on-tangent, grade-on-tangent, height_in_curve, grade_in_curve}
use Rattle.segment.specs.declared.End.{End}
use Rattle.segment.specs.declared.Segment.{Segment}

-- a fraction of size at most B, rounded
rounded-size : (f : Frac) (B : ℕ) → 0 < f.den → nat_abs f.num ≤ B * f.den → nat_abs (rounded f) ≤ B
unfolding rounded
rounded-size f B p h = round-size f.num f.den B p h

-- what remains of a length past a distance inside it
pub remaining-small : (l d : ℤ) → pos 0 <ℤ l → pos 0 ≤ℤ d → nat_abs d ≤ nat_abs l → nat_abs (l -ℤ d) ≤ nat_abs l
remaining-small (pos n) (pos m) a b h = abs! (nat n ⊖ nat m) n (omega arith) (omega arith)
remaining-small (pos n) (negsuc m) a b h = absurd b.le
remaining-small (negsuc n) d a b h = absurd a.lt

-- on a tangent and in a curve
by_curve : {P : Type 0} (n : ℕ) → (n ≡ 0 → P) → (0 < n → P) → P
by_curve {P} n f g = go (dec_lt 0 n)
  where
    go : Dec (0 < n) → P
    go (yes p) = g p
    go (no p) = f (omega arith)

module _ {s : Segment} {x : ℕ} (p : Sound s x) where
  pub height-size : nat_abs (rounded (height_in s x)) ≤ 27480000
  height-size = by_curve (nat_abs s.piece.half)
      (λ e. rw (height-on-tangent s x e) (rounded-size (on_tangent s x ÷ 1000000) 27480000 (omega arith) (omega (arith, p.height))))
      (λ c.
      let h = nat_abs s.piece.half in
      let u = (p.in_curve_lem c).1 in
      let a = abs_product (on_tangent s x) (pos (4 * h)) {l = 4 * h} p.height (omega arith) in
      let b = abs_product s.piece.change (past s.piece.from x *ℤ past s.piece.from x) p.change (abs_product (past s.piece.from x) (past s.piece.from x) u u) in
      rw (height_in_curve s x c) (rounded-size _ 27480000 (omega arith)
      (omega (arith, abs_sum (on_tangent s x *ℤ pos (4 * h)) (s.piece.change *ℤ (past s.piece.from x *ℤ past s.piece.from x)) a b, mul-le-mul_left h p.half_high))))

  pub grade-size : nat_abs (rounded (grade_in s x)) ≤ 360000
  grade-size = by_curve (nat_abs s.piece.half)
      (λ e. rw (grade-on-tangent s x e) (rounded-size (s.piece.grade ÷ 1) 360000 (omega arith) (omega (arith, p.grade))))
      (λ c.
      let h = nat_abs s.piece.half in
      let a = abs_product s.piece.grade (pos (2 * h)) {l = 2 * h} p.grade (omega arith) in
      let b = abs_product s.piece.change (past s.piece.from x) p.change (p.in_curve_lem c).1 in
      rw (grade_in_curve s x c) (rounded-size _ 360000 (omega arith) (omega (arith, abs_sum (s.piece.grade *ℤ pos (2 * h)) (s.piece.change *ℤ past s.piece.from x) a b))))

  module _ (d : Side) where
    over-size : nat_abs (crossfall_over d s x) ≤ 240000 * nat_abs s.sides.span
    over-size =
        let n = nat_abs s.sides.span in
        let a = abs_product ((ramp d s).start) s.sides.span {l = n} (p.sides d).0 (omega arith) in
        let b = abs_product ((ramp d s).change) (past s.sides.point x) (p.sides d).1 p.point-high in
        omega (arith, abs_sum ((ramp d s).start *ℤ s.sides.span) ((ramp d s).change *ℤ past s.sides.point x) a b)

    pub crossfall-size : nat_abs (rounded (crossfall_in d s x)) ≤ 240000
    unfolding crossfall_in
    crossfall-size = rounded-size (crossfall_over d s x ÷ nat_abs s.sides.span) 240000 (above_zero s.sides.span p.span_low) over-size

    pub drop-size : nat_abs (rounded (drop_in d s x)) ≤ 840
    unfolding drop_in
    drop-size = let l = above_zero s.sides.span p.span_low in
        rounded-size ((crossfall_over d s x *ℤ s.lane) ÷ (nat_abs s.sides.span * 1000000)) 840 (omega arith) (omega (arith, abs_product (crossfall_over d s x) s.lane over-size p.lane))

  -- what one end of the element gives, over its radius and the length
  share_size : {e : End} → SizedEnd e → (u : ℤ) → nat_abs u ≤ nat_abs s.curvature.length → nat_abs (e.turn *ℤ u) ≤ 1000000000 * (nat_abs e.radius * nat_abs s.curvature.length)
  share_size {e} h u l = omega (arith, abs_product e.turn u h.turn l, mul-le-mul_right (nat_abs s.curvature.length) (above_zero e.radius h.radius-low))

  pub curvature-size : nat_abs (rounded (curvature_in s x)) ≤ 2000000000
  unfolding curvature_in
  curvature-size =
      let d = past s.element x in
      let l = nat_abs s.curvature.length in
      let positive = above_zero s.curvature.length p.length-low in
      let A = nat_abs s.curvature.start.radius * l in
      let B = nat_abs s.curvature.end.radius * l in
      let a = share_size p.start-size (s.curvature.length -ℤ d) (remaining-small s.curvature.length d p.length-low p.element-low p.element-high) in
      let b = share_size p.end-size d p.element-high in
      rounded-size _ 2000000000
      (positive-mul A B (positive-mul (nat_abs s.curvature.start.radius) l (above_zero s.curvature.start.radius p.start-size.radius-low) positive) (positive-mul (nat_abs s.curvature.end.radius) l (above_zero s.curvature.end.radius p.end-size.radius-low) positive))
      (omega (
        arith,
        abs_sum (s.curvature.start.turn *ℤ (s.curvature.length -ℤ d) *ℤ pos B) (s.curvature.end.turn *ℤ d *ℤ pos A)
            (abs_product (s.curvature.start.turn *ℤ (s.curvature.length -ℤ d)) (pos B) {l = B} a (omega arith)) (abs_product (s.curvature.end.turn *ℤ d) (pos A) {l = A} b (omega arith)),
      ))
