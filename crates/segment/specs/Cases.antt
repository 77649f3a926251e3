-- Height and grade of a segment by cases: on a tangent, and in a vertical curve.
use Rattle.std.specs.Prelude.{◌≡◌, Bool, true, false, ℕ, ◌*◌, ◌<◌, eqb, pos, ◌+ℤ◌, ◌*ℤ◌, nat_abs, if◌then◌else◌}
use Rattle.std.proofs.Common.{arith, eq-eqb, ne_eqb}
use Rattle.integers.specs.Fraction.{◌÷◌, whole}
use Rattle.segment.specs.Segment.{past, on_tangent, height_in, grade_in}
use Rattle.segment.specs.declared.Segment.{Segment}

first-case : {A : Type 0} (b : Bool) (a c : A) → b ≡ true → (if b then a else c) ≡ a
first-case b a c e = rw e

second-case : {A : Type 0} (b : Bool) (a c : A) → b ≡ false → (if b then a else c) ≡ c
second-case b a c e = rw e

module _ (s : Segment) (x : ℕ) where
  module _ (on-tangent : nat_abs s.piece.half ≡ 0) where
    pub height-on-tangent : height_in s x ≡ on_tangent s x ÷ 1000000
    unfolding height_in
    height-on-tangent = first-case (eqb (nat_abs s.piece.half) 0) _ _ (eq-eqb (nat_abs s.piece.half) 0 on-tangent)

    pub grade-on-tangent : grade_in s x ≡ whole s.piece.grade
    unfolding grade_in
    grade-on-tangent = first-case (eqb (nat_abs s.piece.half) 0) _ _ (eq-eqb (nat_abs s.piece.half) 0 on-tangent)

  module _ (in_curve_lem : 0 < nat_abs s.piece.half) where
    pub height_in_curve : height_in s x ≡ (on_tangent s x *ℤ pos (4 * nat_abs s.piece.half) +ℤ s.piece.change *ℤ (past s.piece.from x *ℤ past s.piece.from x)) ÷ (4 * nat_abs s.piece.half * 1000000)
    unfolding height_in
    height_in_curve = second-case (eqb (nat_abs s.piece.half) 0) _ _ (ne_eqb (nat_abs s.piece.half) 0 (λ e. omega arith))

    pub grade_in_curve : grade_in s x ≡ (s.piece.grade *ℤ pos (2 * nat_abs s.piece.half) +ℤ s.piece.change *ℤ past s.piece.from x) ÷ (2 * nat_abs s.piece.half)
    unfolding grade_in
    grade_in_curve = second-case (eqb (nat_abs s.piece.half) 0) _ _ (ne_eqb (nat_abs s.piece.half) 0 (λ e. omega arith))
