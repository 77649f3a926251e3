-- What a sound segment and station give: every field fits 64 bits, and the small functions get what they ask.
use mathlib.Core.Path.{◌≡◌, sym, ap, ap₂, ◌∙◌}
use Prim.Native.Nat.{ℕ, ◌+◌, ◌*◌, ◌≤◌, ◌<◌}
use native.Mathlib.Omega.{arith}
use native.Mathlib.Nat.{mul-le-mul}
use lib.IntN.{ℤ, pos, negsuc, ◌+ℤ◌, ◌*ℤ◌, nat_abs}
use lib.Signed.{◌≤ℤ◌, ◌<ℤ◌}
use mir.Syntax.{w64}
use mir.Val.{SFits, of_z, to_z}
use mir.Facts.{to_z-of_z}
use Rattle.integers.specs.Bridge.{int, nat, ◌⊖◌, lt!, abs!, abs?, abs_add}
use Rattle.integers.specs.Fraction.{◌÷◌}
use Rattle.integers.specs.Rounding.{round, rounded}
use Rattle.integers.specs.Width.{fits64, above_zero, Doubles}
use Rattle.road.specs.Exact.{Side, left, right}
use Rattle.segment.specs.Segment.{Sound, past, on_tangent, height_in, grade_in, crossfall_in, drop_in, curvature_in, ramp, numbers_in}
use Rattle.segment.specs.declared.Numbers.{Numbers}
use Rattle.segment.specs.Sizes.{InCurve, OnSide, lane_of}
use Rattle.segment.specs.Short.{height-size, crossfall-size, drop-size}
use Rattle.segment.specs.declared.Lane.{Lane}
use Rattle.segment.specs.Cases.{height-on-tangent, grade-on-tangent, height_in_curve, grade_in_curve}
use Rattle.segment.specs.declared.Segment.{Segment}
use Rattle.segment.proofs.Laws.{round_whole}

-- a place from the distance, and the distance from the place
distance_small : (from : ℤ) (x k : ℕ) → nat_abs from ≤ k → nat_abs (past from x) ≤ x + k
distance_small from x k h = let a = abs? (int from) k h in abs! (nat x ⊖ int from) (x + k) (omega arith) (omega arith)

place-small : (from : ℤ) (x k : ℕ) → nat_abs (past from x) ≤ k → nat_abs from ≤ x + k
place-small from x k h = let a = abs? (nat x ⊖ int from) k h in abs! (int from) (x + k) (omega arith) (omega arith)

-- a half length that is 0, and one that is not
bits_zero : (half : ℤ) → pos 0 ≤ℤ half → of_z w64 half ≡ 0 → nat_abs half ≡ 0
bits_zero (pos n) l e = e
bits_zero (negsuc n) l e = absurd l.le

bits-other : (half : ℤ) → pos 0 ≤ℤ half → (of_z w64 half ≡ 0 → ⊥) → pos 0 <ℤ half
bits-other (pos n) l e = lt! (nat 0) (nat n) (let h : n ≡ 0 → ⊥ = e in omega arith)
bits-other (negsuc n) l e = absurd l.le

module _ {s : Segment} {x : ℕ} (p : Sound s x) where
  pub from-fits : SFits w64 s.piece.from
  from-fits = fits64 s.piece.from (omega (arith, p.from-size))

  pub height-fits : SFits w64 s.piece.height
  height-fits = fits64 s.piece.height (omega (arith, p.height-size))

  pub grade-fits : SFits w64 s.piece.grade
  grade-fits = fits64 s.piece.grade (omega (arith, p.grade))

  pub change-fits : SFits w64 s.piece.change
  change-fits = fits64 s.piece.change (omega (arith, p.change))

  pub half-fits : SFits w64 s.piece.half
  half-fits = fits64 s.piece.half (omega (arith, p.half_high))

  pub point-fits : SFits w64 s.sides.point
  point-fits = fits64 s.sides.point (omega (arith, place-small s.sides.point x (nat_abs s.sides.span) p.point-high, p.span_high, p.station))

  pub span_fits : SFits w64 s.sides.span
  span_fits = fits64 s.sides.span (omega (arith, p.span_high))

  pub start_fits : (d : Side) → SFits w64 ((ramp d s).start)
  start_fits d = fits64 ((ramp d s).start) (omega (arith, (p.sides d).0))

  pub slope-fits : (d : Side) → SFits w64 ((ramp d s).change)
  slope-fits d = fits64 ((ramp d s).change) (omega (arith, (p.sides d).1))

  pub lane-fits : SFits w64 s.lane
  lane-fits = fits64 s.lane (omega (arith, p.lane))

  pub element-fits : SFits w64 s.element
  element-fits = fits64 s.element (omega (arith, place-small s.element x (nat_abs s.curvature.length) p.element-high, p.length_high, p.station))

  pub length-fits : SFits w64 s.curvature.length
  length-fits = fits64 s.curvature.length (omega (arith, p.length_high))

  -- ---- distances
  pub from_distance : (x ≤ 100000000) × (nat_abs (past s.piece.from x) ≤ 1000000000)
  from_distance = (p.station, omega (arith, distance_small s.piece.from x 100000000 p.from-size, p.station))

  pub point_distance : (x ≤ 100000000) × (nat_abs (past s.sides.point x) ≤ 1000000000)
  point_distance = (p.station, omega (arith, p.point-high, p.span_high))

  -- a distance as the code has it
  pub from-is : {u : ℤ} → u ≡ past (to_z w64 (of_z w64 s.piece.from)) x → u ≡ past s.piece.from x
  from-is e = simp (to_z-of_z, from-fits) at e

  -- ---- height and grade
  straight : of_z w64 s.piece.half ≡ 0 → nat_abs s.piece.half ≡ 0
  straight e = bits_zero s.piece.half p.half-low e

  curved : (of_z w64 s.piece.half ≡ 0 → ⊥) → 0 < nat_abs s.piece.half
  curved e = above_zero s.piece.half (bits-other s.piece.half p.half-low e)

  pub grade-straight : of_z w64 s.piece.half ≡ 0 → s.piece.grade ≡ rounded (grade_in s x)
  unfolding rounded
  grade-straight e = round_whole s.piece.grade ∙ ap rounded (sym (grade-on-tangent s x (straight e)))

  pub height-line : nat_abs s.piece.height + nat_abs s.piece.grade * nat_abs (past s.piece.from x) < 9223372036854775808
  height-line = omega (arith, mul-le-mul p.grade from_distance.1, p.height-size)

  pub line-is : {u line : ℤ} → SFits w64 u → u ≡ past s.piece.from x → line ≡ to_z w64 (of_z w64 s.piece.height) +ℤ to_z w64 (of_z w64 s.piece.grade) *ℤ to_z w64 (of_z w64 u) → line ≡ on_tangent s x
  line-is small e q = (simp (to_z-of_z, height-fits, grade-fits, small) at q) ∙ ap (λ (u : ℤ). s.piece.height +ℤ s.piece.grade *ℤ u) e

  pub height_rounds : {line : ℤ} → line ≡ on_tangent s x → Doubles line (pos 1000000)
  height_rounds e-line = record { above = lt! (nat 0) (nat 1000000) (omega arith); dividend = omega (arith, ap nat_abs e-line, p.height); divisor = omega arith }

  pub height-straight : {line : ℤ} → line ≡ on_tangent s x → of_z w64 s.piece.half ≡ 0 → {r : ℤ} → r ≡ round line 1000000 → r ≡ rounded (height_in s x)
  unfolding rounded
  height-straight e-line e q = q ∙ ap (λ (l : ℤ). round l 1000000) e-line ∙ ap rounded (sym (height-on-tangent s x (straight e)))

  module _ {u : ℤ} (e-u : u ≡ past s.piece.from x) where
    in_curve_lem : {first : ℤ} (bound : ℕ) → nat_abs first ≤ bound → (of_z w64 s.piece.half ≡ 0 → ⊥) → InCurve bound first s.piece.change s.piece.half u
    in_curve_lem bound h e =
        let low = bits-other s.piece.half p.half-low e in
        rw e-u (record {
          first-size = h;
          change-size = p.change;
          half-low = low;
          half_high = p.half_high;
          inside = (p.in_curve_lem (curved e)).1;
        })

    pub grade-curve : (of_z w64 s.piece.half ≡ 0 → ⊥) → InCurve 120000 s.piece.grade s.piece.change s.piece.half u
    grade-curve e = in_curve_lem 120000 p.grade e

    pub grade-curved : (of_z w64 s.piece.half ≡ 0 → ⊥) → {r : ℤ} → r ≡ rounded ((s.piece.grade *ℤ pos (2 * nat_abs s.piece.half) +ℤ s.piece.change *ℤ u) ÷ (2 * nat_abs s.piece.half)) → r ≡ rounded (grade_in s x)
    grade-curved e q = q
        ∙ ap (λ (u : ℤ). rounded ((s.piece.grade *ℤ pos (2 * nat_abs s.piece.half) +ℤ s.piece.change *ℤ u) ÷ (2 * nat_abs s.piece.half))) e-u
        ∙ ap rounded (sym (grade_in_curve s x (curved e)))

    module _ {line : ℤ} (e-line : line ≡ on_tangent s x) where
      pub height-curve : (of_z w64 s.piece.half ≡ 0 → ⊥) → InCurve 27240000000000 line s.piece.change s.piece.half u
      height-curve e = in_curve_lem 27240000000000 (rw e-line p.height) e

      pub height-curved : (of_z w64 s.piece.half ≡ 0 → ⊥) → {r : ℤ} → r ≡ rounded ((line *ℤ pos (4 * nat_abs s.piece.half) +ℤ s.piece.change *ℤ (u *ℤ u)) ÷ (4 * nat_abs s.piece.half * 1000000)) → r ≡ rounded (height_in s x)
      height-curved e q = q
          ∙ ap₂ (λ (l u : ℤ). rounded ((l *ℤ pos (4 * nat_abs s.piece.half) +ℤ s.piece.change *ℤ (u *ℤ u)) ÷ (4 * nat_abs s.piece.half * 1000000))) e-line e-u
          ∙ ap rounded (sym (height_in_curve s x (curved e)))

  pub element_distance : (x ≤ 100000000) × (nat_abs (past s.element x) ≤ 1000000000)
  element_distance = (p.station, omega (arith, p.element-high, p.length_high))

  -- ---- the two sides
  module _ {u : ℤ} (e-u : u ≡ past s.sides.point x) (d : Side) where
    pub on_side : OnSide (ramp d s) s.sides.span s.lane u
    on_side = rw e-u (record {
      start-size = (p.sides d).0;
      change-size = (p.sides d).1;
      span_low = p.span_low;
      span_high = p.span_high;
      width-size = p.lane;
      inside = p.point-high;
    })

    module _ {l : Lane} (e-l : l ≡ lane_of (ramp d s) s.sides.span s.lane u) where
      pub crossfall-is : l.crossfall ≡ rounded (crossfall_in d s x)
      unfolding lane_of crossfall_in
      crossfall-is = ap (λ (l : Lane). l.crossfall) e-l ∙ ap (λ (u : ℤ). rounded (((ramp d s).start *ℤ s.sides.span +ℤ (ramp d s).change *ℤ u) ÷ nat_abs s.sides.span)) e-u

      pub drop-is : l.drop ≡ rounded (drop_in d s x)
      unfolding lane_of drop_in
      drop-is = ap (λ (l : Lane). l.drop) e-l ∙ ap (λ (u : ℤ). rounded ((((ramp d s).start *ℤ s.sides.span +ℤ (ramp d s).change *ℤ u) *ℤ s.lane) ÷ (nat_abs s.sides.span * 1000000))) e-u

  -- ---- the numbers
  pub station-fits : SFits w64 (pos x)
  station-fits = fits64 (pos x) (omega (arith, p.station))

  module _ {v : ℤ} (d : Side) where
    pub crossfall-fits : v ≡ rounded (crossfall_in d s x) → SFits w64 v
    crossfall-fits e = rw e (fits64 (rounded (crossfall_in d s x)) (omega (arith, crossfall-size p d)))

    pub drop-fits : v ≡ rounded (drop_in d s x) → SFits w64 v
    drop-fits e = rw e (fits64 (rounded (drop_in d s x)) (omega (arith, drop-size p d)))

    pub edge-fits : {h : ℤ} → h ≡ rounded (height_in s x) → v ≡ rounded (drop_in d s x) → SFits w64 (h +ℤ v)
    edge-fits {h} e f = rw (e, f) (fits64 (rounded (height_in s x) +ℤ rounded (drop_in d s x)) (omega (arith, abs_add (rounded (height_in s x)) (rounded (drop_in d s x)), height-size p, drop-size p d)))

  pub numbers_are : {h g l r dl dr k : ℤ} → h ≡ rounded (height_in s x) → g ≡ rounded (grade_in s x) → l ≡ rounded (crossfall_in left s x) → r ≡ rounded (crossfall_in right s x)
      → dl ≡ rounded (drop_in left s x) → dr ≡ rounded (drop_in right s x) → k ≡ rounded (curvature_in s x)
      → ◌≡◌ {A = Numbers} (record { station = pos x; height = h; grade = g; left = l; right = r; left_edge = h +ℤ dl; right_edge = h +ℤ dr; curvature = k }) (numbers_in s x)
  unfolding numbers_in
  numbers_are eh eg el er edl edr ek = rw (eh, eg, el, er, edl, edr, ek)
