-- What the numbers of a segment say of a station: fractions of whole numbers, before they are rounded.
use Rattle.std.specs.Prelude.{◌≡◌, ℕ, ◌*◌, ◌≤◌, ◌<◌, List, [], ◌∷◌, eqb, ℤ, pos, ◌+ℤ◌, ◌-ℤ◌, ◌*ℤ◌, nat_abs, ◌≤ℤ◌, ◌<ℤ◌, if◌then◌else◌}
use Rattle.integers.specs.Fraction.{Frac, ◌÷◌, whole, ◌+ᶠ◌, ◌×ᶠ◌, ◌≈ᶠ◌}
use Rattle.integers.specs.Rounding.{rounded}
use Rattle.decimal.specs.Decimal.{spaced}
use Rattle.road.specs.File.{Road}
use Rattle.road.specs.Exact.{Side, left, right, height, grade, crossfall, edge_drop, curvature}
use Rattle.segment.specs.declared.End.{End}
use Rattle.segment.specs.declared.Ramp.{Ramp}
use Rattle.segment.specs.declared.Segment.{Segment}
use Rattle.segment.specs.declared.Numbers.{Numbers}

-- the distance past a place of the segment
abbrev pub past : ℤ → ℕ → ℤ
past from x = pos x -ℤ from

-- the tangent's height, prolonged, in millionths
abbrev pub on_tangent : Segment → ℕ → ℤ
on_tangent s x = s.piece.height +ℤ s.piece.grade *ℤ past s.piece.from x

-- half lengths and spans are above zero as whole numbers; as denominators they are naturals
unfoldable pub height_in : Segment → ℕ → Frac
height_in s x =
    if eqb (nat_abs s.piece.half) 0 then on_tangent s x ÷ 1000000
    else (on_tangent s x *ℤ pos (4 * nat_abs s.piece.half) +ℤ s.piece.change *ℤ (past s.piece.from x *ℤ past s.piece.from x)) ÷ (4 * nat_abs s.piece.half * 1000000)

unfoldable pub grade_in : Segment → ℕ → Frac
grade_in s x =
    if eqb (nat_abs s.piece.half) 0 then whole s.piece.grade
    else (s.piece.grade *ℤ pos (2 * nat_abs s.piece.half) +ℤ s.piece.change *ℤ past s.piece.from x) ÷ (2 * nat_abs s.piece.half)

abbrev pub ramp : Side → Segment → Ramp
ramp left s = s.sides.left
ramp right s = s.sides.right

-- the crossfall's numerator, over the span
abbrev pub crossfall_over : Side → Segment → ℕ → ℤ
crossfall_over d s x = (ramp d s).start *ℤ s.sides.span +ℤ (ramp d s).change *ℤ past s.sides.point x

unfoldable pub crossfall_in : Side → Segment → ℕ → Frac
crossfall_in d s x = crossfall_over d s x ÷ nat_abs s.sides.span

unfoldable pub drop_in : Side → Segment → ℕ → Frac
drop_in d s x = (crossfall_over d s x *ℤ s.lane) ÷ (nat_abs s.sides.span * 1000000)

-- the curvature at an end of an element
abbrev pub value_of : End → Frac
value_of e = e.turn ÷ nat_abs e.radius

-- evenly from one end to the other: 10⁹/R1 × (L − d)/L + 10⁹/R2 × d/L, with 0 for 10⁹/R at a straight
unfoldable pub curvature_in : Segment → ℕ → Frac
curvature_in s x =
    value_of s.curvature.start ×ᶠ ((s.curvature.length -ℤ past s.element x) ÷ nat_abs s.curvature.length)
    +ᶠ value_of s.curvature.end ×ᶠ (past s.element x ÷ nat_abs s.curvature.length)

-- the printed numbers of a station of the segment
unfoldable pub numbers_in : Segment → ℕ → Numbers
numbers_in s x = record {
  station = pos x;
  height = rounded (height_in s x);
  grade = rounded (grade_in s x);
  left = rounded (crossfall_in left s x);
  right = rounded (crossfall_in right s x);
  left_edge = rounded (height_in s x) +ℤ rounded (drop_in left s x);
  right_edge = rounded (height_in s x) +ℤ rounded (drop_in right s x);
  curvature = rounded (curvature_in s x);
}

-- in the order of a line
abbrev pub list_of : Numbers → List ℤ
list_of n = n.station ∷ n.height ∷ n.grade ∷ n.left ∷ n.right ∷ n.left_edge ∷ n.right_edge ∷ n.curvature ∷ []

-- the line of a station of the segment
unfoldable pub line_in : Segment → ℕ → List ℕ
line_in s x = spaced (list_of (numbers_in s x))

-- the numbers of an end of an element
pub record SizedEnd (e : End) : Type 0 where
  pub turn : nat_abs e.turn ≤ 1000000000
  pub radius-low : pos 0 <ℤ e.radius
  pub radius-high : nat_abs e.radius ≤ 10000000

-- what an element joins: curvature 0 at one end at least, a straight's or where two clothoids meet; one arc, its own, at both; or two arcs of one turn.
-- "One clothoid may stand between two arcs of the same turn and different radii; its curvature runs evenly from one to the other"; a radius over
-- 1,000,000 mm is refused with 23
pub data Joined (start end : End) : Type 0 where
  from_zero : start.turn ≡ pos 0 → Joined start end
  to_zero : end.turn ≡ pos 0 → Joined start end
  same-arc : start ≡ end → Joined start end
  egg : start.turn ≡ end.turn → nat_abs start.radius ≤ 1000000 → nat_abs end.radius ≤ 1000000 → Joined start end

-- what the code asks of a segment and a station, so that everything fits 64 bits; no invariant of the type, since its parts are made of any numbers
pub record Sound (s : Segment) (x : ℕ) : Type 0 where
  pub station : x ≤ 100000000
  pub height : nat_abs (on_tangent s x) ≤ 27240000000000
  pub grade : nat_abs s.piece.grade ≤ 120000
  pub change : nat_abs s.piece.change ≤ 240000
  pub half-low : pos 0 ≤ℤ s.piece.half
  pub half_high : nat_abs s.piece.half ≤ 1000000
  pub from-size : nat_abs s.piece.from ≤ 100000000
  pub height-size : nat_abs s.piece.height ≤ 27240000000000
  -- in a curve: between its ends
  pub in_curve_lem : 0 < nat_abs s.piece.half → (pos 0 ≤ℤ past s.piece.from x) × (nat_abs (past s.piece.from x) ≤ 2 * nat_abs s.piece.half)
  pub span_low : pos 0 <ℤ s.sides.span
  pub span_high : nat_abs s.sides.span ≤ 100000000
  pub point-low : pos 0 ≤ℤ past s.sides.point x
  pub point-high : nat_abs (past s.sides.point x) ≤ nat_abs s.sides.span
  pub sides : (d : Side) → (nat_abs ((ramp d s).start) ≤ 80000) × (nat_abs ((ramp d s).change) ≤ 160000)
  pub lane_low : pos 0 ≤ℤ s.lane
  pub lane : nat_abs s.lane ≤ 3500
  pub element-low : pos 0 ≤ℤ past s.element x
  pub element-high : nat_abs (past s.element x) ≤ nat_abs s.curvature.length
  pub length-low : pos 0 <ℤ s.curvature.length
  pub length_high : nat_abs s.curvature.length ≤ 10000000
  pub start-size : SizedEnd s.curvature.start
  pub end-size : SizedEnd s.curvature.end
  pub joined : ∥ Joined s.curvature.start s.curvature.end ∥₁

-- the segment says what the exact road says at a station
pub record Shows (r : Road) (s : Segment) (x : ℕ) : Type 0 where
  pub sound : Sound s x
  pub height : height r x ≈ᶠ height_in s x
  pub grade : grade r x ≈ᶠ grade_in s x
  pub crossfall : (d : Side) → crossfall d r x ≈ᶠ crossfall_in d s x
  pub drop : (d : Side) → edge_drop d r x ≈ᶠ drop_in d s x
  pub curvature : curvature r x ≈ᶠ curvature_in s x
