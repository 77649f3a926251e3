-- What the functions of a segment ask of the numbers that they are given, so that everything fits 64 bits.
use Rattle.std.specs.Prelude.{◌≡◌, ℕ, ◌+◌, ◌-◌, ◌*◌, ◌≤◌, ℤ, pos, ◌+ℤ◌, ◌*ℤ◌, nat_abs, ◌≤ℤ◌, ◌<ℤ◌}
use Rattle.integers.specs.Fraction.{◌÷◌}
use Rattle.integers.specs.Rounding.{rounded}
use Rattle.segment.specs.Segment.{SizedEnd}
use Rattle.segment.specs.declared.End.{End}
use Rattle.segment.specs.declared.Ramp.{Ramp}
use Rattle.segment.specs.declared.Curvature.{Curvature}
use Rattle.segment.specs.declared.Lane.{Lane}

-- u past the start of a vertical curve, of which `first`, its first tangent's height or grade, is within a bound
pub record InCurve (bound : ℕ) (first change half u : ℤ) : Type 0 where
  pub first-size : nat_abs first ≤ bound
  pub change-size : nat_abs change ≤ 240000
  pub half-low : pos 0 <ℤ half
  pub half_high : nat_abs half ≤ 1000000
  pub inside : nat_abs u ≤ 2 * nat_abs half

-- a distance from the other end of an element
pub record OfEnd (e : End) (length distance : ℤ) : Type 0 where
  pub end-size : SizedEnd e
  pub length-low : pos 0 <ℤ length
  pub length_high : nat_abs length ≤ 10000000
  pub inside : nat_abs distance ≤ nat_abs length

-- a distance past the start of an egg; that its radii differ is not needed
pub record OnEgg (c : Curvature) (past : ℤ) : Type 0 where
  pub start-size : SizedEnd c.start
  pub end-size : SizedEnd c.end
  pub same_turn : c.start.turn ≡ c.end.turn
  pub start-high : nat_abs c.start.radius ≤ 1000000
  pub end-high : nat_abs c.end.radius ≤ 1000000
  pub length-low : pos 0 <ℤ c.length
  pub length_high : nat_abs c.length ≤ 10000000
  pub past-low : pos 0 ≤ℤ past
  pub inside : nat_abs past ≤ nat_abs c.length

-- the size of its curvature there: turn × (R2 (L − x) + R1 x) / (R1 R2 L)
abbrev pub egg_over : Curvature → (past : ℕ) → ℕ
egg_over c past = nat_abs c.start.turn * (nat_abs c.end.radius * (nat_abs c.length - past) + nat_abs c.start.radius * past)

abbrev pub egg_under : Curvature → ℕ
egg_under c = nat_abs c.start.radius * nat_abs c.end.radius * nat_abs c.length

-- a crossfall of over / span on a lane
pub record OfLane (over span width : ℤ) : Type 0 where
  pub over-size : nat_abs over ≤ 240000 * nat_abs span
  pub span_low : pos 0 <ℤ span
  pub span_high : nat_abs span ≤ 100000000
  pub width-size : nat_abs width ≤ 3500

-- a side, a distance past a crossfall point
pub record OnSide (side : Ramp) (span width distance : ℤ) : Type 0 where
  pub start-size : nat_abs side.start ≤ 80000
  pub change-size : nat_abs side.change ≤ 160000
  pub span_low : pos 0 <ℤ span
  pub span_high : nat_abs span ≤ 100000000
  pub width-size : nat_abs width ≤ 3500
  pub inside : nat_abs distance ≤ nat_abs span

-- a side's numbers there: "The drop is crossfall × lane width / 10⁶, from the exact crossfall."
unfoldable pub lane_of : Ramp → ℤ → ℤ → ℤ → Lane
lane_of side span width distance = record {
  crossfall = rounded ((side.start *ℤ span +ℤ side.change *ℤ distance) ÷ nat_abs span);
  drop = rounded (((side.start *ℤ span +ℤ side.change *ℤ distance) *ℤ width) ÷ (nat_abs span * 1000000));
}
