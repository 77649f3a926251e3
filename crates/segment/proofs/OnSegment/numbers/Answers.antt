-- Each number is that of its function; their sums fit because each is short.
use mathlib.Core.Path.{◌≡◌}
use Prim.Native.Nat.{ℕ}
use lib.IntN.{ℤ}
use mir.Syntax.{w64}
use mir.Val.{SFits, of_z, to_z}
use mir.Facts.{to_z-of_z, to_z_pos}
use Rattle.integers.specs.Rounding.{rounded}
use Rattle.road.specs.Exact.{Side, left, right}
use Rattle.segment.specs.Segment.{Sound, past, ramp, crossfall_in, drop_in}
use Rattle.segment.specs.Sizes.{lane_of}
use Rattle.segment.specs.declared.Segment.{Segment}
use Rattle.segment.specs.declared.Lane.{Lane}
use Rattle.segment.proofs.Fields as f
use Rattle.segment.proofs.OnSegment.numbers.Goals as goal

-- what the distance is, and what the two sides are there
module _ {s : Segment} {x : ℕ} (p : Sound s x) {u : ℤ} (small : SFits w64 u) (e : u ≡ past (to_z w64 (of_z w64 s.sides.point)) x) where
  u-is : u ≡ past s.sides.point x
  u-is = simp (to_z-of_z, f.point-fits p) at e

  module _ (d : Side) {l : Lane} (h : l ≡ lane_of (ramp d s) s.sides.span (to_z w64 (of_z w64 s.lane)) (to_z w64 (of_z w64 u))) where
    side_is : l ≡ lane_of (ramp d s) s.sides.span s.lane u
    side_is = simp (to_z-of_z, f.lane-fits p, small) at h

    side-crossfall : l.crossfall ≡ rounded (crossfall_in d s x)
    side-crossfall = f.crossfall-is p u-is d side_is

    side-drop : l.drop ≡ rounded (drop_in d s x)
    side-drop = f.drop-is p u-is d side_is

pub lane_at-left-requires : goal.lane_at-left-requires
lane_at-left-requires c =
    let p = c.args.self.sound in
    let k : SFits w64 c.distance-u.result = record { sfits = c.distance-u.type_inv } in
    simp (to_z-of_z, f.lane-fits p, k) (f.on_side p (u-is p k c.distance-u.ensures) left)

pub lane_at-right-requires : goal.lane_at-right-requires
lane_at-right-requires c =
    let p = c.args.self.sound in
    let k : SFits w64 c.distance-u.result = record { sfits = c.distance-u.type_inv } in
    simp (to_z-of_z, f.lane-fits p, k) (f.on_side p (u-is p k c.distance-u.ensures) right)

pub overflow_add-result : goal.overflow_add-result
overflow_add-result c =
    let p = c.args.self.sound in
    let k : SFits w64 c.distance-u.result = record { sfits = c.distance-u.type_inv } in
    let h : SFits w64 c.height-height.result = record { sfits = c.height-height.type_inv } in
    let drop = side-drop p k c.distance-u.ensures left c.lane_at-left.ensures in
    simp (to_z-of_z, h, f.drop-fits p left drop) (f.edge-fits p left c.height-height.ensures drop)

pub overflow_add-result-2 : goal.overflow_add-result-2
overflow_add-result-2 c =
    let p = c.args.self.sound in
    let k : SFits w64 c.distance-u.result = record { sfits = c.distance-u.type_inv } in
    let h : SFits w64 c.height-height.result = record { sfits = c.height-height.type_inv } in
    let drop = side-drop p k c.distance-u.ensures right c.lane_at-right.ensures in
    simp (to_z-of_z, h, f.drop-fits p right drop) (f.edge-fits p right c.height-height.ensures drop)

pub returns : goal.returns
returns c =
    let p = c.args.self.sound in
    let k : SFits w64 c.distance-u.result = record { sfits = c.distance-u.type_inv } in
    let h : SFits w64 c.height-height.result = record { sfits = c.height-height.type_inv } in
    let i : SFits w64 c.grade.result = record { sfits = c.grade.type_inv } in
    let j : SFits w64 c.curvature.result = record { sfits = c.curvature.type_inv } in
    let lc = side-crossfall p k c.distance-u.ensures left c.lane_at-left.ensures in
    let ld = side-drop p k c.distance-u.ensures left c.lane_at-left.ensures in
    let rc = side-crossfall p k c.distance-u.ensures right c.lane_at-right.ensures in
    let rd = side-drop p k c.distance-u.ensures right c.lane_at-right.ensures in
    simp (
      to_z-of_z,
      to_z_pos w64 (f.station-fits p).sfits,
      h,
      i,
      j,
      f.crossfall-fits p left lc,
      f.crossfall-fits p right rc,
      f.drop-fits p left ld,
      f.drop-fits p right rd,
      f.edge-fits p left c.height-height.ensures ld,
      f.edge-fits p right c.height-height.ensures rd,
    )
    (f.numbers_are p c.height-height.ensures c.grade.ensures lc rc ld rd c.curvature.ensures)
