-- Two divisions with their rests; Curve says that the parts make the exact numerator.
use mathlib.Core.Path.{◌≡◌}
use lib.IntN.{pos, nat_abs, ◌+ℤ◌, ◌*ℤ◌}
use mir.Syntax.{w64}
use mir.Val.{SFits}
use mir.Facts.{to_z-of_z}
use Rattle.integers.specs.Rounding.{floor, remainder}
use Rattle.segment.proofs.Curve as cv
use Rattle.segment.proofs.Piece.curve_height.Goals as goal

pub overflow_mul-deviation : goal.overflow_mul-deviation
overflow_mul-deviation c = simp (to_z-of_z, c.ranges.u) (cv.square_fits c.requires)

pub overflow_mul-deviation-2 : goal.overflow_mul-deviation-2
overflow_mul-deviation-2 c = simp (to_z-of_z, c.ranges.u, cv.change-fits c.requires, cv.square_fits c.requires) (cv.deviation_fits c.requires)

pub overflow_mul-scale : goal.overflow_mul-scale
overflow_mul-scale c = simp (to_z-of_z, cv.half-fits c.requires) (cv.k-fits c.requires)

pub div_floor-requires : goal.div_floor-requires
div_floor-requires c = simp (to_z-of_z, cv.half-fits c.requires, cv.k-fits c.requires) (cv.k-low c.requires)

module _ (c : goal.After-div_floor) where
  f-fits : SFits w64 c.div_floor.result
  f-fits = record { sfits = c.div_floor.type_inv }

  f-is : c.div_floor.result ≡ floor (c.args.self.now.change *ℤ (c.args.u *ℤ c.args.u)) (nat_abs (pos 4 *ℤ c.args.self.now.half))
  f-is = simp (to_z-of_z, c.ranges.u, cv.change-fits c.requires, cv.half-fits c.requires, cv.square_fits c.requires, cv.deviation_fits c.requires, cv.k-fits c.requires) at c.div_floor.ensures

  top : SFits w64 (c.args.line +ℤ c.div_floor.result)
  top = cv.top_fits c.requires f-is

pub overflow_add-raised : goal.overflow_add-raised
overflow_add-raised c = simp (to_z-of_z, c.ranges.line, f-fits c) (top c)

module _ (c : goal.After-rem_floor) where
  part-fits : SFits w64 c.rem_floor.result
  part-fits = record { sfits = c.rem_floor.type_inv }

  part-is : c.rem_floor.result ≡ pos (remainder (c.args.line +ℤ c.div_floor.result) 1000000)
  part-is = simp (to_z-of_z, c.ranges.line, f-fits c.before, top c.before) at c.rem_floor.ensures

  part-k : SFits w64 (c.rem_floor.result *ℤ (pos 4 *ℤ c.args.self.now.half))
  part-k = cv.part-k-fits c.requires (f-is c.before) part-is

pub overflow_mul-rest : goal.overflow_mul-rest
overflow_mul-rest c = simp (to_z-of_z, part-fits c, cv.half-fits c.requires, cv.k-fits c.requires) (part-k c)

pub rem_floor-requires-2 : goal.rem_floor-requires-2
rem_floor-requires-2 c = simp (to_z-of_z, cv.half-fits c.requires, cv.k-fits c.requires) (cv.k-low c.requires)

module _ (c : goal.After-rem_floor-2) where
  rest-fits : SFits w64 c.rem_floor-2.result
  rest-fits = record { sfits = c.rem_floor-2.type_inv }

  rest-is : c.rem_floor-2.result ≡ pos (remainder (c.args.self.now.change *ℤ (c.args.u *ℤ c.args.u)) (nat_abs (pos 4 *ℤ c.args.self.now.half)))
  rest-is = simp (to_z-of_z, c.ranges.u, cv.change-fits c.requires, cv.half-fits c.requires, cv.square_fits c.requires, cv.deviation_fits c.requires, cv.k-fits c.requires) at c.rem_floor-2.ensures

  m : SFits w64 (c.rem_floor.result *ℤ (pos 4 *ℤ c.args.self.now.half) +ℤ c.rem_floor-2.result)
  m = cv.m-fits c.requires (f-is c.before.before) (part-is c.before) rest-is

pub overflow_add-rest : goal.overflow_add-rest
overflow_add-rest c = simp (to_z-of_z, part-fits c.before, cv.half-fits c.requires, cv.k-fits c.requires, part-k c.before, rest-fits c) (m c)

module _ (c : goal.After-div_floor-2) where
  q-fits : SFits w64 c.div_floor-2.result
  q-fits = record { sfits = c.div_floor-2.type_inv }

  q-is : c.div_floor-2.result ≡ floor (c.args.line +ℤ c.div_floor.result) 1000000
  q-is = simp (to_z-of_z, c.ranges.line, f-fits c.before.before.before, top c.before.before.before) at c.div_floor-2.ensures

pub overflow_mul-scale-2 : goal.overflow_mul-scale-2
overflow_mul-scale-2 c = simp (to_z-of_z, cv.half-fits c.requires, cv.k-fits c.requires) (cv.scale-fits c.requires)

pub round_parts-requires : goal.round_parts-requires
round_parts-requires c = let b = c.before in
    simp (to_z-of_z, q-fits c, part-fits b.before, cv.half-fits c.requires, cv.k-fits c.requires, part-k b.before, rest-fits b, m b, cv.scale-fits c.requires)
    (cv.height-parts c.requires (f-is b.before.before) (part-is b.before) (rest-is b) (q-is c))

pub returns : goal.returns
returns c = let d = c.before in let b = d.before in
    let k : SFits w64 c.round_parts.result = record { sfits = c.round_parts.type_inv } in
    simp to_z-of_z (cv.height-answer c.requires (f-is b.before.before) (part-is b.before) (rest-is b) (q-is d)
    (simp (to_z-of_z, q-fits d, part-fits b.before, cv.half-fits c.requires, cv.k-fits c.requires, part-k b.before, rest-fits b, m b, cv.scale-fits c.requires) at c.round_parts.ensures))
