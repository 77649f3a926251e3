-- What the segment of a piece, a pair of crossfall points and an element shows of the road: part by part it says the exact values, and its numbers fit.
use Rattle.std.specs.Prelude.{◌≡◌, [], ◌∷◌, ℕ, suc, ◌*◌, ◌-◌, ◌≤◌, ◌<◌, length, ℤ, pos, nat_abs, ◌+ℤ◌, ◌-ℤ◌, ◌*ℤ◌}
use Rattle.std.proofs.Common.{arith}
use Rattle.std.proofs.Math.Decide.{dec_lt}
use Rattle.integers.specs.Bridge.{nat, ◌⊖◌, le!, lt!, eq!, abs_difference}
use Rattle.integers.specs.Ring.{◌:+◌, ◌:-◌, ◌:*◌, #, ring, $}
use Rattle.integers.specs.Fraction.{◌÷◌, ◌≈ᶠ◌}
use Rattle.integers.specs.Values.{◌then◌, mul-value}
use Rattle.road.specs.File.{Road}
use Rattle.road.specs.Exact.{element_of, point_of, element_start, total, Side, left, right, crossfall_by, crossfall, edge_drop, curvature, from◌to◌}
use Rattle.road.specs.Lane.{lane_width}
use Rattle.laws_of_acceptance.specs.Lists.{element-step}
use Rattle.laws_of_search.specs.Last.{Begun, begun-upto}
use Rattle.laws_of_acceptance.specs.Facts.{points-end}
use Rattle.laws_of_search.specs.Small.{abs_from}
use Rattle.laws_of_pieces.specs.Curvatures.{OnElement}
use Rattle.laws_of_pieces.specs.Crossfalls.{BetweenPoints, crossfall-between}
use Rattle.laws_of_acceptance.specs.Guaranteed.{Guaranteed}
use Rattle.segment.specs.Segment.{ramp, crossfall_in, drop_in, curvature_in, Sound, Shows}
use Rattle.segment.specs.declared.Segment.{Segment}
use Rattle.segment.specs.declared.Piece.{Piece}
use Rattle.segment.specs.declared.Curvature.{Curvature}
use Rattle.segment_parts.specs.Pieces.{PieceAt}
use Rattle.segment_parts.specs.Sides.{point_station, sides_of}
use Rattle.segment_parts.specs.Segments.{segment_of}
use Rattle.segment_parts.specs.Curvatures.{Curved}
use Rattle.segment_parts.specs.Profiles.{piece-height, piece-grade}
use Rattle.segment_parts.specs.PieceFacts.{piece-small}

-- the same item up to the next start
pub same_item : {f : ℕ → ℕ} {n x y i : ℕ} → Begun f n x i → x ≤ y → (x < y → y < f (suc i)) → Begun f n y i
same_item {f} {n} {x} {y} {i} b l e = record { below = b.below; from = let h = b.from in omega arith; next = λ u. go u (dec_lt x y) }
  where
    go : suc i < n → Dec (x < y) → y < f (suc i)
    go u (yes m) = e m
    go u (no m) = let h = b.next u in omega arith

-- the distance from a to a later s
ahead : (a s : ℕ) → a ≤ s → (from a to s) ≡ pos (s - a)
ahead a s h = eq! (nat s ⊖ nat a) (nat (s - a)) (omega arith)

module _ {r : Road} (G : Guaranteed r) where
  -- ---- the crossfalls
  pub between-points : {x y k : ℕ} → Begun (point_station r) (length r.crossfalls - 1) x k → x ≤ y → (x < y → y < point_station r (suc k)) → y ≤ total r → BetweenPoints r k y
  between-points {x} {y} {k} b l e t =
      let c = same_item b l e in
      let p = c.below in
      record { place = omega arith; low = c.from; high = begun-upto c (omega (arith, points-end G.facts_of)) }

  module _ (p : Piece) (b : Curvature) (e k y : ℕ) (B : BetweenPoints r k y) where
    abbrev here : Segment
    here = segment_of p (sides_of (point_of r k) (point_of r (suc k))) b e (lane_width r)

    apart : point_station r k < point_station r (suc k)
    apart = G.facts_of.ascend k B.place

    span_is : (from point_station r k to point_station r (suc k)) ≡ pos (point_station r (suc k) - point_station r k)
    span_is = ahead (point_station r k) (point_station r (suc k)) (let h = apart in omega arith)

    over : (c c' d : ℤ) (s : ℕ) → (c *ℤ pos s +ℤ ((c' -ℤ c) *ℤ d) *ℤ pos 1) *ℤ pos s ≡ (c *ℤ pos s +ℤ (c' -ℤ c) *ℤ d) *ℤ pos (1 * s)
    over c c' d s = ring (c ∷ c' ∷ d ∷ pos s ∷ []) (($ 0 :* $ 3 :+ (($ 1 :- $ 0) :* $ 2) :* # 1) :* $ 3) (($ 0 :* $ 3 :+ ($ 1 :- $ 0) :* $ 2) :* (# 1 :* $ 3)) tt

    side_value : (d : Side) → crossfall_by d r k y ≈ᶠ crossfall_in d here y
    unfolding crossfall_by crossfall_in
    side_value left = let h = apart in rw span_is (record { defined = omega arith; other-defined = omega arith; same = over (point_of r k).left (point_of r (suc k)).left (from point_station r k to y) (point_station r (suc k) - point_station r k) })
    side_value right = let h = apart in rw span_is (record { defined = omega arith; other-defined = omega arith; same = over (point_of r k).right (point_of r (suc k)).right (from point_station r k to y) (point_station r (suc k) - point_station r k) })

    crossfall-is : (d : Side) → crossfall d r y ≈ᶠ crossfall_in d here y
    crossfall-is d = crossfall-between G.facts_of d k y B then side_value d

    drop-is : (d : Side) → edge_drop d r y ≈ᶠ drop_in d here y
    unfolding edge_drop drop_in crossfall_in
    drop-is d = mul-value (pos (lane_width r) ÷ 1000000) (omega arith) (crossfall-is d)

    sides-small : (d : Side) → (nat_abs (ramp d here).start ≤ 80000) × (nat_abs (ramp d here).change ≤ 160000)
    sides-small left =
        let h = B.place in
        let c = G.crossfall left k (omega arith) in
        (c, abs_difference (point_of r (suc k)).left (point_of r k).left (G.crossfall left (suc k) h) c)
    sides-small right =
        let h = B.place in
        let c = G.crossfall right k (omega arith) in
        (c, abs_difference (point_of r (suc k)).right (point_of r k).right (G.crossfall right (suc k) h) c)

  -- ---- the curvature
  on-element : {y i : ℕ} → Begun (element_start r) (length r.plan) y i → y ≤ total r → OnElement r i y
  unfolding total
  on-element b t = record { place = b.below; low = b.from; high = begun-upto b t }

  -- ---- all that the numbers of a segment say at a station
  module _ (p : Piece) (b : Curvature) (i k y : ℕ) (P : PieceAt r p y) (C : Curved r i b) (E : Begun (element_start r) (length r.plan) y i) (B : BetweenPoints r k y) (t : y ≤ total r) where
    abbrev s : Segment
    s = here p b (element_start r i) k y B

    sound : Sound s y
    unfolding total
    sound =
        let T = G.whole.high in
        let z = piece-small G P t in
        let w = apart p b (element_start r i) k y B in
        let q = G.point-station (suc k) B.place in
        let low = B.low in
        let high = B.high in
        let h = E.below in
        let from-element = E.from in
        let n = element-step r i in
        let l = G.element-length i h in
        let u = begun-upto E t in
        let lane = G.lane.high in
        record {
          station = omega arith;
          height = z.height;
          grade = z.grade;
          change = z.change;
          half-low = z.half-low;
          half_high = z.half_high;
          from-size = z.from-size;
          height-size = z.height-size;
          in_curve_lem = z.in_curve_lem;
          span_low = lt! (nat 0) (nat (point_station r (suc k)) ⊖ nat (point_station r k)) (omega arith);
          span_high = abs_from (point_station r k) (point_station r (suc k)) 100000000 (omega arith) (omega arith);
          point-low = le! (nat 0) (nat y ⊖ nat (point_station r k)) (omega arith);
          point-high = rw (span_is p b (element_start r i) k y B) (abs_from (point_station r k) y (point_station r (suc k) - point_station r k) (omega arith) (omega arith));
          sides = sides-small p b (element_start r i) k y B;
          lane_low = le! (nat 0) (nat (lane_width r)) (omega arith);
          lane = lane;
          element-low = le! (nat 0) (nat y ⊖ nat (element_start r i)) (omega arith);
          element-high = rw C.length (abs_from (element_start r i) y (element_of r i).length (omega arith) (omega arith));
          length-low = rw C.length (lt! (nat 0) (nat (element_of r i).length) (omega (arith, l.low)));
          length_high = rw C.length l.high;
          start-size = C.start;
          end-size = C.end;
          joined = ∣ C.joined ∣₁;
        }

    curved-there : curvature r y ≈ᶠ curvature_in s y
    unfolding curvature_in
    curved-there = rw C.length (C.value y (on-element E t))

    pub shown : Shows r s y
    shown = record {
      sound = sound;
      height = piece-height G (sides_of (point_of r k) (point_of r (suc k))) b (element_start r i) (lane_width r) P t;
      grade = piece-grade G (sides_of (point_of r k) (point_of r (suc k))) b (element_start r i) (lane_width r) P t;
      crossfall = crossfall-is p b (element_start r i) k y B;
      drop = drop-is p b (element_start r i) k y B;
      curvature = curved-there;
    }
