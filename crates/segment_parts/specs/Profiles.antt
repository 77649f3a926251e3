-- Height and grade on a piece of the profile, as the numbers of a segment say them.
use Rattle.std.specs.Prelude.{◌≡◌, [], ◌∷◌, ℕ, suc, ◌+◌, ◌*◌, ◌-◌, ◌≤◌, ◌<◌, length, ℤ, pos, ◌+ℤ◌, ◌*ℤ◌}
use Rattle.std.proofs.Common.{sym, ap, subst, arith, ne_eqb}
use Rattle.std.proofs.Math.Decide.{dec_lt}
use Rattle.integers.specs.Bridge.{nat, ◌⊕◌, ◌⊖◌, eq! }
use Rattle.integers.specs.Ring.{◌:+◌, ◌:*◌, #, ring, $}
use Rattle.integers.specs.Fraction.{◌≈ᶠ◌}
use Rattle.integers.specs.Values.{◌then◌}
use Rattle.road.specs.File.{Road}
use Rattle.road.specs.Exact.{tangent_of, tangent_start, total, vertex_count, vertex, half_length, grade_change, past, start_height, tangent_height, curve_height, height, grade, from◌to◌}
use Rattle.laws_of_acceptance.specs.Lists.{tangent-step}
use Rattle.laws_of_search.specs.Last.{begun-upto}
use Rattle.laws_of_pieces.specs.Pieces.{OnStraight, OnCurve}
use Rattle.laws_of_pieces.specs.Joints.{tangent-positive, curve-positive}
use Rattle.laws_of_pieces.specs.Heights.{height-straight, height-curve}
use Rattle.laws_of_pieces.specs.Grades.{grade-straight, grade-curve}
use Rattle.laws_of_acceptance.specs.Guaranteed.{Guaranteed}
use Rattle.segment.specs.Segment.{height_in, grade_in}
use Rattle.segment.specs.declared.Piece.{Piece}
use Rattle.segment.specs.declared.Sides.{Sides}
use Rattle.segment.specs.declared.Curvature.{Curvature}
use Rattle.segment_parts.specs.Tangents.{height_start}
use Rattle.segment_parts.specs.Pieces.{straight_end, straight_of, curve_of, Straight, Curve, PieceAt, straight, curve}
use Rattle.segment_parts.specs.Segments.{segment_of}

-- in millionths, before the denominators are multiplied out
level : (H g d : ℤ) → (H *ℤ pos 1000000 +ℤ (g *ℤ d) *ℤ pos 1000000) *ℤ pos 1000000 ≡ (H +ℤ g *ℤ d) *ℤ pos 1000000000000
level H g d = ring (H ∷ g ∷ d ∷ []) (($ 0 :* # 1000000 :+ ($ 1 :* $ 2) :* # 1000000) :* # 1000000) (($ 0 :+ $ 1 :* $ 2) :* # 1000000000000) tt

-- the tangent prolonged from the curve's start, k past its own
bowed : (H g c u d : ℤ) (k h : ℕ) → d ≡ pos k +ℤ u
    → ((H *ℤ pos 1000000 +ℤ (g *ℤ d) *ℤ pos 1000000) *ℤ pos (4 * h * 1000000) +ℤ (c *ℤ (u *ℤ u)) *ℤ pos 1000000000000) *ℤ pos (4 * h * 1000000)
    ≡ (((H +ℤ g *ℤ pos k) +ℤ g *ℤ u) *ℤ pos (4 * h) +ℤ c *ℤ (u *ℤ u)) *ℤ pos (1000000000000 * (4 * h * 1000000))
bowed H g c u d k h e = rw e (ring (H ∷ g ∷ c ∷ u ∷ pos k ∷ pos h ∷ [])
    ((($ 0 :* # 1000000 :+ ($ 1 :* ($ 4 :+ $ 3)) :* # 1000000) :* (# 4 :* $ 5 :* # 1000000) :+ ($ 2 :* ($ 3 :* $ 3)) :* # 1000000000000) :* (# 4 :* $ 5 :* # 1000000))
    ((($ 0 :+ $ 1 :* $ 4 :+ $ 1 :* $ 3) :* (# 4 :* $ 5) :+ $ 2 :* ($ 3 :* $ 3)) :* (# 1000000000000 :* (# 4 :* $ 5 :* # 1000000))) tt)

graded : (g c u : ℤ) (h : ℕ) → (g *ℤ pos (2 * h) +ℤ (c *ℤ u) *ℤ pos 1) *ℤ pos (2 * h) ≡ (g *ℤ pos (2 * h) +ℤ c *ℤ u) *ℤ pos (1 * (2 * h))
graded g c u h = ring (g ∷ c ∷ u ∷ pos h ∷ []) (($ 0 :* (# 2 :* $ 3) :+ ($ 1 :* $ 2) :* # 1) :* (# 2 :* $ 3)) (($ 0 :* (# 2 :* $ 3) :+ $ 1 :* $ 2) :* (# 1 :* (# 2 :* $ 3))) tt

on-curve : {r : Road} {i x : ℕ} → Curve r i x → OnCurve r i x
on-curve c = let h = c.high in record { place = c.place; long = c.long; low = c.low; high = omega arith }

module _ {r : Road} (G : Guaranteed r) where
  -- where a tangent's straight part ends, the curve has its half length before the vertex
  pub straight-end : (i : ℕ) → i < length r.tangents → straight_end r i + half_length r i ≡ tangent_start r (suc i)
  straight-end i h = omega (arith, tangent-step r i, G.facts_of.room i h)

  pub on-straight : {i x : ℕ} → Straight r i x → x ≤ total r → OnStraight r i x
  on-straight {i} {x} s l = record {
    place = s.begun.below;
    low = s.low;
    high = λ h. let n = s.begun.next (omega arith) in go n (dec_lt 0 (half_length r i));
    upto = begun-upto s.begun (omega (arith, G.facts_of.whole));
  }
    where
      go : x < vertex r i → Dec (0 < half_length r i) → x + half_length r i ≤ vertex r i
      go n (yes p) = let h = s.high p in omega arith
      go n (no p) = omega arith

  -- ---- the same piece at a later station before its end
  straight_later : {i x y : ℕ} → Straight r i x → x ≤ y → (x < y → y < straight_end r i) → Straight r i y
  straight_later {i} {x} {y} s l e = go (dec_lt x y)
    where
      go : Dec (x < y) → Straight r i y
      go (yes m) =
          let low = s.low in
          let first = s.begun.from in
          let end = e m in
          let v = straight-end i s.begun.below in
          record { begun = record { below = s.begun.below; from = omega arith; next = λ n. omega arith }; low = omega arith; high = λ p. omega arith }
      go (no m) = subst (Straight r i) (omega arith) s

  curve_later : {i x y : ℕ} → Curve r i x → x ≤ y → (x < y → y < straight_end r i + 2 * half_length r i) → Curve r i y
  curve_later {i} {x} {y} s l e = go (dec_lt x y)
    where
      go : Dec (x < y) → Curve r i y
      go (yes m) =
          let low = s.low in
          let end = e m in
          let p = s.place in
          let v = straight-end i (omega arith) in
          record { place = p; long = s.long; low = omega arith; high = omega arith }
      go (no m) = subst (Curve r i) (omega arith) s

  pub piece_later : {p : Piece} {x y : ℕ} → PieceAt r p x → x ≤ y → (x < y → y < p.end) → PieceAt r p y
  piece_later (straight i q s) l e = straight i q (straight_later s l (λ m. omega (arith, e m, ap (λ (p : Piece). p.end) q)))
  piece_later (curve i q s) l e = curve i q (curve_later s l (λ m. omega (arith, e m, ap (λ (p : Piece). p.end) q)))

  -- ---- what the numbers of the piece say
  module _ (q : Sides) (b : Curvature) (e lane : ℕ) where
    straight-height : (i y : ℕ) → Straight r i y → y ≤ total r → height r y ≈ᶠ height_in (segment_of (straight_of r i) q b e lane) y
    unfolding height_in tangent_height start_height height_start
    straight-height i y s l =
        height-straight G.facts_of i y l (on-straight s l)
        then record { defined = tangent-positive r i y; other-defined = omega arith; same = level (height_start r i) (tangent_of r i).grade (from tangent_start r i to y) }

    -- the distance past the curve's start
    curve-past : (i y : ℕ) → i < vertex_count r → (from straight_end r i to y) ≡ past r i y
    curve-past i y h =
        let v = straight-end i (omega arith) in
        eq! (nat y ⊖ nat (straight_end r i)) (nat (y + half_length r i) ⊖ nat (vertex r i)) (omega arith)

    ahead : (i y : ℕ) → i < vertex_count r → (from tangent_start r i to y) ≡ pos ((tangent_of r i).length - half_length r i) +ℤ past r i y
    ahead i y h =
        let v = tangent-step r i in
        let w = G.facts_of.room i (omega arith) in
        eq! (nat y ⊖ nat (tangent_start r i)) (nat ((tangent_of r i).length - half_length r i) ⊕ (nat (y + half_length r i) ⊖ nat (vertex r i))) (omega arith)

    curve-height : (i y : ℕ) → Curve r i y → height r y ≈ᶠ height_in (segment_of (curve_of r i) q b e lane) y
    unfolding height_in curve_height tangent_height start_height height_start
    curve-height i y s =
        let h = half_length r i in
        let p = s.long in
        rw (ne_eqb h 0 (λ (z : h ≡ 0). omega arith), curve-past i y s.place)
        (height-curve G.facts_of i y (on-curve s)
        then record {
          defined = curve-positive r i y p;
          other-defined = omega arith;
          same = bowed (height_start r i) (tangent_of r i).grade (grade_change r i) (past r i y) (from tangent_start r i to y) ((tangent_of r i).length - h) h (ahead i y s.place);
        })

    pub piece-height : {p : Piece} {y : ℕ} → PieceAt r p y → y ≤ total r → height r y ≈ᶠ height_in (segment_of p q b e lane) y
    piece-height {p} {y} (straight i w s) l = subst (λ (p : Piece). height r y ≈ᶠ height_in (segment_of p q b e lane) y) (sym w) (straight-height i y s l)
    piece-height {p} {y} (curve i w s) l = subst (λ (p : Piece). height r y ≈ᶠ height_in (segment_of p q b e lane) y) (sym w) (curve-height i y s)

    straight-grade : (i y : ℕ) → Straight r i y → y ≤ total r → grade r y ≈ᶠ grade_in (segment_of (straight_of r i) q b e lane) y
    unfolding grade_in
    straight-grade i y s l = grade-straight G.facts_of G.level_vertex i y l (on-straight s l)

    curve-grade : (i y : ℕ) → Curve r i y → grade r y ≈ᶠ grade_in (segment_of (curve_of r i) q b e lane) y
    unfolding grade_in
    curve-grade i y s =
        let h = half_length r i in
        let p = s.long in
        rw (ne_eqb h 0 (λ (z : h ≡ 0). omega arith), curve-past i y s.place)
        (grade-curve G.facts_of G.level_vertex i y (on-curve s) then record { defined = omega arith; other-defined = omega arith; same = graded (tangent_of r i).grade (grade_change r i) (past r i y) h })

    pub piece-grade : {p : Piece} {y : ℕ} → PieceAt r p y → y ≤ total r → grade r y ≈ᶠ grade_in (segment_of p q b e lane) y
    piece-grade {p} {y} (straight i w s) l = subst (λ (p : Piece). grade r y ≈ᶠ grade_in (segment_of p q b e lane) y) (sym w) (straight-grade i y s l)
    piece-grade {p} {y} (curve i w s) l = subst (λ (p : Piece). grade r y ≈ᶠ grade_in (segment_of p q b e lane) y) (sym w) (curve-grade i y s)
