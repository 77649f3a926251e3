-- A piece of the profile: its numbers are small, it ends at a listed station, and no curve begins or ends inside it.
use Rattle.std.specs.Prelude.{◌≡◌, ◌⊎◌, ℕ, suc, ◌+◌, ◌*◌, ◌-◌, ◌≤◌, ◌<◌, length, pos, nat_abs, ◌+ℤ◌, ◌-ℤ◌, ◌*ℤ◌, ◌≤ℤ◌}
use Rattle.std.proofs.Common.{sym, ap, subst, inl, inr, arith}
use mathlib.Core.List.{Memᴰ}
use Rattle.std.proofs.Math.Decide.{dec_lt}
use Rattle.integers.specs.Bridge.{nat, ◌⊖◌, le!, abs_product, abs_sum, abs_difference}
use Rattle.road.specs.File.{Road}
use Rattle.road.specs.Exact.{tangent_of, tangent_start, total, vertex_count, vertex, half_length, from◌to◌, half_before_of}
use Rattle.road.specs.Listed.{stations}
use Rattle.laws_of_acceptance.specs.Lists.{tangent-step}
use Rattle.laws_of_search.specs.Last.{Rising, rises_to, begun-before}
use Rattle.laws_of_acceptance.specs.Facts.{curve-begins}
use Rattle.laws_of_search.specs.Small.{abs_from}
use Rattle.laws_of_stations.specs.Stations.{end-station, stations_has, starts-listed, ends-listed}
use Rattle.laws_of_acceptance.specs.Guaranteed.{Guaranteed}
use Rattle.segment.specs.declared.Piece.{Piece}
use Rattle.segment_parts.specs.Tangents.{height_start}
use Rattle.segment_parts.specs.Pieces.{straight_end, straight_of, curve_of, Straight, Curve, PieceAt, straight, curve}
use Rattle.segment_parts.specs.Tangents.{height-small}
use Rattle.segment_parts.specs.Profiles.{straight-end}

-- the numbers of a piece at a station fit 64 bits
pub record Small (p : Piece) (y : ℕ) : Type 0 where
  pub height : nat_abs (p.height +ℤ p.grade *ℤ (pos y -ℤ p.from)) ≤ 27240000000000
  pub grade : nat_abs p.grade ≤ 120000
  pub change : nat_abs p.change ≤ 240000
  pub half-low : pos 0 ≤ℤ p.half
  pub half_high : nat_abs p.half ≤ 1000000
  pub from-size : nat_abs p.from ≤ 100000000
  pub height-size : nat_abs p.height ≤ 27240000000000
  pub in_curve_lem : 0 < nat_abs p.half → (pos 0 ≤ℤ (pos y -ℤ p.from)) × (nat_abs (pos y -ℤ p.from) ≤ 2 * nat_abs p.half)

-- x is an end of the curve of vertex j; where h is 0, it is the vertex
abbrev pub EndOf : Road → (j x : ℕ) → Type 0
EndOf r j x = (x + half_length r j ≡ vertex r j) ⊎ (x ≡ vertex r j + half_length r j)

-- where the straight part of a tangent begins
abbrev begins : Road → ℕ → ℕ
begins r i = tangent_start r i + half_before_of r i

module _ {r : Road} (G : Guaranteed r) where
  start-size : (i : ℕ) → i < length r.tangents → nat_abs (height_start r i) ≤ 15000000000000
  start-size i h = omega (arith, height-small G i (omega arith), G.tangent-start i (omega arith), G.whole.high)

  straight-small : (i y : ℕ) → Straight r i y → y ≤ total r → Small (straight_of r i) y
  straight-small i y s l =
      let h = s.begun.below in
      let g = G.grade i h in
      let T = G.whole.high in
      let first = s.begun.from in
      let a = start-size i h in
      let d = abs_product (tangent_of r i).grade (from tangent_start r i to y) g (abs_from (tangent_start r i) y 100000000 (omega arith) (omega arith)) in
      record {
        height = omega (arith, abs_sum (height_start r i) ((tangent_of r i).grade *ℤ (from tangent_start r i to y)) a d);
        grade = g;
        change = omega arith;
        half-low = le! (nat 0) (nat 0) (omega arith);
        half_high = omega arith;
        from-size = omega arith;
        height-size = omega arith;
        in_curve_lem = λ p. absurd (omega arith);
      }

  curve-small : (i y : ℕ) → Curve r i y → y ≤ total r → Small (curve_of r i) y
  curve-small i y s l =
      let p = s.place in
      let k : ℕ = (tangent_of r i).length - half_length r i in
      let g = G.grade i (omega arith) in
      let a = start-size i (omega arith) in
      let half = G.half i (omega arith) in
      let low = s.low in
      let high = s.high in
      let v = straight-end G i (omega arith) in
      let T = G.whole.high in
      let u = abs_from (straight_end r i) y (2 * half_length r i) (omega arith) (omega arith) in
      let b = abs_product (tangent_of r i).grade (pos k) {l = 10000000} g (omega (arith, (G.tangent-length i (omega arith)).high)) in
      let c = abs_sum (height_start r i) ((tangent_of r i).grade *ℤ pos k) a b in
      let d = abs_product (tangent_of r i).grade (from straight_end r i to y) {l = 2000000} g (omega arith) in
      record {
        height = omega (arith, abs_sum (height_start r i +ℤ (tangent_of r i).grade *ℤ pos k) ((tangent_of r i).grade *ℤ (from straight_end r i to y)) c d);
        grade = g;
        change = abs_difference (tangent_of r (suc i)).grade (tangent_of r i).grade (G.grade (suc i) (omega arith)) g;
        half-low = le! (nat 0) (nat (half_length r i)) (omega arith);
        half_high = half;
        from-size = omega arith;
        height-size = omega arith;
        in_curve_lem = λ q. (le! (nat 0) (nat y ⊖ nat (straight_end r i)) (omega arith), u);
      }

  pub piece-small : {p : Piece} {y : ℕ} → PieceAt r p y → y ≤ total r → Small p y
  piece-small {p} {y} (straight i w s) l = subst (λ (p : Piece). Small p y) (sym w) (straight-small i y s l)
  piece-small {p} {y} (curve i w s) l = subst (λ (p : Piece). Small p y) (sym w) (curve-small i y s l)

  -- ---- where a piece ends
  straight-beyond : (i x : ℕ) → Straight r i x → x < total r → x < straight_end r i
  straight-beyond i x s l = go (dec_lt 0 (half_length r i))
    where
      go : Dec (0 < half_length r i) → x < straight_end r i
      go (yes p) = omega (arith, s.high p, straight-end G i s.begun.below)
      go (no p) = omega (arith, straight-end G i s.begun.below, begun-before s.begun (omega (arith, G.facts_of.whole)))

  pub piece-beyond : {p : Piece} {x : ℕ} → PieceAt r p x → x < total r → x < p.end
  piece-beyond {p} {x} (straight i w s) l = omega (arith, ap (λ (p : Piece). p.end) w, straight-beyond i x s l)
  piece-beyond {p} {x} (curve i w s) l =
      let h = s.place in
      omega (arith, ap (λ (p : Piece). p.end) w, straight-end G i (omega arith), s.high)

  -- its end is listed
  straight-listed : (i : ℕ) → i < length r.tangents → Memᴰ (straight_end r i) (stations r)
  straight-listed i h = go (dec_lt i (vertex_count r))
    where
      go : Dec (i < vertex_count r) → Memᴰ (straight_end r i) (stations r)
      go (yes l) = starts-listed r i (straight_end r i) l (straight-end G i h)
      go (no l) =
          let e : suc i ≡ length r.tangents = omega arith in
          let f : i ≡ length r.tangents - 1 = omega arith in
          let q : straight_end r i ≡ total r = omega (arith, straight-end G i h, G.last-half, ap (half_length r) f, ap (tangent_start r) e, G.facts_of.whole) in
          stations_has r (let s = G.step.low in omega arith) (end-station q)

  pub piece-listed : {p : Piece} {x : ℕ} → PieceAt r p x → Memᴰ p.end (stations r)
  piece-listed {p} (straight i w s) = subst (λ (p : Piece). Memᴰ p.end (stations r)) (sym w) (straight-listed i s.begun.below)
  piece-listed {p} (curve i w s) =
      let h = s.place in
      subst (λ (p : Piece). Memᴰ p.end (stations r)) (sym w) (ends-listed r i (straight_end r i + 2 * half_length r i) h (omega (arith, straight-end G i (omega arith))))

  -- ---- no curve begins or ends between a station and the end of its piece
  begins-rise : Rising (begins r) (length r.tangents)
  unfolding Rising
  begins-rise i h = omega (arith, G.facts_of.room i h, tangent-step r i)

  -- a curve before tangent i, and one after it
  curve_ahead : (j i z : ℕ) → j < i → i < length r.tangents → EndOf r j z → z ≤ begins r i
  curve_ahead j i z l h (inl e) = omega (arith, rises_to (begins r) (length r.tangents) (suc j) i begins-rise l (omega arith))
  curve_ahead j i z l h (inr e) = omega (arith, rises_to (begins r) (length r.tangents) (suc j) i begins-rise l (omega arith))

  curve-behind : (j i z : ℕ) → i < j → j < vertex_count r → EndOf r j z → begins r (suc i) ≤ z
  curve-behind j i z l h (inl e) = omega (arith, curve-begins G.facts_of j h, rises_to (begins r) (length r.tangents) (suc i) j begins-rise l (omega arith))
  curve-behind j i z l h (inr e) = omega (arith, curve-begins G.facts_of j h, rises_to (begins r) (length r.tangents) (suc i) j begins-rise l (omega arith))

  own_straight : (i z : ℕ) → i < length r.tangents → EndOf r i z → straight_end r i ≤ z
  own_straight i z h (inl e) = omega (arith, straight-end G i h)
  own_straight i z h (inr e) = omega (arith, straight-end G i h)

  own_curve : (i x z : ℕ) → Curve r i x → EndOf r i z → x < z → straight_end r i + 2 * half_length r i ≤ z
  own_curve i x z s (inl e) m = absurd (let l = s.low in omega arith)
  own_curve i x z s (inr e) m = let h = s.place in omega (arith, straight-end G i (omega arith))

  pub piece-free : {p : Piece} {x : ℕ} → PieceAt r p x → (j z : ℕ) → j < vertex_count r → EndOf r j z → x < z → p.end ≤ z
  piece-free {p} {x} (straight i w s) j z h e m = omega (arith, ap (λ (p : Piece). p.end) w, go (dec_lt j i) (dec_lt i j))
    where
      go : Dec (j < i) → Dec (i < j) → straight_end r i ≤ z
      go (yes l) n = absurd (omega (arith, curve_ahead j i z l s.begun.below e, s.low))
      go (no l) (yes n) = omega (arith, curve-behind j i z n h e, straight-end G i s.begun.below)
      go (no l) (no n) = let q : j ≡ i = omega arith in own_straight i z s.begun.below (subst (λ (j : ℕ). EndOf r j z) q e)
  piece-free {p} {x} (curve i w s) j z h e m = omega (arith, ap (λ (p : Piece). p.end) w, go (dec_lt j i) (dec_lt i j))
    where
      go : Dec (j < i) → Dec (i < j) → straight_end r i + 2 * half_length r i ≤ z
      go (yes l) n = absurd (let p = s.place in omega (arith, curve_ahead j i z l (omega arith) e, s.low, curve-begins G.facts_of i p))
      go (no l) (yes n) = let p = s.place in omega (arith, curve-behind j i z n h e, straight-end G i (omega arith))
      go (no l) (no n) = let q : j ≡ i = omega arith in own_curve i x z s (subst (λ (j : ℕ). EndOf r j z) q e) m
