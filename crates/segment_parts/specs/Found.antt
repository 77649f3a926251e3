-- The piece that is made of a tangent, its place and the next tangent is the road's piece there: by the three cases, its numbers are those of the road.
use Rattle.std.specs.Prelude.{◌≡◌, refl, [], ◌∷◌, ◌⊎◌, ℕ, zero, suc, ◌+◌, ◌-◌, ◌≤◌, ◌<◌, length, ℤ, pos, ◌+ℤ◌, ◌-ℤ◌, ◌*ℤ◌}
use Rattle.std.proofs.Common.{sym, ap, ap₂, ◌∙◌, subst, inl, inr, arith}
use Rattle.std.proofs.Math.Decide.{dec_lt}
use Rattle.integers.specs.Ring.{◌:+◌, ◌:-◌, ◌:*◌, ring, $}
use Rattle.road.specs.File.{Road}
use Rattle.road.specs.Exact.{tangent_of, tangent_start, half_length, half_before_of}
use Rattle.road.specs.declared.Tangent.{Tangent}
use Rattle.laws_of_acceptance.specs.Guaranteed.{Guaranteed}
use Rattle.segment_parts.specs.declared.TangentPlace.{TangentPlace}
use Rattle.segment.specs.declared.Piece.{Piece}
use Rattle.segment_parts.specs.Tangents.{height_start, grade_before_of, TangentFound, height-next}
use Rattle.segment_parts.specs.Pieces.{curve_from, curve_before, curve_after, straight_part, PieceFrom, before, along, behind, straight_end, straight_of, PieceAt, straight, curve}
use Rattle.segment_parts.specs.Profiles.{straight-end}

curve_equal : {f f' n n' : ℕ} {h h' a a' b b' : ℤ} → f ≡ f' → h ≡ h' → a ≡ a' → b ≡ b' → n ≡ n' → curve_from f h a b n ≡ curve_from f' h' a' b' n'
curve_equal p q u v w = cc

-- back from the next tangent's start, and ahead from this one's
back : (H g : ℤ) (l k h : ℕ) → l ≡ k + h → (H +ℤ g *ℤ pos l) -ℤ g *ℤ pos h ≡ H +ℤ g *ℤ pos k
back H g l k h e = rw e (ring (H ∷ g ∷ pos k ∷ pos h ∷ []) ($ 0 :+ $ 1 :* ($ 2 :+ $ 3) :- $ 1 :* $ 3) ($ 0 :+ $ 1 :* $ 2) tt)

module _ {r : Road} (G : Guaranteed r) {p : TangentPlace} {x : ℕ} (t : Tangent) (f : TangentFound r p x) (q : t ≡ tangent_of r p.index) where
  before-piece : x < p.begin + p.half_before → PieceAt r (curve_before p t) x
  before-piece l = go p.index refl
    where
      go : (i : ℕ) → p.index ≡ i → PieceAt r (curve_before p t) x
      go zero e = absurd (let b = f.placed.begin in let h = f.placed.half in let z = ap (half_before_of r) e in let n = f.at.from in omega arith)
      go (suc i) e =
          let n = f.at.below in
          let h : p.half_before ≡ half_length r i = f.placed.half ∙ ap (half_before_of r) e in
          let g : p.grade_before ≡ (tangent_of r i).grade = f.placed.grade ∙ ap (grade_before_of r) e in
          let b : p.begin ≡ tangent_start r (suc i) = f.placed.begin ∙ ap (tangent_start r) e in
          let v = straight-end G i (omega arith) in
          let room = G.facts_of.room i (omega arith) in
          let low = f.at.from in
          let w = f.placed.begin in
          curve i
          (curve_equal {f = p.begin - p.half_before} {f' = straight_end r i} {n = p.half_before} {n' = half_length r i} (omega arith)
          (ap₂ ◌-ℤ◌ (f.placed.height ∙ ap (height_start r) e ∙ height-next r i (omega arith)) (ap₂ (λ (z : ℤ) (n : ℕ). z *ℤ pos n) g h)
          ∙ back (height_start r i) (tangent_of r i).grade (tangent_of r i).length ((tangent_of r i).length - half_length r i) (half_length r i) (omega arith))
          g (ap (λ (t : Tangent). t.grade) (q ∙ ap (tangent_of r) e)) h)
          (record { place = omega arith; long = omega arith; low = omega arith; high = omega arith })

  -- the same numbers, of the road
  straight-piece : p.begin + p.half_before ≤ x → (x < p.begin + (t.length - t.half)) ⊎ (t.half ≡ 0) → PieceAt r (straight_part p t) x
  straight-piece l o = straight p.index equal (record { begun = f.at; low = let b = f.placed.begin in let h = f.placed.half in omega arith; high = λ n. high n o })
    where
      half_is : t.half ≡ half_length r p.index
      half_is = ap (λ (t : Tangent). t.half) q

      length-is : t.length ≡ (tangent_of r p.index).length
      length-is = ap (λ (t : Tangent). t.length) q

      equal : straight_part p t ≡ straight_of r p.index
      equal =
          let b = f.placed.begin in
          let h = f.placed.height in
          let g : t.grade ≡ (tangent_of r p.index).grade = ap (λ (t : Tangent). t.grade) q in
          let u = half_is in
          let v = length-is in
          cc

      high : 0 < half_length r p.index → (x < p.begin + (t.length - t.half)) ⊎ (t.half ≡ 0) → x + half_length r p.index < tangent_start r (suc p.index)
      high n (inl m) = let b = f.placed.begin in let u = half_is in let v = length-is in omega (arith, straight-end G p.index f.at.below)
      high n (inr m) = absurd (let u = half_is in omega arith)

  -- a tangent with a curve at its end is not the last
  not_last : (t.half ≡ 0 → ⊥) → suc p.index < length r.tangents
  not_last h = go (dec_lt (suc p.index) (length r.tangents))
    where
      go : Dec (suc p.index < length r.tangents) → suc p.index < length r.tangents
      go (yes y) = y
      go (no y) =
          let n = f.at.below in
          let e : p.index ≡ length r.tangents - 1 = omega arith in
          absurd (h (ap (λ (t : Tangent). t.half) q ∙ ap (half_length r) e ∙ G.last-half))

  after-piece : (next : Tangent) → next ≡ tangent_of r (suc p.index) → p.begin + (t.length - t.half) ≤ x → (t.half ≡ 0 → ⊥) → PieceAt r (curve_after p t next) x
  after-piece next w l h =
      let i = p.index in
      let n = not_last h in
      let b = f.placed.begin in
      let z = f.placed.height in
      let u : t.half ≡ half_length r i = ap (λ (t : Tangent). t.half) q in
      let v : t.length ≡ (tangent_of r i).length = ap (λ (t : Tangent). t.length) q in
      let g : t.grade ≡ (tangent_of r i).grade = ap (λ (t : Tangent). t.grade) q in
      let g' : next.grade ≡ (tangent_of r (suc i)).grade = ap (λ (t : Tangent). t.grade) w in
      let e = straight-end G i f.at.below in
      let m = f.at.next n in
      curve i
      (curve_equal (ap₂ ◌+◌ b (ap₂ ◌-◌ v u)) (ap₂ ◌+ℤ◌ z (ap₂ (λ (y : ℤ) (n : ℕ). y *ℤ pos n) g (ap₂ ◌-◌ v u))) g g' u)
      (record { place = omega arith; long = omega (arith, h); low = omega arith; high = omega arith })

  -- no curve follows the last tangent, so any tangent may stand for the next one there
  pub piece_found : {next : Tangent} {piece : Piece} → (suc p.index < length r.tangents → next ≡ tangent_of r (suc p.index)) → PieceFrom p t next x piece → PieceAt r piece x
  piece_found n (before l e) = subst (λ (q : Piece). PieceAt r q x) (sym e) (before-piece l)
  piece_found n (along l o e) = subst (λ (q : Piece). PieceAt r q x) (sym e) (straight-piece l o)
  piece_found {next} n (behind l h e) = subst (λ (q : Piece). PieceAt r q x) (sym e) (after-piece next (n (not_last h)) l h)
