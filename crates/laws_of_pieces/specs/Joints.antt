-- Where a tangent meets the next, and a curve its tangents, they have one height.
use Rattle.std.specs.Prelude.{◌≡◌, refl, [], ◌∷◌, ℕ, suc, ◌+◌, ◌*◌, ◌<◌, length, take, ℤ, pos, ◌+ℤ◌, ◌-ℤ◌, ◌*ℤ◌}
use Rattle.std.proofs.Common.{sym, ap, ap₂, ◌∙◌, arith}
use Rattle.integers.specs.Ring.{◌:+◌, ◌:-◌, ◌:*◌, #, ring, $}
use Rattle.integers.specs.Fraction.{◌÷◌, ◌≈ᶠ◌}
use Rattle.road.specs.File.{Road}
use Rattle.road.specs.Exact.{tangent_of, tangent_start, vertex, half_length, grade_change, rise, start_height, tangent_height, curve_height, past, from◌to◌}
use Rattle.laws_of_acceptance.specs.Lists.{tangent-step}
use Rattle.integers.specs.Values.{same-value, positive-mul}
use Rattle.laws_of_acceptance.specs.Facts.{rise-next}

pub tangent-positive : (r : Road) (i s : ℕ) → 0 < (tangent_height r i s).den
unfolding tangent_height start_height
tangent-positive r i s = omega arith

-- the next tangent, prolonged, rises from the vertex by the change of grade
shift : (S g g' : ℤ) (a l s : ℕ)
    → (S +ℤ g *ℤ pos l) *ℤ pos 1000000 +ℤ (g' *ℤ (pos s -ℤ pos (a + l))) *ℤ pos 1000000
    ≡ (S *ℤ pos 1000000 +ℤ (g *ℤ (pos s -ℤ pos a)) *ℤ pos 1000000) +ℤ ((g' -ℤ g) *ℤ (pos s -ℤ pos (a + l))) *ℤ pos 1000000
shift S g g' a l s = ring (S ∷ g ∷ g' ∷ pos a ∷ pos l ∷ pos s ∷ [])
    (($ 0 :+ $ 1 :* $ 4) :* # 1000000 :+ ($ 2 :* ($ 5 :- ($ 3 :+ $ 4))) :* # 1000000)
    (($ 0 :* # 1000000 :+ ($ 1 :* ($ 5 :- $ 3)) :* # 1000000) :+ (($ 2 :- $ 1) :* ($ 5 :- ($ 3 :+ $ 4))) :* # 1000000) tt

pub tangent-next : (r : Road) (i s : ℕ) → i < length r.tangents → (tangent_height r (suc i) s).num ≡ (tangent_height r i s).num +ℤ (grade_change r i *ℤ (from vertex r i to s)) *ℤ pos 1000000
unfolding tangent_height start_height
tangent-next r i s h =
    let g = (tangent_of r i).grade in
    let l = (tangent_of r i).length in
    let S = r.start *ℤ pos 1000000 +ℤ rise (take i r.tangents) in
    let e : r.start *ℤ pos 1000000 +ℤ rise (take (suc i) r.tangents) ≡ S +ℤ g *ℤ pos l =
    ap (λ (x : ℤ). r.start *ℤ pos 1000000 +ℤ x) (rise-next r i h) ∙ ring ((r.start *ℤ pos 1000000) ∷ rise (take i r.tangents) ∷ (g *ℤ pos l) ∷ []) ($ 0 :+ ($ 1 :+ $ 2)) ($ 0 :+ $ 1 :+ $ 2) tt in
    rw (tangent-step r i, e) (shift S g (tangent_of r (suc i)).grade (tangent_start r i) l s)

-- ---- where the pieces meet
pub none_from : (a s : ℕ) → s ≡ a → (from a to s) ≡ pos 0
none_from a s e = rw e (ring (pos a ∷ []) ($ 0 :- $ 0) (# 0) tt)

pub ahead_by : (a s k : ℕ) → s ≡ a + k → (from a to s) ≡ pos k
ahead_by a s k e = rw e (ring (pos a ∷ pos k ∷ []) ($ 0 :+ $ 1 :- $ 0) ($ 1) tt)

-- the denominators are those of the definitions
tangent-den : (r : Road) (i s : ℕ) → (tangent_height r i s).den ≡ 1000000000000
unfolding tangent_height start_height
tangent-den r i s = refl

pub at-vertex : (r : Road) (i s : ℕ) → i < length r.tangents → s ≡ vertex r i → tangent_height r i s ≈ᶠ tangent_height r (suc i) s
at-vertex r i s h e = same-value (tangent-positive r i s) (ap₂ ◌÷◌ (sym nums) (tangent-den r i s ∙ sym (tangent-den r (suc i) s)))
  where
    nums : (tangent_height r (suc i) s).num ≡ (tangent_height r i s).num
    nums = tangent-next r i s h ∙ ap (λ (x : ℤ). (tangent_height r i s).num +ℤ (grade_change r i *ℤ x) *ℤ pos 1000000) (none_from (vertex r i) s e) ∙ ring ((tangent_height r i s).num ∷ grade_change r i ∷ []) ($ 0 :+ ($ 1 :* # 0) :* # 1000000) ($ 0) tt

pub curve-positive : (r : Road) (i s : ℕ) → 0 < half_length r i → 0 < (curve_height r i s).den
unfolding curve_height
curve-positive r i s h = positive-mul (tangent_height r i s).den (4 * half_length r i * 1000000) (tangent-positive r i s) (omega arith)

flat_start : (N c u : ℤ) (D K : ℕ) → u ≡ pos 0 → (N *ℤ pos K +ℤ (c *ℤ (u *ℤ u)) *ℤ pos D) *ℤ pos D ≡ N *ℤ pos (D * K)
flat_start N c u D K e = rw e (ring (N ∷ c ∷ pos D ∷ pos K ∷ []) (($ 0 :* $ 3 :+ ($ 1 :* (# 0 :* # 0)) :* $ 2) :* $ 2) ($ 0 :* ($ 2 :* $ 3)) tt)

pub at-start : (r : Road) (i s : ℕ) → 0 < half_length r i → s + half_length r i ≡ vertex r i → curve_height r i s ≈ᶠ tangent_height r i s
unfolding curve_height
at-start r i s p e = record {
  defined = curve-positive r i s p;
  other-defined = tangent-positive r i s;
  same = flat_start (tangent_height r i s).num (grade_change r i) (past r i s) (tangent_height r i s).den (4 * half_length r i * 1000000) (none_from (vertex r i) (s + half_length r i) e);
}

curve-end-grade : (N M c u w : ℤ) (D E h : ℕ) → D ≡ 1000000000000 → E ≡ 1000000000000 → u ≡ pos (h + h) → w ≡ pos h → M ≡ N +ℤ (c *ℤ w) *ℤ pos 1000000
    → (N *ℤ pos (4 * h * 1000000) +ℤ (c *ℤ (u *ℤ u)) *ℤ pos D) *ℤ pos E ≡ M *ℤ pos (D * (4 * h * 1000000))
curve-end-grade N M c u w D E h d e p q m = rw (d, e, p, m, q) (ring (N ∷ c ∷ pos h ∷ [])
    (($ 0 :* (# 4 :* $ 2 :* # 1000000) :+ ($ 1 :* (($ 2 :+ $ 2) :* ($ 2 :+ $ 2))) :* # 1000000000000) :* # 1000000000000)
    (($ 0 :+ ($ 1 :* $ 2) :* # 1000000) :* (# 1000000000000 :* (# 4 :* $ 2 :* # 1000000))) tt)

pub at-end : (r : Road) (i s : ℕ) → i < length r.tangents → 0 < half_length r i → s ≡ vertex r i + half_length r i → curve_height r i s ≈ᶠ tangent_height r (suc i) s
unfolding curve_height
at-end r i s h p e = record {
  defined = curve-positive r i s p;
  other-defined = tangent-positive r (suc i) s;
  same = curve-end-grade (tangent_height r i s).num (tangent_height r (suc i) s).num (grade_change r i) (past r i s) (from vertex r i to s) (tangent_height r i s).den (tangent_height r (suc i) s).den (half_length r i)
      (tangent-den r i s) (tangent-den r (suc i) s) (ahead_by (vertex r i) (s + half_length r i) (half_length r i + half_length r i) (omega arith)) (ahead_by (vertex r i) s (half_length r i) e) (tangent-next r i s h);
}
