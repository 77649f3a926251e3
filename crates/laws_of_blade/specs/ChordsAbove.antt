-- What a chord lies above tangents, curves and drops.
use Rattle.std.specs.Prelude.{[], ◌∷◌, ℕ, suc, ◌-◌, take, pos, ◌+ℤ◌, ◌-ℤ◌, ◌*ℤ◌}
use Rattle.integers.specs.Ring.{X, ◌:+◌, ◌:-◌, ◌:*◌, #, ring, $}
use Rattle.integers.specs.Fraction.{Frac, ◌÷◌, ◌×ᶠ◌}
use Rattle.road.specs.File.{Road}
use Rattle.road.specs.Exact.{Side, tangent_of, tangent_start, rise, start_height, tangent_height, curve_height, grade_change, half_length, vertex, point_of, crossfall_of, crossfall_by}
use Rattle.road.specs.Lane.{lane_width}
use Rattle.laws_of_blade.specs.Chord.{ChordAbove}

-- a line, from which the three stations' values are taken
abbrev Chord : (X → X) → X → X → X → X
Chord L a s t = (t :* L a :+ s :* L (a :+ s :+ t)) :- (s :+ t) :* L (a :+ s)

abbrev Tangent : X → X → X → X → X
Tangent S g st x = S :* # 1000000 :+ (g :* (x :- st)) :* # 1000000

pub tangent_chord_above : (r : Road) (i a s t : ℕ) → ChordAbove (λ x. (tangent_height r i x).num) a s t (pos 0)
unfolding ChordAbove tangent_height start_height
tangent_chord_above r i a s t = ring ((r.start *ℤ pos 1000000 +ℤ rise (take i r.tangents)) ∷ (tangent_of r i).grade ∷ pos (tangent_start r i) ∷ pos a ∷ pos s ∷ pos t ∷ [])
    (Chord (Tangent ($ 0) ($ 1) ($ 2)) ($ 3) ($ 4) ($ 5)) (# 0 :* ($ 4 :* $ 5 :* ($ 4 :+ $ 5))) tt

pub curve_chord_above : (r : Road) (i a s t : ℕ) → ChordAbove (λ x. (curve_height r i x).num) a s t (grade_change r i *ℤ pos 1000000000000)
unfolding ChordAbove curve_height tangent_height start_height
curve_chord_above r i a s t = ring ((r.start *ℤ pos 1000000 +ℤ rise (take i r.tangents)) ∷ (tangent_of r i).grade ∷ pos (tangent_start r i) ∷ grade_change r i ∷ pos (half_length r i) ∷ pos (vertex r i) ∷ pos a ∷ pos s ∷ pos t ∷ [])
    (Chord (λ x. Tangent ($ 0) ($ 1) ($ 2) x :* (# 4 :* $ 4 :* # 1000000) :+ ($ 3 :* ((x :+ $ 4 :- $ 5) :* (x :+ $ 4 :- $ 5))) :* # 1000000000000) ($ 6) ($ 7) ($ 8))
    ($ 3 :* # 1000000000000 :* ($ 7 :* $ 8 :* ($ 7 :+ $ 8))) tt

-- k / m of the drop between the points i and i + 1
abbrev pub drop_by : (k m : ℕ) → Side → Road → ℕ → ℕ → Frac
drop_by k m d r i s = crossfall_by d r i s ×ᶠ (pos (lane_width r) ÷ 1000000) ×ᶠ (pos k ÷ m)

pub drop_chord_above : (k m : ℕ) (d : Side) (r : Road) (i a s t : ℕ) → ChordAbove (λ x. (drop_by k m d r i x).num) a s t (pos 0)
unfolding ChordAbove crossfall_by
drop_chord_above k m d r i a s t = ring (crossfall_of d (point_of r i) ∷ (crossfall_of d (point_of r (suc i)) -ℤ crossfall_of d (point_of r i)) ∷ pos (point_of r i).station ∷ pos ((point_of r (suc i)).station - (point_of r i).station) ∷ pos (lane_width r) ∷ pos k ∷ pos a ∷ pos s ∷ pos t ∷ [])
    (Chord (λ x. ($ 0 :* $ 3 :+ ($ 1 :* (x :- $ 2)) :* # 1) :* $ 4 :* $ 5) ($ 6) ($ 7) ($ 8)) (# 0 :* ($ 7 :* $ 8 :* ($ 7 :+ $ 8))) tt
