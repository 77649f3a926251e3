-- Each return is one case of Ends: no curve, one share, the arc's own fraction, or the egg's.
use mathlib.Core.Path.{◌≡◌, sym, ap, ◌∙◌, subst}
use Prim.Native.Nat.{ℕ}
use lib.IntN.{ℤ, pos, ◌-ℤ◌, nat_abs}
use mir.Syntax.{w64}
use mir.Val.{SFits, of_z, to_z}
use mir.Facts.{to_z-of_z}
use Rattle.integers.specs.Fraction.{◌÷◌, ◌×ᶠ◌}
use Rattle.integers.specs.Rounding.{rounded}
use Rattle.segment.specs.Segment.{SizedEnd, Sound, past, value_of}
use Rattle.segment.specs.Sizes.{OfEnd, OnEgg}
use Rattle.segment.specs.declared.End.{End}
use Rattle.segment.specs.declared.Segment.{Segment}
use Rattle.segment.proofs.Laws.{is_zero, is_same}
use Rattle.segment.proofs.Ends as ends
use Rattle.segment.proofs.Fields as f
use Rattle.segment.proofs.OnSegment.curvature.Goals as goal

-- a turn that the machine finds to be 0, and one that is not
zero : {e : End} → SizedEnd e → of_z w64 e.turn ≡ 0 → e.turn ≡ pos 0
zero h q = is_zero (ends.turn-fits h) q

other : (turn : ℤ) → (of_z w64 turn ≡ 0 → ⊥) → turn ≡ pos 0 → ⊥
other turn h q = h (ap (of_z w64) q)

-- what the distance is, and what remains behind it
module _ {s : Segment} {x : ℕ} (p : Sound s x) {d : ℤ} (e : d ≡ past (to_z w64 (of_z w64 s.element)) x) where
  past_is : d ≡ past s.element x
  past_is = simp (to_z-of_z, f.element-fits p) at e

  remaining-fits : SFits w64 (s.curvature.length -ℤ d)
  remaining-fits = subst (λ (d : ℤ). SFits w64 (s.curvature.length -ℤ d)) (sym past_is) (ends.remaining-fits p)

pub returns-then-curvature-eq0-2 : goal.returns-then-curvature-eq0-2
returns-then-curvature-eq0-2 c = let p = c.args.self.sound in ends.no_curve p (zero p.start-size c.if-curvature-eq0.true) (zero p.end-size c.if-curvature-eq0-2.true)

pub returns-then-curvature-eq0 : goal.returns-then-curvature-eq0
returns-then-curvature-eq0 c =
    let p = c.args.self.sound in
    let j : SFits w64 c.distance-past.result = record { sfits = c.distance-past.type_inv } in
    let k : SFits w64 c.share.result = record { sfits = c.share.type_inv } in
    simp to_z-of_z ((simp (to_z-of_z, f.length-fits p, j) at c.share.ensures)
    ∙ ap (λ (d : ℤ). rounded (value_of c.args.self.segment.now.curvature.end ×ᶠ (d ÷ nat_abs c.args.self.segment.now.curvature.length))) (past_is p c.distance-past.ensures)
    ∙ ends.straight-before p (zero p.start-size c.if-curvature-eq0.true))

pub overflow_sub-curvature : goal.overflow_sub-curvature
overflow_sub-curvature c =
    let p = c.args.self.sound in
    let j : SFits w64 c.distance-past.result = record { sfits = c.distance-past.type_inv } in
    simp (to_z-of_z, f.length-fits p, j) (remaining-fits p c.distance-past.ensures)

pub share-requires-then-curvature-eq0-3 : goal.share-requires-then-curvature-eq0-3
share-requires-then-curvature-eq0-3 c =
    let p = c.args.self.sound in
    let s = c.args.self.segment.now in
    let j : SFits w64 c.distance-past.result = record { sfits = c.distance-past.type_inv } in
    simp (to_z-of_z, f.length-fits p, j, remaining-fits p c.distance-past.ensures)
    (subst (λ (d : ℤ). OfEnd s.curvature.start s.curvature.length (s.curvature.length -ℤ d)) (sym (past_is p c.distance-past.ensures)) (ends.of_start p))

pub returns-then-curvature-eq0-3 : goal.returns-then-curvature-eq0-3
returns-then-curvature-eq0-3 c =
    let p = c.args.self.sound in
    let s = c.args.self.segment.now in
    let j : SFits w64 c.distance-past.result = record { sfits = c.distance-past.type_inv } in
    let k : SFits w64 c.share-then-curvature-eq0-3.result = record { sfits = c.share-then-curvature-eq0-3.type_inv } in
    simp to_z-of_z ((simp (to_z-of_z, f.length-fits p, j, remaining-fits p c.distance-past.ensures) at c.share-then-curvature-eq0-3.ensures)
    ∙ ap (λ (d : ℤ). rounded (value_of s.curvature.start ×ᶠ ((s.curvature.length -ℤ d) ÷ nat_abs s.curvature.length))) (past_is p c.distance-past.ensures)
    ∙ ends.straight-behind p (zero p.end-size c.if-curvature-eq0-3.true))

-- where neither end is a straight's
pub returns-then-curvature : goal.returns-then-curvature
unfolding rounded
returns-then-curvature c =
    let p = c.args.self.sound in
    let same = is_same (ends.radius-fits p.start-size) (ends.radius-fits p.end-size) c.if-curvature.true in
    let k : SFits w64 c.round_div.result = record { sfits = c.round_div.type_inv } in
    simp to_z-of_z ((simp (to_z-of_z, ends.turn-fits p.start-size, ends.radius-fits p.start-size) at c.round_div.ensures)
    ∙ ends.arc-between p (other _ c.if-curvature-eq0.false) (other _ c.if-curvature-eq0-3.false) same)

pub egg-requires : goal.egg-requires
egg-requires c =
    let s = c.args.self.segment.now in
    let p = c.args.self.sound in
    let j : SFits w64 c.distance-past.result = record { sfits = c.distance-past.type_inv } in
    simp (to_z-of_z, j)
    (subst (λ (d : ℤ). OnEgg s.curvature d) (sym (past_is p c.distance-past.ensures))
    (ends.egg-between p (other _ c.if-curvature-eq0.false) (other _ c.if-curvature-eq0-3.false) (λ e. c.if-curvature.false (ap (of_z w64) e))))

pub returns : goal.returns
returns c =
    let p = c.args.self.sound in
    let j : SFits w64 c.distance-past.result = record { sfits = c.distance-past.type_inv } in
    let k : SFits w64 c.egg.result = record { sfits = c.egg.type_inv } in
    simp to_z-of_z (ends.egg-answer p (past_is p c.distance-past.ensures) (simp (to_z-of_z, j) at c.egg.ensures))
