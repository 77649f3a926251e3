-- The rest, one less below zero, is held against half of the divisor (`round-half`); the number above fits because the answer does.
use Rattle.std.specs.Prelude.{◌≡◌, Bool, cond, ℤ, pos, nat_abs, ◌+ℤ◌, ◌-ℤ◌, ◌*ℤ◌}
use Rattle.std.proofs.Common.{subst}
use Rattle.std.specs.Int.Signed.{lt_z}
use Rattle.std.specs.Int.{w64}
use mir.Val.{SFits}
use mir.Facts.{to_z-of_z}
use Rattle.integers.specs.Rounding.{negative, round}
use Rattle.integers.proofs.RoundingLaws.{round-half}
use Rattle.integers.specs.Width.{RoundParts, less-fits}
use Rattle.integers.proofs.round_parts.Goals as goal
use Rattle.integers.proofs.round_parts.Goals.{Else-lowered-d}

-- the branch's test, of the law's own terms
tested : (q m d : ℤ) {l : ℤ} {b : Bool} → RoundParts q m d → l ≡ m -ℤ pos (negative q) → lt_z l (d -ℤ m) ≡ b
    → cond b q (q +ℤ pos 1) ≡ round (q *ℤ d +ℤ m) (nat_abs d)
tested q m d {b} r is e = round-half q m d r.from r.below (subst (λ (x : ℤ). lt_z x (d -ℤ m) ≡ b) is e)

module _ (c : Else-lowered-d) where
  high : c.args.q +ℤ pos 1 ≡ round (c.args.q *ℤ c.args.d +ℤ c.args.m) (nat_abs c.args.d)
  high =
      let k : SFits w64 c.lowered.result = record { sfits = c.lowered.type_inv } in
      let o : SFits w64 (c.args.d -ℤ c.args.m) = less-fits c.requires.from c.requires.below c.ranges.d in
      tested c.args.q c.args.m c.args.d c.requires (simp (to_z-of_z, c.ranges.q, c.ranges.m) at c.lowered.ensures) (simp (to_z-of_z, k, c.ranges.m, c.ranges.d, o) at c.if-lowered-d.false)

  high_fits : SFits w64 (c.args.q +ℤ pos 1)
  high_fits = rw high c.requires.room

pub overflow_add-result : goal.overflow_add-result
overflow_add-result c = simp (to_z-of_z, c.ranges.q) (high_fits c)

pub returns-then-lowered-d : goal.returns-then-lowered-d
returns-then-lowered-d c =
    let k : SFits w64 c.lowered.result = record { sfits = c.lowered.type_inv } in
    let o : SFits w64 (c.args.d -ℤ c.args.m) = less-fits c.requires.from c.requires.below c.ranges.d in
    simp (to_z-of_z, c.ranges.q) (tested c.args.q c.args.m c.args.d c.requires (simp (to_z-of_z, c.ranges.q, c.ranges.m) at c.lowered.ensures) (simp (to_z-of_z, k, c.ranges.m, c.ranges.d, o) at c.if-lowered-d.true))

pub returns-else-lowered-d : goal.returns-else-lowered-d
returns-else-lowered-d c = simp (to_z-of_z, c.ranges.q, high_fits c) (high c)
