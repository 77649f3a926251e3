use Rattle.std.specs.Prelude.{◌≡◌, refl, Bool, true, false, ℕ, ◌+◌, ◌*◌, ◌^◌, ◌%◌, map, take, get_or}
use Rattle.std.proofs.Common.{ap, ◌∙◌, arith}
use Rattle.speed_marks.specs.Marks.{tried_speeds, stands, set_of, marks, bit}
use Rattle.speed_marks.specs.Sets.{few_first, one_above, shifted}
use Rattle.speed_marks.proofs.marks_of.Goals.{After-from}
use Rattle.speed_marks.proofs.marks_of.Goals as goal

pub loop-bit-init : goal.loop-bit-init
unfolding set_of
loop-bit-init c = refl

-- the mark of the speed, at its place above those before it
module _ (c : After-from) where
  mark : c.from.result ≡ bit (stands c.args.a.now (get_or tried_speeds c.loop-bit.bit 0))
  mark = go c.passes.result refl ∙ ap bit c.passes.ensures
    where
      go : (b : Bool) → c.passes.result ≡ b → c.from.result ≡ bit b
      go true e = c.from.ensures ∙ rw e
      go false e = c.from.ensures ∙ rw e

  placed : c.loop-bit.set + c.from.result * 2 ^ c.loop-bit.bit % 4294967296 ≡ set_of (take (c.loop-bit.bit + 1) (map (stands c.args.a.now) tried_speeds))
  placed = rw (mark, shifted (stands c.args.a.now (get_or tried_speeds c.loop-bit.bit 0)) c.loop-bit.bit c.loop-bit-test.true, one_above (stands c.args.a.now) c.loop-bit.bit c.loop-bit-test.true, c.loop-bit.invariant)

pub overflow_add-set : goal.overflow_add-set
overflow_add-set c = let d = (goal.at.overflow_add-set c).After-from in let e = placed d in let n = few_first (stands c.args.a.now) (c.loop-bit.bit + 1) (omega arith) in omega arith

pub loop-bit-preserved : goal.loop-bit-preserved
loop-bit-preserved c = placed (goal.at.loop-bit-preserved c).After-from

pub returns : goal.returns
unfolding marks
returns c = let all : c.loop-bit.bit ≡ 7 = omega arith in c.loop-bit.invariant ∙ ap (λ (k : ℕ). set_of (take k (map (stands c.args.a.now) tried_speeds))) all
