use Rattle.std.proofs.Common.{◌≡◌, ℕ, ◌+◌, ◌-◌, ◌++◌, List, length, take, drop, sym, ap, ◌∙◌, subst, rules}
use Rattle.std.proofs.Math.Seq.{take-add}
use Rattle.std.proofs.lemmas.List.{take_rest}
use Rattle.std.specs.Io.KnownBytes.{Appends}
use Rattle.std.proofs.KnownBytes.{Appends-trans}
use Rattle.streams.proofs.write_whole.Goals as goal

-- the bytes taken so far and those of one more write stand together at the front
joined : (done n : ℕ) (bytes : List ℕ) → take done bytes ++ take n (take (length bytes - done) (drop done bytes)) ≡ take (done + n) bytes
joined done n bytes = ap (λ rest. take done bytes ++ take n rest) (take_rest bytes done) ∙ sym (take-add done n bytes)

pub loop-done-preserved : goal.loop-done-preserved
loop-done-preserved g c =
    (search rules, subst (Appends _ _) (joined c.loop-done.done c.in_ok-count.count c.args.bytes.now) (Appends-trans _ _ _ _ _ c.loop-done.invariant.1 c.in_ok-count.ensures.bytes))
