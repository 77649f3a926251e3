use Rattle.std.proofs.Common.{◌≡◌, ◌∙◌, ap, sym, rules, ℕ}
use Rattle.std.specs.List.{sum_by}
use Rattle.std.proofs.Math.Seq.{take-length}
use Rattle.road.specs.Base.{sum_of}
use Rattle.road.specs.Exact.{tangent_start}
use Rattle.road.specs.Totals.{sum-is}
use Rattle.road.specs.declared.Tangent.{Tangent}
use Rattle.rules.proofs.profile_length.Goals as goal

pub returns : goal.returns
unfolding tangent_start
returns c =
    let long : Tangent → ℕ = λ t. t.length in
    let added : c.sum.result ≡ sum_by long c.tangents.result.now = search rules in
    added ∙ sum-is long c.tangents.result.now ∙ ap (sum_of long) (c.tangents.ensures.items ∙ sym (take-length c.args.a.now.tangents))
