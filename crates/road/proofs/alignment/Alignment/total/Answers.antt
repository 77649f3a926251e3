use Rattle.std.proofs.Common.{◌≡◌, ◌∙◌, ap, sym, rules, ℕ}
use Rattle.std.specs.List.{sum_by}
use Rattle.std.proofs.Math.Seq.{take-length}
use Rattle.road.specs.Base.{sum_of}
use Rattle.road.specs.Exact.{total, element_start}
use Rattle.road.specs.Totals.{sum-is}
use Rattle.road.specs.declared.Element.{Element}
use Rattle.road.proofs.alignment.Alignment.total.Goals as goal

pub returns : goal.returns
unfolding total element_start
returns c =
    let long : Element → ℕ = λ e. e.length in
    let added : c.sum.result ≡ sum_by long c.elements.result.now = search rules in
    added ∙ sum-is long c.elements.result.now ∙ ap (sum_of long) (c.elements.ensures.items ∙ sym (take-length c.args.self.now.plan))
