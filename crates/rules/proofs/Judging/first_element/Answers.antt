-- Where the plan is known to be kept, no element is looked at.
use Rattle.std.specs.Prelude.{◌≡◌, ◌+◌, length}
use Rattle.std.proofs.Common.{sym, ap, ◌∙◌}
use Rattle.std.proofs.lemmas.Iterator.Consumers.{YieldsList-from_first}
use Rattle.road.specs.Base.{first_that}
use Rattle.road.specs.Rules.{element_test, element_among, first_broken}
use Rattle.laws_of_acceptance.specs.Judging.{keeps_none}
use Rattle.road.specs.declared.Rule.TheVariants as rule
use Rattle.road.specs.declared.ElementAmong.{ElementAmong}
use Rattle.rules.specs.Places.{few_elements}
use Rattle.rules.specs.Walks.{elements_left, items_at}
use Rattle.rules.proofs.Judging.first_element.Goals as goal

pub returns-then-self : goal.returns-then-self
returns-then-self c =
    let s = c.args.self.now in
    sym (keeps_none s.limits.now s.alignment.now (rule.Element c.args.rule) (s.kept c.if-self.true c.args.rule))

pub returns : goal.returns
unfolding first_broken
returns c =
    let r = c.args.self.now.alignment.now in
    let all = YieldsList-from_first {A = ElementAmong} (λ x. x) elements_left {s = c.new.result} (items_at (element_among r) (length r.plan + 1)) c.new.ensures in
    let count = c.elements-count.ensures.items in
    let places : (element_test c.args.rule).places (length c.elements-count.result.now) ≡ (element_test c.args.rule).places (length r.plan) = rw count in
    c.first_broken.ensures (element_among r) (length r.plan + 1) all.runs (rw places (few_elements c.args.rule (length r.plan)))
    ∙ ap (first_that (λ i. (element_test c.args.rule).broken c.args.self.now.limits.now (element_among r i))) places
