-- One rule of the order after another; those before it are kept.
use Rattle.std.proofs.Common.{sym, ◌∙◌}
use Rattle.rules.specs.Trying.{trying_start, tried, trying_stop, trying_on, trying_end}
use Rattle.rules.proofs.judge.Goals as goal

pub loop-rule-init : goal.loop-rule-init
loop-rule-init c = trying_start

pub first_of-requires : goal.first_of-requires
first_of-requires c = tried c.loop-rule.invariant c.loop-rule-test.true

pub returns-in-Some : goal.returns-in-Some
returns-in-Some c = rw (c.at.ensures, sym c.new-judging.ensures.alignment, sym c.new-judging.ensures.limits) (trying_stop c.loop-rule.invariant c.loop-rule-test.true (sym c.first_of.ensures ∙ c.in-Some.is))

pub loop-rule-preserved : goal.loop-rule-preserved
loop-rule-preserved c = trying_on c.loop-rule.invariant c.loop-rule-test.true (sym c.first_of.ensures ∙ c.in_default.is)

pub returns : goal.returns
returns c = rw (sym c.new-judging.ensures.alignment, sym c.new-judging.ensures.limits) (trying_end c.loop-rule.invariant c.loop-rule-test.false)
