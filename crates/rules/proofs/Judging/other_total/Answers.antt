use Rattle.std.proofs.Common.{◌∙◌}
use Rattle.road.specs.Rules.{other_total, first_broken}
use Rattle.rules.specs.Search.{then_1}
use Rattle.rules.proofs.Judging.other_total.Goals as goal

pub returns : goal.returns
unfolding other_total first_broken
returns c = c.then_some.ensures ∙ then_1 _ _ (rw (c.profile_length.ensures, c.args.self.now.whole_is_total))
