use Rattle.std.proofs.Common.{arith}
use Rattle.rules.specs.Walks.{elements-among}
use Rattle.rules.proofs.walks.Elements.new.Goals as goal

pub returns : goal.returns
returns c = elements-among c.args.a.now _ c.elements-plan.ensures.items (omega arith) c.split_or.ensures.first c.split_or.ensures.later
