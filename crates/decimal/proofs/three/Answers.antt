-- One digit, and two behind it.
use Rattle.decimal.proofs.Parts.{one-and-two}
use Rattle.decimal.proofs.three.Goals as goal

pub returns : goal.returns
returns c = one-and-two c.args.n c.one.ensures c.pair.ensures
