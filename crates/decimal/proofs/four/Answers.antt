-- Two digits, and two behind them.
use Rattle.decimal.proofs.Parts.{two-and-two}
use Rattle.decimal.proofs.four.Goals as goal

pub returns : goal.returns
returns c = two-and-two c.args.n c.pair.ensures c.pair-2.ensures
