-- Two bytes of the table.
use Rattle.decimal.proofs.Table.{pair-at}
use Rattle.decimal.proofs.pair.Goals as goal

pub returns : goal.returns
returns c = pair-at c.args.n c.requires
