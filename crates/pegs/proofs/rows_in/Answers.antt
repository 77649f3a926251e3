-- Where none is bad, all are good.
use Rattle.std.proofs.Common.{sym}
use Rattle.peg_list.specs.Search.{good}
use Rattle.pegs.proofs.rows_in.Goals as goal

pub put_rows-requires-clause-good : goal.put_rows-requires-clause-good
put_rows-requires-clause-good c = good _ _ (sym (rw c.total.ensures.total at c.in_default.ensures))
