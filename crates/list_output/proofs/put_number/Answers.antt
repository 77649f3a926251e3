-- A number has at most 20 digits, and the byte stands behind it.
use Rattle.std.proofs.Common.{[], ◌∷◌, length-append, arith}
use Rattle.decimal.specs.Decimal.{digits}
use Rattle.list_output.specs.RefusalLine.{digits-short}
use Rattle.list_output.proofs.put_number.Goals as goal

pub returns-clause-most : goal.returns-clause-most
returns-clause-most c = omega (arith, c.put_field.ensures.end, length-append (digits c.args.n) (c.args.after ∷ []), digits-short c.args.n c.ranges.n.fits)
