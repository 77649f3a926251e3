-- The number, and one store behind it.
use Rattle.std.proofs.Common.{arith}
use Rattle.decimal.specs.Written.{wrote_byte}
use Rattle.decimal.proofs.put_field.Goals as goal

pub returns : goal.returns
returns g c = wrote_byte c.args.after c.put-end.ensures (omega (arith, c.requires))
