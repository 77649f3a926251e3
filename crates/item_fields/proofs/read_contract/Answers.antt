use Rattle.std.proofs.Common.{rules, arith}
use Rattle.road.specs.File.{dated_fields}
use Rattle.reader.specs.Standing.{standing}
use Rattle.fields.specs.Onward.{chained, stopped, gives}
use Rattle.item_fields.proofs.Contracts.{dated, plain}
use Rattle.item_fields.proofs.read_contract.Goals as goal

pub returns-then-ne : goal.returns-then-ne
returns-then-ne c = plain {at = standing c.args.r.now} (search rules)

pub returns-in_err-day : goal.returns-in_err-day
unfolding dated_fields
returns-in_err-day c = dated (search rules) (grind (arith, chained, stopped))

pub returns : goal.returns
unfolding dated_fields
returns c = dated (search rules) (chained _ c.in_ok-read_number.ensures (chained _ c.in_ok-day.ensures gives))
