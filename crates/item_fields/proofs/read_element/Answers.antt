use Rattle.std.proofs.Common.{rules, arith}
use Rattle.reader.specs.Standing.{standing}
use Rattle.road.specs.File.{choice, element, kind_of}
use Rattle.fields.specs.Fits.{chosen}
use Rattle.fields.specs.Reads.{Reads}
use Rattle.fields.specs.Onward.{chained, stopped, gives}
use Rattle.std.specs.Prelude.{Ok}
use Rattle.item_fields.proofs.read_element.Goals as goal
use Rattle.item_fields.proofs.read_element.Goals.{In_ok-kind}

read_kind : (c : In_ok-kind) → Reads (choice 0 2 kind_of) (standing c.args.r.now) (standing c.read_as.new.r) (Ok c.in_ok-kind.kind)
read_kind c = chosen 0 2 kind_of (c.in_ok-kind.ensures _ (λ n o e. search rules))

pub returns-in_err-kind : goal.returns-in_err-kind
unfolding element
returns-in_err-kind c = let kind = chosen 0 2 kind_of (c.in_err-kind.ensures _ (λ n o e. search rules)) in grind (arith, stopped, kind)

pub returns-in_err-length : goal.returns-in_err-length
unfolding element
returns-in_err-length c = grind (arith, chained, stopped, read_kind (goal.at.returns-in_err-length c).In_ok-kind)

pub returns-in_err-radius-in-Arc : goal.returns-in_err-radius-in-Arc
unfolding element
returns-in_err-radius-in-Arc c = grind (arith, chained, stopped, read_kind (goal.at.returns-in_err-radius-in-Arc c).In_ok-kind)

pub returns-in_ok-radius-in-Arc : goal.returns-in_ok-radius-in-Arc
unfolding element
returns-in_ok-radius-in-Arc c = grind (arith, chained, gives, read_kind (goal.at.returns-in_ok-radius-in-Arc c).In_ok-kind)

pub returns-in-Straight : goal.returns-in-Straight
unfolding element
returns-in-Straight c = grind (arith, chained, gives, read_kind (goal.at.returns-in-Straight c).In_ok-kind)
