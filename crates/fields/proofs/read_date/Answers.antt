use borrow.Author.Rules.{rules}
use Rattle.std.specs.Prelude.{ℕ}
use Rattle.days.specs.Day.{is_day}
use Rattle.road.specs.File.{date}
use Rattle.road.specs.declared.refusal.Fault.TheVariants.{NoDay}
use Rattle.fields.specs.Fits.{fitted}
use Rattle.fields.proofs.read_date.Goals as goal

pub returns : goal.returns
unfolding date
returns c = fitted (λ (v : ℕ). v) is_day NoDay (c.read_as.ensures _ (λ v o p. search rules))
