use borrow.Author.Rules.{rules}
use Rattle.std.specs.Prelude.{ℕ, ◌&&◌, leb}
use Rattle.road.specs.File.{field}
use Rattle.road.specs.declared.refusal.Fault.TheVariants.{OutOfRange}
use Rattle.fields.specs.Fits.{fitted}
use Rattle.fields.proofs.read_field.Goals as goal

pub returns : goal.returns
unfolding field
returns c = let a = c.args in fitted (λ (v : ℕ). v) (λ (v : ℕ). leb a.range.start v && leb v a.range.end) OutOfRange (c.read_as.ensures _ (λ v o p. search rules))
