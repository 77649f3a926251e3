use borrow.Author.Rules.{rules}
use Rattle.road.specs.File.{signed, in_size}
use Rattle.file_numbers.specs.Number.{signed_of}
use Rattle.road.specs.declared.refusal.Fault.TheVariants.{OutOfRange}
use Rattle.fields.specs.Fits.{fitted}
use Rattle.fields.proofs.read_sized.Goals as goal

pub returns : goal.returns
unfolding signed
returns c = let a = c.args in fitted signed_of (in_size a.range.start a.range.end) OutOfRange (c.read_as.ensures _ (λ v o p. search rules))
