use Rattle.std.proofs.Common.{rules}
use Rattle.acceptance.specs.Acceptance.{guaranteed-road}
use Rattle.acceptance.proofs.accept.Goals as goal

pub new-requires : goal.new-requires
new-requires c = search (guaranteed-road c.args.file.now, rules)
