use Rattle.walk.proofs.Walk.begin.Goals as goal

pub at-requires-clause-reached : goal.at-requires-clause-reached
at-requires-clause-reached c = c.start.ensures c.args.first
