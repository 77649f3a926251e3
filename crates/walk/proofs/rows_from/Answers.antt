-- The rows from the first listed station on; where there is none, no row is written.
use Rattle.std.proofs.Common.{length}
use Rattle.road.specs.Machine.{overwrite}
use Rattle.walk.proofs.Next.{next-first, next-none}
use Rattle.walk.proofs.rows_from.Goals as goal

pub rows_on-requires : goal.rows_on-requires
rows_on-requires c = (next-first _ c.args.from c.in-Some.ensures.value).among

pub returns-in-Some-clause-value : goal.returns-in-Some-clause-value
returns-in-Some-clause-value c = rw ((next-first c.args.road.now c.args.from c.in-Some.ensures.value).same (length c.args.out.now)) c.rows_on.ensures.value

pub returns-in-Some-clause-out_after : goal.returns-in-Some-clause-out_after
returns-in-Some-clause-out_after c = rw ((next-first c.args.road.now c.args.from c.in-Some.ensures.value).same (length c.args.out.now)) c.rows_on.ensures.out_after

-- no listed station remains
pub returns-in-None-clause-value : goal.returns-in-None-clause-value
returns-in-None-clause-value c = rw (next-none c.args.road.now c.args.from c.in-None.ensures.value (length c.args.out.now))

pub returns-in-None-clause-out_after : goal.returns-in-None-clause-out_after
unfolding overwrite
returns-in-None-clause-out_after c = rw (next-none c.args.road.now c.args.from c.in-None.ensures.value (length c.args.out.now))
