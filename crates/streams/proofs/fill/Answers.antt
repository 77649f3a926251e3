use Rattle.std.proofs.Common.{subst, rules}
use Rattle.std.specs.Io.KnownBytes.{Consumes}
use Rattle.std.proofs.KnownBytes.{Consumes-trans}
use Rattle.streams.specs.Front.{read_behind}
use Rattle.streams.proofs.fill.Goals as goal

pub loop-count-preserved : goal.loop-count-preserved
loop-count-preserved g c =
    let l = c.loop-count in
    let part = read_behind l.count c.in-Ok.more l.buffer c.read.new.buf l.invariant.0 c.in-Ok.ensures.bound.0 in
    (search rules, subst (Consumes _ _) part (Consumes-trans _ _ _ _ _ l.invariant.1 c.in-Ok.ensures.bytes.0))
