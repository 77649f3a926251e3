-- The listed stations in their order.
use Rattle.next_listed.specs.Along.{next-after}
use Rattle.next_listed.proofs.least_listed.Goals as goal

pub returns : goal.returns
returns c =
    rw (c.add_points.ensures, c.crossfalls.ensures.items, c.add_curves.ensures, c.saturating_sub.ensures, c.tangents-tangents.ensures.items, c.add_ends.ensures, c.elements.ensures.items, c.add_multiples.ensures, c.head.ensures, c.add-2.ensures, c.add.ensures, c.requires.total_is)
    (next-after c.args.alignment.now c.args.s)
