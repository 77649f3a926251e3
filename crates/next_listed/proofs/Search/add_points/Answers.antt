-- The points' stations are what the chain gives.
use Rattle.std.specs.Prelude.{refl}
use Rattle.std.proofs.Common.{rules}
use Rattle.std.proofs.lemmas.Iterator.{YieldsList-from_slice, YieldsList-from_map}
use Rattle.std.proofs.lemmas.Iterator.Consumers.{YieldsList-at}
use Rattle.road.specs.declared.Crossfall.{Crossfall}
use Rattle.next_listed.specs.Along.{point_stations, gives}
use Rattle.next_listed.proofs.Search.add_points.Goals as goal

pub returns : goal.returns
returns c =
    c.add_all.ensures (point_stations c.args.points.now)
    (gives {xs = point_stations c.args.points.now} refl (YieldsList-from_map _ (λ (p : Crossfall). p.station) (YieldsList-at c.map.ensures.source (YieldsList-from_slice c.args.points.now c.iter.ensures.rest)) c.map.ensures.closure (λ x r q k. search rules)))
