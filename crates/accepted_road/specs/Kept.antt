-- What is kept beside an accepted road's alignment.
use Rattle.std.specs.Prelude.{◌≡◌}
use Rattle.std.proofs.Common.{sym}
use Rattle.road.specs.File.{Road}
use Rattle.road.specs.Exact.{total}
use Rattle.road.specs.Lane.{lane_width}
use Rattle.laws_of_acceptance.specs.Guaranteed.{Guaranteed}
use Rattle.accepted_road.specs.declared.AcceptedRoad.TheInside.{Inside}

-- the road keeps the rules and the limits; its lane width and T stand beside it
pub record Kept (v : Inside) : Type 0 where
  pub guaranteed : Guaranteed v.alignment
  pub lane : v.lane ≡ lane_width v.alignment
  pub total : v.total ≡ total v.alignment

-- an accepted road is the one that is kept of its road
abbrev pub kept : Road → Inside
kept r = record { alignment = r; lane = lane_width r; total = total r }

pub kept-back : (v : Inside) → Kept v → kept v.alignment ≡ v
kept-back v k = λ i. record { alignment = v.alignment; lane = sym k.lane i; total = sym k.total i }
