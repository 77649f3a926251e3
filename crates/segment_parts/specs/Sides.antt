-- The crossfalls from a point to the next, as whole numbers.
use Rattle.std.specs.Prelude.{ℕ, ℤ, pos, ◌-ℤ◌}
use Rattle.road.specs.File.{Road}
use Rattle.road.specs.Exact.{point_of}
use Rattle.road.specs.declared.Crossfall.{Crossfall}
use Rattle.segment.specs.declared.Ramp.{Ramp}
use Rattle.segment.specs.declared.Sides.{Sides}

-- where the crossfall points stand
abbrev pub point_station : Road → ℕ → ℕ
point_station r i = (point_of r i).station

-- a side from one crossfall to the next
abbrev pub ramp_of : ℤ → ℤ → Ramp
ramp_of first second = record { start = first; change = second -ℤ first }

abbrev pub sides_of : Crossfall → Crossfall → Sides
sides_of c d = record { point = pos c.station; span = pos d.station -ℤ pos c.station; left = ramp_of c.left d.left; right = ramp_of c.right d.right }
