-- Refusal 19, as far as a crossfall point and the next show it: the crossfall at an arc's start is that of the last point at or before it.
use Rattle.std.specs.Prelude.{ℕ, Bool, false, not, ◌&&◌, ◌||◌, leb, if◌then◌else◌}
use Rattle.road.specs.declared.Limits.{Limits}
use Rattle.road.specs.Exact.{is_arc}
use Rattle.road.specs.Rules.{changes_between, allowed}
use Rattle.road.specs.declared.Element.{Element}
use Rattle.road.specs.declared.Crossfall.{Crossfall}

-- of an element from low to high
unfoldable pub shown_by : Limits → Element → (low high : ℕ) → (p after : Crossfall) → Bool
shown_by l e low high p after =
    if is_arc e
    then changes_between low high p after || leb p.station low && not (allowed l e.radius p)
    else false
