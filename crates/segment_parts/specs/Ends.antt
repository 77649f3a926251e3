-- The curvature at the ends of an element, from the element and those beside it.
use Rattle.std.specs.Prelude.{◌≡◌, refl, ℕ, suc, ℤ, pos, negsuc, nat_abs, if◌then◌else◌}
use Rattle.road.specs.File.{Road}
use Rattle.road.specs.Exact.{element_of, is_arc, is_clothoid}
use Rattle.road.specs.Rules.{element_before}
use Rattle.road.specs.declared.Element.{Element}
use Rattle.segment.specs.declared.End.{End}
use Rattle.segment.specs.declared.Curvature.{Curvature}

-- 10⁹ with the sign of a radius
abbrev pub turned : ℤ → ℤ
turned (pos n) = pos 1000000000
turned (negsuc n) = negsuc 999999999

pub turned-size : (radius : ℤ) → nat_abs (turned radius) ≡ 1000000000
turned-size (pos n) = refl
turned-size (negsuc n) = refl

-- what an element has at its ends, and gives to a clothoid beside it: an arc its own curvature, any other 0
abbrev pub end_of : Element → End
end_of e = if is_arc e then record { turn = turned e.radius; radius = pos (nat_abs e.radius) } else record { turn = pos 0; radius = pos 1 }

-- a clothoid has at each end what stands beside it
abbrev pub curvature_of : (before e after : Element) → Curvature
curvature_of before e after =
    if is_clothoid e then record { length = pos e.length; start = end_of before; end = end_of after }
    else record { length = pos e.length; start = end_of e; end = end_of e }

-- the curvature of element i of a road
abbrev pub curvature_at : Road → ℕ → Curvature
curvature_at r i = curvature_of (element_before r i) (element_of r i) (element_of r (suc i))
