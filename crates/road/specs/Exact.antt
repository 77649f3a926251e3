-- Document 01, "The exact road".
use Rattle.std.specs.Prelude.{ℕ, zero, suc, ◌+◌, ◌*◌, ◌-◌, List, [], ◌∷◌, Bool, ◌&&◌, length, take, get_or, leb, ltb, ℤ, pos, ◌+ℤ◌, ◌-ℤ◌, ◌*ℤ◌, if◌then◌else◌, Option, None, Some}
use Rattle.road.specs.Base.{first_that, last_that, sum_of}
use Rattle.integers.specs.Fraction.{Frac, ◌÷◌, whole, ◌over◌, ◌+ᶠ◌, ◌-ᶠ◌, ◌×ᶠ◌}
use Rattle.road.specs.File.{Road, straight_kind, arc_kind, clothoid_kind}
use Rattle.road.specs.Lane.{lane_width}
use Rattle.road.specs.declared.Kind.TheVariants.{Straight}
use Rattle.road.specs.declared.Element.{Element}
use Rattle.road.specs.declared.Tangent.{Tangent}
use Rattle.road.specs.declared.Crossfall.{Crossfall}

-- ---- the items of the three lists, and the stations where they begin

-- past the end of a list stands a straight of length 0, and an item of zeros
abbrev pub blank_element : Element
blank_element = record { kind = Straight; length = 0; radius = pos 0 }

abbrev pub blank_tangent : Tangent
blank_tangent = record { length = 0; grade = pos 0; half = 0 }

abbrev pub blank_crossfall : Crossfall
blank_crossfall = record { station = 0; left = pos 0; right = pos 0 }

abbrev pub element_of : Road → ℕ → Element
element_of r i = get_or r.plan i blank_element

abbrev pub tangent_of : Road → ℕ → Tangent
tangent_of r i = get_or r.tangents i blank_tangent

abbrev pub point_of : Road → ℕ → Crossfall
point_of r i = get_or r.crossfalls i blank_crossfall

abbrev pub is_straight : Element → Bool
is_straight e = straight_kind e.kind

abbrev pub is_arc : Element → Bool
is_arc e = arc_kind e.kind

abbrev pub is_clothoid : Element → Bool
is_clothoid e = clothoid_kind e.kind

-- the lengths of the first i elements, and of the first i tangents
unfoldable pub element_start : Road → ℕ → ℕ
element_start r i = sum_of (λ (e : Element). e.length) (take i r.plan)

unfoldable pub tangent_start : Road → ℕ → ℕ
tangent_start r i = sum_of (λ (t : Tangent). t.length) (take i r.tangents)

-- "T is the sum of the plan lengths."
unfoldable pub total : Road → ℕ
total r = element_start r (length r.plan)

-- the last element, tangent and crossfall point but the last that begin at or before s
unfoldable pub element_at : Road → ℕ → ℕ
element_at r s = last_that (λ i. leb (element_start r i) s) (length r.plan)

unfoldable pub tangent_at : Road → ℕ → ℕ
tangent_at r s = last_that (λ i. leb (tangent_start r i) s) (length r.tangents)

unfoldable pub point_at : Road → ℕ → ℕ
point_at r s = last_that (λ i. leb (point_of r i).station s) (length r.crossfalls - 1)

-- from station a to station s
infixr 5 from◌to◌
abbrev pub from◌to◌ : ℕ → ℕ → ℤ
from a to s = pos s -ℤ pos a

-- ---- height and grade

-- grade × length of each tangent, added up: the rise in millionths
unfoldable pub rise : List Tangent → ℤ
rise [] = pos 0
rise (t ∷ ts) = t.grade *ℤ pos t.length +ℤ rise ts

-- "the next tangent starts at the exact height where it ends"
unfoldable pub start_height : Road → ℕ → Frac
start_height r i = (r.start *ℤ pos 1_000_000 +ℤ rise (take i r.tangents)) ÷ 1_000_000

-- "On a tangent the height is its start height plus grade × distance / 10⁶", also where the tangent is prolonged
unfoldable pub tangent_height : Road → ℕ → ℕ → Frac
tangent_height r i s = start_height r i +ᶠ ((tangent_of r i).grade *ℤ (from tangent_start r i to s)) ÷ 1_000_000

-- the vertices: vertex i stands between the tangents i and i + 1
abbrev pub vertex_count : Road → ℕ
vertex_count r = length r.tangents - 1

abbrev pub vertex : Road → ℕ → ℕ
vertex r i = tangent_start r (suc i)

abbrev pub half_length : Road → ℕ → ℕ
half_length r i = (tangent_of r i).half

-- the tangent before tangent i, the blank one before the first, and the half length at the start of tangent i
abbrev pub tangent_before : Road → ℕ → Tangent
tangent_before r i = get_or (blank_tangent ∷ r.tangents) i blank_tangent

abbrev pub half_before_of : Road → ℕ → ℕ
half_before_of r i = (tangent_before r i).half

-- g2 − g1
abbrev pub grade_change : Road → ℕ → ℤ
grade_change r i = (tangent_of r (suc i)).grade -ℤ (tangent_of r i).grade

-- "The vertex .. has a curve from h before to h after it."
unfoldable pub in_curve : Road → ℕ → ℕ → Bool
in_curve r s i = ltb 0 (half_length r i) && leb (vertex r i) (s + half_length r i) && leb s (vertex r i + half_length r i)

unfoldable pub curve_at : Road → ℕ → Option ℕ
curve_at r s = first_that (in_curve r s) (vertex_count r)

-- u, the distance past the curve's start
abbrev pub past : Road → ℕ → ℕ → ℤ
past r i s = from vertex r i to (s + half_length r i)

-- "the first tangent's, prolonged, plus (g2 − g1) × u² / (4h × 10⁶)"
unfoldable pub curve_height : Road → ℕ → ℕ → Frac
curve_height r i s = tangent_height r i s +ᶠ (grade_change r i *ℤ (past r i s *ℤ past r i s)) ÷ (4 * half_length r i * 1_000_000)

abbrev pub height_by : Road → ℕ → Option ℕ → Frac
height_by r s (Some i) = curve_height r i s
height_by r s None = tangent_height r (tangent_at r s) s

unfoldable pub height : Road → ℕ → Frac
height r s = height_by r s (curve_at r s)

-- "the grade is g1 + (g2 − g1) × u / 2h"; on a tangent "the grade is its own"
abbrev pub grade_by : Road → ℕ → Option ℕ → Frac
grade_by r s (Some i) = whole (tangent_of r i).grade +ᶠ (grade_change r i *ℤ past r i s) ÷ (2 * half_length r i)
grade_by r s None = whole (tangent_of r (tangent_at r s)).grade

unfoldable pub grade : Road → ℕ → Frac
grade r s = grade_by r s (curve_at r s)

-- ---- crossfall, drop and edge

pub data Side : Type 0 where
  left right : Side

abbrev pub crossfall_of : Side → Crossfall → ℤ
crossfall_of left p = p.left
crossfall_of right p = p.right

-- "Crossfall is straight between neighbouring points, each side alone."
unfoldable pub crossfall_by : Side → Road → ℕ → ℕ → Frac
crossfall_by d r i s =
    whole (crossfall_of d (point_of r i))
    +ᶠ ((crossfall_of d (point_of r (suc i)) -ℤ crossfall_of d (point_of r i)) *ℤ (from (point_of r i).station to s)) ÷ ((point_of r (suc i)).station - (point_of r i).station)

unfoldable pub crossfall : Side → Road → ℕ → Frac
crossfall d r s = crossfall_by d r (point_at r s) s

-- "The drop is crossfall × lane width / 10⁶, from the exact crossfall."
unfoldable pub edge_drop : Side → Road → ℕ → Frac
edge_drop d r s = crossfall d r s ×ᶠ (pos (lane_width r) ÷ 1_000_000)

-- "The exact edge is the exact height plus the exact drop"
unfoldable pub edge : Side → Road → ℕ → Frac
edge d r s = height r s +ᶠ edge_drop d r s

-- ---- curvature

-- "10⁹/R"
abbrev pub arc_curvature : ℤ → Frac
arc_curvature radius = 1_000_000_000 over radius

-- "A clothoid therefore carries the curvature at both of its ends": there it has its neighbour's, an arc's own, 0 beside a straight and where two clothoids meet
unfoldable pub end_curvature : Road → ℕ → Frac
end_curvature r i = if is_arc (element_of r i) then arc_curvature (element_of r i).radius else whole (pos 0)

abbrev pub start_curvature : Road → ℕ → Frac
start_curvature r zero = whole (pos 0)
start_curvature r (suc i) = end_curvature r i

-- "its curvature runs evenly from one to the other"; beside a straight "its arc's 10⁹/R × distance from the clothoid's straight end / clothoid length"
unfoldable pub clothoid_curvature : Road → ℕ → ℕ → Frac
clothoid_curvature r i s =
    start_curvature r i
    +ᶠ (end_curvature r (suc i) -ᶠ start_curvature r i) ×ᶠ ((from element_start r i to s) ÷ (element_of r i).length)

-- "Curvature is 0 on straights, 10⁹/R on arcs"
unfoldable pub curvature_on : Road → ℕ → ℕ → Frac
curvature_on r i s =
    if is_straight (element_of r i) then whole (pos 0)
    else (if is_arc (element_of r i) then arc_curvature (element_of r i).radius
    else clothoid_curvature r i s)

unfoldable pub curvature : Road → ℕ → Frac
curvature r s = curvature_on r (element_at r s) s
