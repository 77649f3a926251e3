-- The segment of its parts, and the next joint.
use Rattle.std.specs.Prelude.{ℕ, ◌+◌, min, leb, pos, if◌then◌else◌}
use Rattle.segment.specs.declared.Segment.{Segment}
use Rattle.segment.specs.declared.Piece.{Piece}
use Rattle.segment.specs.declared.Sides.{Sides}
use Rattle.segment.specs.declared.Curvature.{Curvature}

-- of a piece of the profile, a pair of crossfall points and an element that begins at a station
abbrev pub segment_of : Piece → Sides → Curvature → (element lane : ℕ) → Segment
segment_of p s c element lane = record { piece = p; sides = s; lane = pos lane; element = pos element; curvature = c }

-- the least of three ends beyond x; where the element ends at x, the road ends there
abbrev pub joint_of : (piece element point x : ℕ) → ℕ
joint_of piece element point x = if leb element x then x + 1 else min piece (min element point)
