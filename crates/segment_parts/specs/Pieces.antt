-- The pieces of the profile: the straight part of a tangent, and a vertical curve.
use Rattle.std.specs.Prelude.{◌≡◌, ◌⊎◌, ℕ, suc, ◌+◌, ◌*◌, ◌-◌, ◌≤◌, ◌<◌, length, ℤ, pos, ◌+ℤ◌, ◌-ℤ◌, ◌*ℤ◌}
use Rattle.road.specs.File.{Road}
use Rattle.road.specs.Exact.{tangent_of, tangent_start, vertex_count, vertex, half_length, half_before_of}
use Rattle.road.specs.declared.Tangent.{Tangent}
use Rattle.laws_of_search.specs.Last.{Begun}
use Rattle.segment_parts.specs.Tangents.{height_start}
use Rattle.segment_parts.specs.declared.TangentPlace.{TangentPlace}
use Rattle.segment.specs.declared.Piece.{Piece}

-- ---- by numbers
-- a vertical curve between two grades that begins at a station
abbrev pub curve_from : (from : ℕ) (height first second : ℤ) (half : ℕ) → Piece
curve_from from height first second half = record { from = pos from; height = height; grade = first; change = second -ℤ first; half = pos half; end = from + 2 * half }

-- the curve at the start of a tangent, that at its end, and its straight part
abbrev pub curve_before : TangentPlace → Tangent → Piece
curve_before p t = curve_from (p.begin - p.half_before) (p.height -ℤ p.grade_before *ℤ pos p.half_before) p.grade_before t.grade p.half_before

abbrev pub curve_after : TangentPlace → Tangent → Tangent → Piece
curve_after p t next = curve_from (p.begin + (t.length - t.half)) (p.height +ℤ t.grade *ℤ pos (t.length - t.half)) t.grade next.grade t.half

abbrev pub straight_part : TangentPlace → Tangent → Piece
straight_part p t = record { from = pos p.begin; height = p.height; grade = t.grade; change = pos 0; half = pos 0; end = p.begin + (t.length - t.half) }

-- the piece that has x, where the tangent t at p is the last that begins at or before x
pub data PieceFrom (p : TangentPlace) (t next : Tangent) (x : ℕ) (q : Piece) : Type 0 where
  before : x < p.begin + p.half_before → q ≡ curve_before p t → PieceFrom p t next x q
  along : p.begin + p.half_before ≤ x → (x < p.begin + (t.length - t.half)) ⊎ (t.half ≡ 0) → q ≡ straight_part p t → PieceFrom p t next x q
  behind : p.begin + (t.length - t.half) ≤ x → (t.half ≡ 0 → ⊥) → q ≡ curve_after p t next → PieceFrom p t next x q

-- ---- of a road
-- where the straight part of tangent i ends, and the curve at its end begins
abbrev pub straight_end : Road → ℕ → ℕ
straight_end r i = tangent_start r i + ((tangent_of r i).length - half_length r i)

abbrev pub straight_of : Road → ℕ → Piece
straight_of r i = record { from = pos (tangent_start r i); height = height_start r i; grade = (tangent_of r i).grade; change = pos 0; half = pos 0; end = straight_end r i }

abbrev pub curve_of : Road → ℕ → Piece
curve_of r i = curve_from (straight_end r i) (height_start r i +ℤ (tangent_of r i).grade *ℤ pos ((tangent_of r i).length - half_length r i)) (tangent_of r i).grade (tangent_of r (suc i)).grade (half_length r i)

-- x is on the straight part of tangent i, before its end
pub record Straight (r : Road) (i x : ℕ) : Type 0 where
  pub begun : Begun (tangent_start r) (length r.tangents) x i
  pub low : tangent_start r i + half_before_of r i ≤ x
  pub high : 0 < half_length r i → x + half_length r i < tangent_start r (suc i)

-- x is in the curve of vertex i, before its end
pub record Curve (r : Road) (i x : ℕ) : Type 0 where
  pub place : i < vertex_count r
  pub long : 0 < half_length r i
  pub low : vertex r i ≤ x + half_length r i
  pub high : x < vertex r i + half_length r i

-- the piece that has x
pub data PieceAt (r : Road) (p : Piece) (x : ℕ) : Type 0 where
  straight : (i : ℕ) → p ≡ straight_of r i → Straight r i x → PieceAt r p x
  curve : (i : ℕ) → p ≡ curve_of r i → Curve r i x → PieceAt r p x
