-- Where a station lies on the three lists of a road, and what a place reached on the way says.
use Rattle.std.specs.Prelude.{◌≡◌, ℕ, suc, ◌-◌, ◌≤◌, ◌<◌, length}
use Rattle.road.specs.File.{Road}
use Rattle.road.specs.Exact.{point_of, element_start, tangent_start}
use Rattle.laws_of_search.specs.Last.{Begun}
use Rattle.segment_parts.specs.Tangents.{TangentPlaced}
use Rattle.segment_parts.specs.Pieces.{PieceAt}
use Rattle.segment_parts.specs.Sides.{point_station, sides_of}
use Rattle.segment_parts.specs.Ends.{curvature_at}
use Rattle.segment_parts.specs.declared.TangentPlace.{TangentPlace}
use Rattle.cursors.specs.declared.ElementPlace.{ElementPlace}
use Rattle.cursors.specs.declared.ProfilePlace.{ProfilePlace}
use Rattle.cursors.specs.declared.CrossfallPlace.{CrossfallPlace}
use Rattle.cursors.specs.declared.Place.{Place}

-- one of n starts, at or before x
pub record Reached (f : ℕ → ℕ) (n x i : ℕ) : Type 0 where
  pub within : i < n
  pub begun : f i ≤ x

-- ---- on the plan
pub record ElementPlaced (r : Road) (p : ElementPlace) : Type 0 where
  pub begin : p.begin ≡ element_start r p.index
  pub end : p.end ≡ element_start r (suc p.index)
  pub curvature : p.curvature ≡ curvature_at r p.index

pub record ElementReached (r : Road) (p : ElementPlace) (x : ℕ) : Type 0 where
  pub placed : ElementPlaced r p
  pub at : Reached (element_start r) (length r.plan) x p.index

pub record ElementFound (r : Road) (p : ElementPlace) (x : ℕ) : Type 0 where
  pub placed : ElementPlaced r p
  pub at : Begun (element_start r) (length r.plan) x p.index

-- ---- on the profile
pub record TangentReached (r : Road) (p : TangentPlace) (x : ℕ) : Type 0 where
  pub placed : TangentPlaced r p
  pub at : Reached (tangent_start r) (length r.tangents) x p.index

-- up to its end the piece is that of x
pub record ProfileReached (r : Road) (p : ProfilePlace) (x : ℕ) : Type 0 where
  pub tangent : TangentReached r p.tangent x
  pub piece : x < p.piece.end → PieceAt r p.piece x

pub record ProfileFound (r : Road) (p : ProfilePlace) (x : ℕ) : Type 0 where
  pub tangent : TangentReached r p.tangent x
  pub piece : PieceAt r p.piece x

-- ---- on the crossfalls
pub record CrossfallPlaced (r : Road) (p : CrossfallPlace) : Type 0 where
  pub end : p.end ≡ point_station r (suc p.index)
  pub sides : p.sides ≡ sides_of (point_of r p.index) (point_of r (suc p.index))

pub record CrossfallReached (r : Road) (p : CrossfallPlace) (x : ℕ) : Type 0 where
  pub placed : CrossfallPlaced r p
  pub at : Reached (point_station r) (length r.crossfalls - 1) x p.index

pub record CrossfallFound (r : Road) (p : CrossfallPlace) (x : ℕ) : Type 0 where
  pub placed : CrossfallPlaced r p
  pub at : Begun (point_station r) (length r.crossfalls - 1) x p.index

-- ---- on all three
-- a place at or before that of x, which may be moved on to x
pub record PlaceReached (r : Road) (p : Place) (x : ℕ) : Type 0 where
  pub element : ElementReached r p.element x
  pub profile : ProfileReached r p.profile x
  pub crossfall : CrossfallReached r p.crossfall x

-- the place of x
pub record PlaceFound (r : Road) (p : Place) (x : ℕ) : Type 0 where
  pub element : ElementFound r p.element x
  pub profile : ProfileFound r p.profile x
  pub crossfall : CrossfallFound r p.crossfall x
