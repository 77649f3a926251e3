-- Request A.3, "Reversing bends and egg curves": the orders that the kinds of a plan may have.
use Rattle.std.specs.Prelude.{List, [], ◌∷◌, ◌++◌}
use Rattle.road.specs.declared.Kind.{Kind}
use Rattle.road.specs.declared.Kind.TheVariants.{Straight, Arc, Clothoid}

-- behind an arc: the clothoid that leads to the straight; "Two clothoids may now follow one another between arcs"; "One clothoid may stand between two arcs"
pub data BehindArc : List Kind → Type 0 where
  last : BehindArc (Clothoid ∷ [])
  reversing : {ks : List Kind} → BehindArc ks → BehindArc (Clothoid ∷ Clothoid ∷ Arc ∷ ks)
  egg : {ks : List Kind} → BehindArc ks → BehindArc (Clothoid ∷ Arc ∷ ks)

-- "still beginning and ending with a straight": between two straights a clothoid, an arc and what may stand behind it
pub data AllowedOrder : List Kind → Type 0 where
  straight : AllowedOrder (Straight ∷ [])
  bend : {ks later : List Kind} → BehindArc ks → AllowedOrder later → AllowedOrder (Straight ∷ Clothoid ∷ Arc ∷ (ks ++ later))
