-- The tests of a kind hold of that kind alone.
use Rattle.std.specs.Prelude.{◌≡◌, refl, true}
use Rattle.road.specs.File.{straight_kind, arc_kind, clothoid_kind}
use Rattle.road.specs.declared.Kind.{Kind}
use Rattle.road.specs.declared.Kind.TheVariants.{Straight, Arc, Clothoid, Other}

pub is-straight-kind : (k : Kind) → straight_kind k ≡ true → k ≡ Straight
is-straight-kind Straight e = refl
is-straight-kind Arc e = cc
is-straight-kind Clothoid e = cc
is-straight-kind Other e = cc

pub is-arc-kind : (k : Kind) → arc_kind k ≡ true → k ≡ Arc
is-arc-kind Straight e = cc
is-arc-kind Arc e = refl
is-arc-kind Clothoid e = cc
is-arc-kind Other e = cc

pub is-clothoid-kind : (k : Kind) → clothoid_kind k ≡ true → k ≡ Clothoid
is-clothoid-kind Straight e = cc
is-clothoid-kind Arc e = cc
is-clothoid-kind Clothoid e = refl
is-clothoid-kind Other e = cc
