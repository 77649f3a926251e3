-- "with that speed's row in place of the class's": in any other class and terrain a road has the same marks. Assumes nothing.
use Rattle.std.specs.Prelude.{◌≡◌, Bool, ℕ, Option, None, Some}
use Rattle.std.proofs.Math.Path.{refl, ap, ap₂}
use mathlib.Core.List.{List, [], ◌∷◌, map}
use Rattle.road.specs.File.{Road}
use Rattle.road.specs.declared.Class.{Class}
use Rattle.road.specs.declared.Terrain.{Terrain}
use Rattle.road.specs.declared.Limits.{Limits}
use Rattle.road.specs.Exact.{element_start, tangent_start, total, point_at}
use Rattle.road.specs.Rules.{Verdict, breaks, other_total, changes_on, wrong_superelevation, road_test, order, first_broken, judge, judged}
use Rattle.road.specs.declared.Rule.{Rule}
use Rattle.road.specs.declared.Rule.TheVariants as rule
use Rattle.speed_marks.specs.Marks.{tried_speeds, limits_with, is_passed, stands, set_of, marks}

-- a road in another class and terrain
abbrev pub in_class : Class → Terrain → Road → Road
in_class class terrain r = record {
  head = record { contract = r.head.contract; class = class; terrain = terrain; step = r.head.step; ramp = r.head.ramp };
  plan = r.plan;
  start = r.start;
  tangents = r.tangents;
  crossfalls = r.crossfalls;
}

-- marks that are the same at each speed are the same along a list of speeds
same_each : (f g : ℕ → Bool) → ((v : ℕ) → f v ≡ g v) → (speeds : List ℕ) → map f speeds ≡ map g speeds
same_each f g same [] = refl
same_each f g same (v ∷ later) = ap₂ (λ (m : Bool) (l : List Bool). m ∷ l) (same v) (same_each f g same later)

module _ (class : Class) (terrain : Terrain) (r : Road) where
  same_rule : (x : Rule) (l : Limits) → first_broken x l (in_class class terrain r) ≡ first_broken x l r
  unfolding first_broken other_total wrong_superelevation changes_on element_start tangent_start total point_at
  same_rule (rule.Element x) l = refl
  same_rule rule.OtherTotal l = refl
  same_rule rule.ShortStraight l = refl
  same_rule (rule.Tangent x) l = refl
  same_rule (rule.Point x) l = refl
  same_rule rule.Superelevation l = refl

  same_verdict : (rules : List Rule) (l : Limits) → judge rules l (in_class class terrain r) ≡ judge rules l r
  unfolding judge
  same_verdict [] l = refl
  same_verdict (x ∷ later) l = ap₂ (λ (o : Option ℕ) (v : Verdict). elim o [ Some place ↦ breaks (road_test x).number place | None ↦ v ]) (same_rule x l) (same_verdict later l)

  pub same-marks : marks (in_class class terrain r) ≡ marks r
  unfolding marks stands judged
  same-marks = ap set_of (same_each _ _ (λ v. ap is_passed (same_verdict order (limits_with v r))) tried_speeds)
