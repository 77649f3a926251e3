-- Rules 9 and 19 take the plan's and the points' order from the rules before.
use Rattle.std.proofs.Common.{◌≡◌, subst}
use Rattle.road.specs.declared.Limits.{Limits}
use Rattle.road.specs.File.{Road}
use Rattle.laws_of_acceptance.specs.PlanOrder.{PlanOrder, plan-order}
use Rattle.laws_of_acceptance.specs.PointsInOrder.{PointOrder}
use Rattle.laws_of_acceptance.specs.PointOrder.{point-order}
use Rattle.laws_of_acceptance.specs.Judging.{Tried, kept-earlier, straight_follows, superelevation_follows}
use Rattle.road.specs.declared.Rule.{Rule}
use Rattle.road.specs.declared.Rule.TheVariants as rule
use Rattle.road.specs.declared.ElementRule.TheVariants as element
use Rattle.road.specs.declared.PointRule.TheVariants as point
use Rattle.rules.proofs.Judging.first_of.Goals as goal

-- where the straights are tried, the plan is in its order; where superelevation is, the points are
plan-kept : (l : Limits) (r : Road) {x : Rule} → x ≡ rule.ShortStraight → Tried x l r → PlanOrder r
plan-kept l r e t = plan-order l r (kept-earlier l r (rule.Element element.Kinds) rule.ShortStraight straight_follows (subst (λ (x : Rule). Tried x l r) e t))

points_kept : (l : Limits) (r : Road) {x : Rule} → x ≡ rule.Superelevation → Tried x l r → PointOrder r
points_kept l r e t = point-order l r (kept-earlier l r (rule.Point point.MisplacedPoint) rule.Superelevation superelevation_follows (subst (λ (x : Rule). Tried x l r) e t))

pub first_straight-requires : goal.first_straight-requires
first_straight-requires c = plan-kept c.args.self.now.limits.now c.args.self.now.alignment.now c.in-ShortStraight.is c.requires

pub first_arc-requires : goal.first_arc-requires
first_arc-requires c = points_kept c.args.self.now.limits.now c.args.self.now.alignment.now c.in-Superelevation.is c.requires
