-- How far the rules of the items of a list look.
use Rattle.std.specs.Prelude.{ℕ, ◌+◌, ◌≤◌}
use Rattle.std.proofs.Common.{arith}
use Rattle.road.specs.Rules.{element_test, tangent_test, point_test}
use Rattle.road.specs.declared.ElementRule.{ElementRule}
use Rattle.road.specs.declared.ElementRule.TheVariants as element
use Rattle.road.specs.declared.TangentRule.{TangentRule}
use Rattle.road.specs.declared.TangentRule.TheVariants as tangent
use Rattle.road.specs.declared.PointRule.{PointRule}
use Rattle.road.specs.declared.PointRule.TheVariants as point

-- the rules of the plan look at no place behind the one after the last element
pub few_elements : (x : ElementRule) (n : ℕ) → (element_test x).places n ≤ n + 1
few_elements element.PlanLength n = omega arith
few_elements element.Kinds n = omega arith
few_elements element.LinkedArcs n = omega arith
few_elements element.LongStraight n = omega arith
few_elements element.TightArc n = omega arith
few_elements element.ShortArc n = omega arith
few_elements element.ShortClothoid n = omega arith

-- the others at no place behind the last item
pub few_tangents : (x : TangentRule) (n : ℕ) → (tangent_test x).places n ≤ n
few_tangents tangent.SteepTangent n = omega arith
few_tangents tangent.ShortTangent n = omega arith
few_tangents tangent.SharpVertex n = omega arith

pub few_points : (x : PointRule) (n : ℕ) → (point_test x).places n ≤ n
few_points point.MisplacedPoint n = omega arith
few_points point.WrongCrossfall n = omega arith
few_points point.SteepRamp n = omega arith
