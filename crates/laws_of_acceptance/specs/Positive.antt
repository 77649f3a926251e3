-- What holds of an accepted road: its numbers are in range, no rule is broken, the facts that follow from that, and the crossfall's denominator is above 0.
use Rattle.std.specs.Prelude.{◌≡◌, refl, ℕ, ◌<◌, List}
use Rattle.std.proofs.Common.{subst, arith, eqb-true, ltb-false}
use Rattle.std.proofs.lemmas.Bool.{not-false}
use Rattle.file_numbers.specs.Reading.{Got, got, refused, and_then}
use Rattle.road.specs.File.{Road, read}
use Rattle.road.specs.Limits.{limits}
use Rattle.road.specs.Exact.{Side, point_at, crossfall_by, crossfall}
use Rattle.road.specs.Rules.{other_total, Verdict, passes, breaks, order, judged, accepted, under}
use Rattle.laws_of_acceptance.specs.Facts.{Facts}
use Rattle.laws_of_acceptance.specs.Judging.{Keeps, kept_by_name, passes_kept}
use Rattle.laws_of_acceptance.specs.PlanOrder.{PlanOrder, plan-order}
use Rattle.laws_of_acceptance.specs.PointsInOrder.{PointOrder, pair-at}
use Rattle.laws_of_acceptance.specs.PointOrder.{point-order}
use Rattle.road.specs.declared.Rule.{Rule}
use Rattle.road.specs.declared.Rule.TheVariants as rule
use Rattle.road.specs.declared.ElementRule.TheVariants as element
use Rattle.road.specs.declared.TangentRule.TheVariants as tangent
use Rattle.road.specs.declared.PointRule.TheVariants as point
use Rattle.laws_of_acceptance.specs.Ranged.{RoadRange, read_range}
use Rattle.file_numbers.specs.Refused.{refused_not_got}

pub record Accepted (r : Road) : Type 0 where
  pub ranges : RoadRange r
  pub kept : (rule : Rule) → Keeps rule (limits r) r

pub accepted-road : (s : List ℕ) (r : Road) (end : ℕ) → accepted s ≡ got r end → Accepted r
unfolding accepted judged
accepted-road s r end e = read_of (read s) refl e
  where
    judge_of : (x : Road) (n : ℕ) → read s ≡ got x n → (v : Verdict) → judged (limits x) x ≡ v → under v x n ≡ got r end → Accepted r
    judge_of x n h passes p q = let f : x ≡ r = cc in subst Accepted f (record { ranges = read_range s x n h; kept = kept_by_name (limits x) x (passes_kept (limits x) x order p) })
    judge_of x n h (breaks k i) p q = absurd (refused_not_got q)

    read_of : (g : Got Road) → read s ≡ g → and_then g (λ x n. under (judged (limits x) x) x n) ≡ got r end → Accepted r
    read_of (got x n) h q = judge_of x n h (judged (limits x) x) refl q
    read_of (refused k p) h q = absurd (refused_not_got q)

-- rule 16
pub points_ordered : {r : Road} → Accepted r → PointOrder r
points_ordered {r} a = point-order (limits r) r (a.kept (rule.Point point.MisplacedPoint))

-- rule 7
pub plan_ordered : {r : Road} → Accepted r → PlanOrder r
plan_ordered {r} a = plan-order (limits r) r (a.kept (rule.Element element.Kinds))

pub crossfall-positive : {r : Road} → Accepted r → (d : Side) (s : ℕ) → 0 < (crossfall d r s).den
unfolding crossfall crossfall_by
crossfall-positive {r} a d s =
    let two = a.ranges.points.count.low in
    let h = (pair-at (points_ordered a) s (omega arith)).below in
    let l = (points_ordered a).ascend (point_at r s) (omega arith) in
    omega arith

-- rules 6, 14 and 16
pub facts : {r : Road} → Accepted r → Facts r
unfolding other_total
facts a =
    let one = a.ranges.profile.tangents.count.low in
    let P = points_ordered a in
    record {
      tangents = omega arith;
      points = a.ranges.points.count.low;
      whole = eqb-true _ _ (not-false _ (a.kept rule.OtherTotal 0 (omega arith)));
      room = λ i h. ltb-false _ _ (a.kept (rule.Tangent tangent.ShortTangent) i h);
      first = P.first;
      ascend = P.ascend;
      last = P.last;
    }
