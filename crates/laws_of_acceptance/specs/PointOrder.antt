-- Rule 16: point 0 is at 0, each is beyond its forerunner, the last is at T.
use Rattle.std.specs.Prelude.{◌≡◌, not, suc, ◌<◌, length, leb, eqb}
use Rattle.std.proofs.Common.{ap, arith, eqb-true, eq-eqb, leb-false}
use Rattle.std.proofs.Math.Decide.{dec_lt}
use Rattle.std.proofs.lemmas.Bool.{not-false, or_parts}
use Rattle.std.proofs.Math.ListN.{get_or-eq_default}
use Rattle.road.specs.File.{Road}
use Rattle.road.specs.declared.Limits.{Limits}
use Rattle.road.specs.Exact.{blank_crossfall, point_of, total}
use Rattle.road.specs.Rules.{point_before, misplaced, not_beyond}
use Rattle.laws_of_acceptance.specs.Judging.{Keeps}
use Rattle.laws_of_acceptance.specs.PointsInOrder.{PointOrder}
use Rattle.laws_of_lists.specs.Tests.{and_no_then}
use Rattle.road.specs.declared.Crossfall.{Crossfall}
use Rattle.road.specs.declared.Rule.TheVariants as rule
use Rattle.road.specs.declared.PointRule.TheVariants as point

pub point-order : (l : Limits) (r : Road) → Keeps (rule.Point point.MisplacedPoint) l r → PointOrder r
unfolding misplaced
point-order l r kept = record {
  first = at_0 (dec_lt 0 (length r.crossfalls));
  ascend = λ i h. leb-false (point_of r (suc i)).station (point_of r i).station (or_parts (leb (point_of r (suc i)).station (point_of r i).station) _ (kept (suc i) h)).0;
  last = λ i e. eqb-true (point_of r i).station (total r) (not-false (eqb (point_of r i).station (total r)) (and_no_then (eqb (suc i) (length r.crossfalls)) _ (or_parts (not_beyond i (point_before r i) (point_of r i)) _ (kept i (omega arith))).1 (eq-eqb (suc i) (length r.crossfalls) e)));
}
  where
    at_0 : Dec (0 < length r.crossfalls) → (point_of r 0).station ≡ 0
    at_0 (yes h) = eqb-true (point_of r 0).station 0 (not-false (eqb (point_of r 0).station 0) (or_parts (not (eqb (point_of r 0).station 0)) _ (kept 0 h)).0)
    at_0 (no n) = ap (λ (p : Crossfall). p.station) (get_or-eq_default r.crossfalls blank_crossfall (omega arith))
