-- The arc before is kept from turn to turn, the one after stands two elements on.
use Rattle.std.specs.Prelude.{◌≡◌, length}
use Rattle.road.specs.Rules.{arc_before, road_test}
use Rattle.road.specs.declared.Rule.TheVariants as rule
use Rattle.rules.specs.Search.{Passed}
use Rattle.rules.proofs.Judging.first_straight.Given as goal

abbrev pub invariant-loop-i : goal.invariant-loop-i
invariant-loop-i l =
    (l.before.radius ≡ arc_before l.self.alignment.now l.i) × Passed ((road_test rule.ShortStraight).broken l.self.limits.now l.self.alignment.now) (length l.self.alignment.now.plan) l.i
