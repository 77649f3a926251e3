-- A plan that breaks none of its rules.
use Rattle.road.specs.File.{Road}
use Rattle.road.specs.declared.ElementRule.{ElementRule}
use Rattle.road.specs.declared.Limits.{Limits}
use Rattle.road.specs.declared.Rule.TheVariants as rule
use Rattle.laws_of_acceptance.specs.Judging.{Keeps}

-- no element breaks a rule of the plan
abbrev pub PlanKept : Limits → Road → Type 0
PlanKept l r = (x : ElementRule) → Keeps (rule.Element x) l r
