-- A listed station lies on the road, and the step is above 0.
use Rattle.std.proofs.Common.{rules}
use Rattle.walk.specs.Inside.{listed-inside}
use Rattle.walk.proofs.Walk.at.Goals as goal

pub view_at-requires-clause-on_road : goal.view_at-requires-clause-on_road
view_at-requires-clause-on_road c = listed-inside c.step-step.ensures.guaranteed c.requires.is_listed

pub overflow_mul-result : goal.overflow_mul-result
overflow_mul-result c =
    let G = c.step-step.ensures.guaranteed in
    let h = listed-inside G c.requires.is_listed in
    let low = G.step.low in
    let high = G.step.high in
    let whole = G.whole.high in
    let step = c.step-step.ensures.step in
    search rules
