use Rattle.std.proofs.Common.{ap, arith, length}
use Rattle.road.specs.File.{Road}
use Rattle.road.specs.Held.{front-long}
use Rattle.road.proofs.Pushed.{one_more}
use Rattle.road.proofs.alignment.Alignment.push_element.Goals as goal

pub invariant_of-self : goal.invariant_of-self
invariant_of-self c =
    let f = c.self.invariant in
    let told = ap (λ (r : Road). length r.plan) c.self.view_is in
    record { plan = one_more c.args.e (omega (arith, front-long f.plan, told, c.requires)) f.plan; profile = f.profile; points = f.points }
