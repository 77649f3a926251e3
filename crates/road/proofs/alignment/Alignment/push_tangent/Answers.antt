use Rattle.std.proofs.Common.{ap, arith, length}
use Rattle.road.specs.File.{Road}
use Rattle.road.specs.Held.{front-long}
use Rattle.road.proofs.Pushed.{one_more}
use Rattle.road.proofs.alignment.Alignment.push_tangent.Goals as goal

pub invariant_of-self : goal.invariant_of-self
invariant_of-self c =
    let f = c.self.invariant in
    let told = ap (λ (r : Road). length r.tangents) c.self.view_is in
    record { plan = f.plan; profile = one_more c.args.t (omega (arith, front-long f.profile, told, c.requires)) f.profile; points = f.points }
