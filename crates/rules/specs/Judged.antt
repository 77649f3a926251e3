-- What the answer of the code says.
use Rattle.std.specs.Prelude.{Result, Ok, Err}
use Rattle.road.specs.Faults.{fault_number}
use Rattle.road.specs.Rules.{Verdict, passes, breaks}
use Rattle.road.specs.declared.refusal.Refusal.{Refusal}

-- the refusal's number and its place, or that the road passes
abbrev pub as_verdict : Result (Unit {0}) Refusal → Verdict
as_verdict (Ok _) = passes
as_verdict (Err e) = breaks (fault_number e.fault) e.place
