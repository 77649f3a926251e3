-- The plain machine's calls, as lent calls stand for them, and its run on them.
use Rattle.std.specs.Prelude.{◌≡◌, refl, List, [], ◌∷◌, map, ℕ}
use Rattle.std.proofs.Common.{ap₂}
use Rattle.road.specs.Machine as machine
use Rattle.road.specs.Machine.{After, trace}
use Rattle.runs.specs.declared.Call.{Call}
use Rattle.runs.specs.declared.Call.TheVariants.{Row, Next}

-- the machine's call
abbrev pub call_of : Call → machine.Call
call_of (Row s) = machine.row s
call_of (Next s) = machine.next s

abbrev pub calls_of : List Call → List machine.Call
calls_of = map call_of

-- any calls of the machine, as they are lent
abbrev pub lent : machine.Call → Call
lent (machine.row s) = Row s
lent (machine.next s) = Next s

pub calls_back : (calls : List machine.Call) → calls_of (map lent calls) ≡ calls
calls_back [] = refl
calls_back (machine.row s ∷ calls) = ap₂ (λ c cs. c ∷ cs) refl (calls_back calls)
calls_back (machine.next s ∷ calls) = ap₂ (λ c cs. c ∷ cs) refl (calls_back calls)

-- the plain machine's run on those calls
unfoldable pub run_of : (file buffer : List ℕ) → List Call → List After
run_of f b cs = trace f b (calls_of cs)
