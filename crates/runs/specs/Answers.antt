-- What a recorded answer says, as the plain machine answers, and which routine's it is.
use Rattle.std.specs.Prelude.{Bool, true, false}
use Rattle.road.specs.Machine as machine
use Rattle.road.specs.Machine.{of_row, of_next}
use Rattle.runs.specs.declared.Answer.{Answer}
use Rattle.runs.specs.declared.Answer.TheVariants.{Row, Next}

abbrev pub answer_of : Answer → machine.Answer
answer_of (Row r) = of_row r
answer_of (Next r) = of_next r

-- whether a call is a row call, else a next call
abbrev pub asks_row : machine.Call → Bool
asks_row (machine.row s) = true
asks_row (machine.next s) = false

-- whether an answer is a row call's, a length or a refusal, else a next call's
abbrev pub answers_row : Answer → Bool
answers_row (Row r) = true
answers_row (Next r) = false
