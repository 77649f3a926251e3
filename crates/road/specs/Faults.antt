-- Document 01 and document 02: the number of each refusal.
use Rattle.std.specs.Prelude.{ℕ, ◌&&◌, leb, if◌then◌else◌, Result, Ok, Err}
use Rattle.file_numbers.specs.Reading.{Got, got, refused}
use Rattle.road.specs.Rules.{element_test, tangent_test, point_test, road_test}
use Rattle.road.specs.declared.ElementRule.{ElementRule}
use Rattle.road.specs.declared.TangentRule.{TangentRule}
use Rattle.road.specs.declared.PointRule.{PointRule}
use Rattle.road.specs.declared.Rule.{Rule}
use Rattle.road.specs.declared.refusal.Fault.{Fault}
use Rattle.road.specs.declared.refusal.Fault.TheVariants.{LongFile, BrokenNumber, OutOfRange, BytesBehind, Broken, ShortBuffer, BeyondEnd, NoDay, BadPeg}
use Rattle.road.specs.declared.refusal.Refusal.{Refusal}

-- 5 to 19 and 23, by the tables of the rules
abbrev pub element_number : ElementRule → ℕ
element_number rule = (element_test rule).number

abbrev pub tangent_number : TangentRule → ℕ
tangent_number rule = (tangent_test rule).number

abbrev pub point_number : PointRule → ℕ
point_number rule = (point_test rule).number

abbrev pub rule_number : Rule → ℕ
rule_number rule = (road_test rule).number

-- "Numbers that turn a file away", those of the routines, and 22 to 24
abbrev pub fault_number : Fault → ℕ
fault_number LongFile = 1
fault_number BrokenNumber = 2
fault_number OutOfRange = 3
fault_number BytesBehind = 4
fault_number (Broken rule) = rule_number rule
fault_number ShortBuffer = 20
fault_number BeyondEnd = 21
fault_number NoDay = 22
fault_number BadPeg = 24

-- what a number from low to high stands for; any other is outside its range
abbrev pub named : {A : Type 0} → (low high : ℕ) → (ℕ → A) → ℕ → Result A Fault
named low high of n = if leb low n && leb n high then Ok (of n) else Err OutOfRange

-- a result of the code and the place where reading ended: a value, or "the number and a place"
abbrev pub as_got : {A : Type 0} → Result A Refusal → (end : ℕ) → Got A
as_got (Ok value) end = got value end
as_got (Err e) end = refused (fault_number e.fault) e.place

-- "The answer is the number and a place": what a result of the code says of a file
pub data Said (A : Type 0) : Type 0 where
  value : A → Said A
  refusal : (number place : ℕ) → Said A

abbrev pub of_result : {A : Type 0} → Result A Refusal → Said A
of_result (Ok a) = value a
of_result (Err e) = refusal (fault_number e.fault) e.place

-- what was read, wherever reading ended
abbrev pub of_got : {A : Type 0} → Got A → Said A
of_got (got a end) = value a
of_got (refused n p) = refusal n p
