-- A run has one record: a recorded answer is known by its call and by what it says.
use Rattle.std.specs.Prelude.{◌≡◌, refl, List, [], ◌∷◌, map, drop, ℕ, get_or, Option, Some, None, Result, Ok, Err}
use Rattle.std.proofs.Common.{sym, ap, ap₂, ◌∙◌}
use Rattle.road.specs.Faults.{fault_number}
use Rattle.road.specs.declared.refusal.Fault.{Fault}
use Rattle.road.specs.declared.refusal.Fault.TheVariants.{LongFile, BrokenNumber, OutOfRange, BytesBehind, Broken, ShortBuffer, BeyondEnd, NoDay, BadPeg}
use Rattle.road.specs.declared.refusal.Refusal.{Refusal}
use Rattle.road.specs.declared.ElementRule.TheVariants as element
use Rattle.road.specs.declared.TangentRule.TheVariants as tangent
use Rattle.road.specs.declared.PointRule.TheVariants as point
use Rattle.road.specs.declared.Rule.TheVariants as rule
use Rattle.road.specs.Machine.{of_row, of_next}
use Rattle.runs.specs.Answers.{answer_of, answers_row}
use Rattle.runs.specs.Recorded.{Recorded, RoutinesRecorded}
use Rattle.runs.specs.declared.Call.{Call}
use Rattle.runs.specs.declared.Answer.{Answer}
use Rattle.runs.specs.declared.Answer.TheVariants as answered

-- ---- a fault is known by its number

-- the faults by their numbers, from 1 on
faults : List Fault
faults =
    LongFile
    ∷ BrokenNumber
    ∷ OutOfRange
    ∷ BytesBehind
    ∷ Broken (rule.Element element.PlanLength)
    ∷ Broken rule.OtherTotal
    ∷ Broken (rule.Element element.Kinds)
    ∷ Broken (rule.Element element.LongStraight)
    ∷ Broken rule.ShortStraight
    ∷ Broken (rule.Element element.TightArc)
    ∷ Broken (rule.Element element.ShortArc)
    ∷ Broken (rule.Element element.ShortClothoid)
    ∷ Broken (rule.Tangent tangent.SteepTangent)
    ∷ Broken (rule.Tangent tangent.ShortTangent)
    ∷ Broken (rule.Tangent tangent.SharpVertex)
    ∷ Broken (rule.Point point.MisplacedPoint)
    ∷ Broken (rule.Point point.WrongCrossfall)
    ∷ Broken (rule.Point point.SteepRamp)
    ∷ Broken rule.Superelevation
    ∷ ShortBuffer
    ∷ BeyondEnd
    ∷ NoDay
    ∷ Broken (rule.Element element.LinkedArcs)
    ∷ BadPeg
    ∷ []

abbrev fault_of : ℕ → Fault
fault_of n = get_or (LongFile ∷ faults) n LongFile

fault_back : (e : Fault) → fault_of (fault_number e) ≡ e
unfolding faults
fault_back LongFile = refl
fault_back BrokenNumber = refl
fault_back OutOfRange = refl
fault_back BytesBehind = refl
fault_back (Broken (rule.Element element.PlanLength)) = refl
fault_back (Broken rule.OtherTotal) = refl
fault_back (Broken (rule.Element element.Kinds)) = refl
fault_back (Broken (rule.Element element.LongStraight)) = refl
fault_back (Broken rule.ShortStraight) = refl
fault_back (Broken (rule.Element element.TightArc)) = refl
fault_back (Broken (rule.Element element.ShortArc)) = refl
fault_back (Broken (rule.Element element.ShortClothoid)) = refl
fault_back (Broken (rule.Tangent tangent.SteepTangent)) = refl
fault_back (Broken (rule.Tangent tangent.ShortTangent)) = refl
fault_back (Broken (rule.Tangent tangent.SharpVertex)) = refl
fault_back (Broken (rule.Point point.MisplacedPoint)) = refl
fault_back (Broken (rule.Point point.WrongCrossfall)) = refl
fault_back (Broken (rule.Point point.SteepRamp)) = refl
fault_back (Broken rule.Superelevation) = refl
fault_back ShortBuffer = refl
fault_back BeyondEnd = refl
fault_back NoDay = refl
fault_back (Broken (rule.Element element.LinkedArcs)) = refl
fault_back BadPeg = refl

pub one_fault : (e e' : Fault) → fault_number e ≡ fault_number e' → e ≡ e'
one_fault e e' same = sym (fault_back e) ∙ ap fault_of same ∙ fault_back e'

one_refusal : (e e' : Refusal) → fault_number e.fault ≡ fault_number e'.fault → e.place ≡ e'.place → e ≡ e'
one_refusal e e' n p = ap₂ (λ (x : Fault) (i : ℕ). record { fault = x; place = i }) (one_fault e.fault e'.fault n) p

-- ---- an answer by its routine and by what it says

row_one : (r r' : Result ℕ Refusal) → of_row r ≡ of_row r' → r ≡ r'
row_one (Err e) (Err e') same = let n : fault_number e.fault ≡ fault_number e'.fault = cc in let p : e.place ≡ e'.place = cc in ap Err (one_refusal e e' n p)
row_one (Err e) (Ok n) same = cc
row_one (Ok n) (Err e) same = cc
row_one (Ok n) (Ok m) same = cc

next_one : (r r' : Result (Option ℕ) Refusal) → of_next r ≡ of_next r' → r ≡ r'
next_one (Err e) (Err e') same = let n : fault_number e.fault ≡ fault_number e'.fault = cc in let p : e.place ≡ e'.place = cc in ap Err (one_refusal e e' n p)
next_one (Err e) (Ok (Some s)) same = cc
next_one (Err e) (Ok None) same = cc
next_one (Ok (Some s)) (Err e) same = cc
next_one (Ok (Some s)) (Ok (Some t)) same = cc
next_one (Ok (Some s)) (Ok None) same = cc
next_one (Ok None) (Err e) same = cc
next_one (Ok None) (Ok (Some s)) same = cc
next_one (Ok None) (Ok None) same = refl

pub one_answer : (x y : Answer) → answers_row x ≡ answers_row y → answer_of x ≡ answer_of y → x ≡ y
one_answer (answered.Row r) (answered.Row r') own said = ap answered.Row (row_one r r' said)
one_answer (answered.Row r) (answered.Next r') own said = cc
one_answer (answered.Next r) (answered.Row r') own said = cc
one_answer (answered.Next r) (answered.Next r') own said = ap answered.Next (next_one r r' said)

same_answers : (xs ys : List Answer) → map answers_row xs ≡ map answers_row ys → map answer_of xs ≡ map answer_of ys → xs ≡ ys
same_answers [] [] own said = refl
same_answers [] (y ∷ ys) own said = cc
same_answers (x ∷ xs) [] own said = cc
same_answers (x ∷ xs) (y ∷ ys) own said =
    let first_own : answers_row x ≡ answers_row y = cc in
    let first_said : answer_of x ≡ answer_of y = cc in
    ap₂ (λ z zs. z ∷ zs) (one_answer x y first_own first_said) (same_answers xs ys (ap (drop 1) own) (ap (drop 1) said))

-- ---- what was recorded of the same calls on the same file and first buffer is the same: the last buffer, each answer, and the frames
pub one_record : {f b : List ℕ} {calls : List Call} {b' b″ : List ℕ} {xs ys : List Answer} {fs gs : List ℕ}
    → Recorded f b calls b' xs fs → RoutinesRecorded calls xs → Recorded f b calls b″ ys gs → RoutinesRecorded calls ys
    → (b' ≡ b″) × (xs ≡ ys) × (fs ≡ gs)
one_record {xs = xs} {ys = ys} r own q own' =
    (r.buffer ∙ sym q.buffer, same_answers xs ys (own ∙ sym own') (r.answers ∙ sym q.answers), r.frames ∙ sym q.frames)
