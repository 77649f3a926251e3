-- The parts of the file, each with what follows it: head, plan, start and profile, crossfall points. Assumes nothing.
use Rattle.laws_of_acceptance.specs.Ranged.{field-within}
use Rattle.std.proofs.Common.{sym}
use Rattle.std.specs.Prelude.{◌≡◌, ◌≤◌, refl, List, [], ℕ, ℤ, pos, negsuc, Ok}
use Rattle.file_numbers.specs.Reading.{Got, got, refused, and_then, Reading, ◌>>=◌, give, many}
use Rattle.reader.specs.Standing.{Standing}
use Rattle.road.specs.File.{Road, Profile, field, signed, between, element, tangent, point, head_fields, plan_fields, profile_fields, crossfall_fields, road_of, fields}
use Rattle.road.specs.declared.Head.{Head}
use Rattle.road.specs.declared.Element.{Element}
use Rattle.road.specs.declared.Tangent.{Tangent}
use Rattle.road.specs.declared.Crossfall.{Crossfall}
use Rattle.fields.specs.Reads.{Reads}
use Rattle.fields.specs.Onward.{regrouped}
use Rattle.alignment.proofs.Onward.{Left, all, told, onward}
use Rattle.alignment.proofs.Lists.{more, list_ends}

-- what follows the profile, and the plan
abbrev pub after_profile : Head → List Element → Profile → Reading Road
after_profile head es p = ◌>>=◌ crossfall_fields λ cs. give (road_of head es p cs)

abbrev pub after_plan : Head → List Element → Reading Road
after_plan head es = ◌>>=◌ profile_fields (after_profile head es)

abbrev pub with_tangents : Head → List Element → ℤ → List Tangent → Reading Road
with_tangents head es start ts = after_profile head es (record { start = start; tangents = ts })

abbrev pub with_crossfalls : Head → List Element → ℤ → List Tangent → List Crossfall → Reading Road
with_crossfalls head es start ts cs = give (record { head = head; plan = es; start = start; tangents = ts; crossfalls = cs })

-- after the head: the count of the plan, and its elements
abbrev pub plan_counted : Head → ℕ → Reading Road
plan_counted head count = more (λ _. element) (after_plan head) count []

pub plan_left : {first now : Standing} {head : Head} → Reads head_fields first now (Ok head) → Left fields first (◌>>=◌ (field 1 200) (plan_counted head)) now
unfolding fields plan_fields
plan_left {first} {now} {head} r =
    told (onward (λ h. ◌>>=◌ plan_fields λ es. after_plan h es) all r) (regrouped (field 1 200) (many (λ _. element)) (after_plan head) now.bytes now.place)

-- after the plan: the start height, the count of the profile, and its tangents
abbrev pub profile_counted : Head → List Element → ℤ → ℕ → Reading Road
profile_counted head es start count = more tangent (with_tangents head es start) count []

abbrev pub start_counted : Head → List Element → ℤ → Reading Road
start_counted head es start = ◌>>=◌ (field 1 100) (profile_counted head es start)

pub profile_left : {first now : Standing} (head : Head) (es : List Element) {left : ℕ} → left ≡ 0 → Left fields first (more (λ _. element) (after_plan head) left es) now → Left fields first (◌>>=◌ (signed (between (negsuc 499_999) (pos 3_000_000))) (start_counted head es)) now
unfolding profile_fields
profile_left {first} {now} head es none l = told (list_ends (λ _. element) (after_plan head) es none l) (start_of (signed (between (negsuc 499_999) (pos 3_000_000)) now.bytes now.place))
  where
    s : List ℕ
    s = now.bytes

    list_of : (start : ℤ) (g : Got (List Tangent)) → and_then (and_then g λ ts n. got (record { start = start; tangents = ts }) n) (λ p n. after_profile head es p s n) ≡ and_then g λ ts n. with_tangents head es start ts s n
    list_of start (got ts n) = refl
    list_of start (refused k p) = refl

    count_of : (start : ℤ) (g : Got ℕ) → and_then (and_then g λ count n. and_then (many tangent count s n) λ ts l. got (record { start = start; tangents = ts }) l) (λ p n. after_profile head es p s n) ≡ and_then g λ count n. profile_counted head es start count s n
    count_of start (got count n) = list_of start (many tangent count s n)
    count_of start (refused k p) = refl

    start_of : (g : Got ℤ) → and_then (and_then g λ start n. and_then (field 1 100 s n) λ count l. and_then (many tangent count s l) λ ts i. got (record { start = start; tangents = ts }) i) (λ p n. after_profile head es p s n) ≡ and_then g λ start n. start_counted head es start s n
    start_of (got start n) = count_of start (field 1 100 s n)
    start_of (refused k p) = refl

-- after the profile: the count of the crossfall points, and the points
abbrev pub crossfalls_counted : Head → List Element → ℤ → List Tangent → ℕ → Reading Road
crossfalls_counted head es start ts count = more (λ _. point) (with_crossfalls head es start ts) count []

pub crossfalls_left : {first now : Standing} (head : Head) (es : List Element) (start : ℤ) (ts : List Tangent) {left : ℕ} → left ≡ 0 → Left fields first (more tangent (with_tangents head es start) left ts) now → Left fields first (◌>>=◌ (field 2 200) (crossfalls_counted head es start ts)) now
unfolding crossfall_fields
crossfalls_left {first} {now} head es start ts none l = told (list_ends tangent (with_tangents head es start) ts none l) (regrouped (field 2 200) (many (λ _. point)) (with_crossfalls head es start ts) now.bytes now.place)

-- a count that was read is in its range
pub few : (low high : ℕ) {before after : Standing} {count : ℕ} → Reads (field low high) before after (Ok count) → count ≤ high
few low high {before} r = (field-within low high before.bytes before.place (sym r.read)).high
