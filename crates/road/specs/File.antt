-- Document 01, "The file", with request A.1: the fields in order, with their ranges.
use Rattle.std.specs.Prelude.{ℕ, zero, suc, List, Bool, true, false, ◌&&◌, length, leb, ltb, eqb, ℤ, pos, negsuc, nat_abs, if◌then◌else◌}
use Rattle.std.specs.Int.Signed.{le_z}
use Rattle.file_numbers.specs.Reading.{Got, got, refused, and_then, Reading, ◌>>=◌, give, many}
use Rattle.file_numbers.specs.Number.{number, signed_of}
use Rattle.days.specs.Day.{is_day}
use Rattle.road.specs.declared.Contract.{Contract}
use Rattle.road.specs.declared.Contract.TheVariants.{Undated, Dated}
use Rattle.road.specs.declared.Kind.{Kind}
use Rattle.road.specs.declared.Kind.TheVariants as kinds
use Rattle.road.specs.declared.Kind.TheVariants.{Straight, Arc, Clothoid}
use Rattle.road.specs.declared.Class.{Class}
use Rattle.road.specs.declared.Class.TheVariants as classes
use Rattle.road.specs.declared.Class.TheVariants.{LongDistance, Connecting, Collecting, Access}
use Rattle.road.specs.declared.Terrain.{Terrain}
use Rattle.road.specs.declared.Terrain.TheVariants as terrains
use Rattle.road.specs.declared.Terrain.TheVariants.{Flat, Hilly, Mountain}
use Rattle.road.specs.declared.Head.{Head}
use Rattle.road.specs.declared.Element.{Element}
use Rattle.road.specs.declared.Tangent.{Tangent}
use Rattle.road.specs.declared.Crossfall.{Crossfall}

-- what the file says
pub record Road : Type 0 where
  pub head : Head
  pub plan : List Element
  pub start : ℤ
  pub tangents : List Tangent
  pub crossfalls : List Crossfall

-- a value that does not fit is refused at its number's first byte
unfoldable pub fitting : {A : Type 0} → (refusal : ℕ) → (A → Bool) → A → ℕ → Reading A
fitting refusal fits a at s next = if fits a then got a next else refused refusal at

-- 3. "A number is outside its range (place: its first byte)."
abbrev pub in_range : {A : Type 0} → (A → Bool) → A → ℕ → Reading A
in_range = fitting 3

-- a number from low to high
unfoldable pub field : (low high : ℕ) → Reading ℕ
field low high s at = and_then (number s at) λ v next. in_range (λ n. leb low n && leb n high) v at s next

-- what a number from low to high stands for
unfoldable pub choice : {A : Type 0} → (low high : ℕ) → (ℕ → A) → Reading A
choice low high of = do
  n ← field low high
  give (of n)

-- a signed value in a range
unfoldable pub signed : (ℤ → Bool) → Reading ℤ
signed fits s at = and_then (number s at) λ v next. in_range fits (signed_of v) at s next

abbrev pub between : ℤ → ℤ → ℤ → Bool
between low high v = le_z low v && le_z v high

abbrev pub in_size : ℕ → ℕ → ℤ → Bool
in_size low high v = leb low (nat_abs v) && leb (nat_abs v) high

-- "kind 0 straight, 1 arc, 2 clothoid"; any other number is none of them
abbrev pub kind_of : ℕ → Kind
kind_of n = if eqb n 0 then Straight else (if eqb n 1 then Arc else (if eqb n 2 then Clothoid else kinds.Other))

abbrev pub straight_kind : Kind → Bool
straight_kind Straight = true
straight_kind Arc = false
straight_kind Clothoid = false
straight_kind kinds.Other = false

abbrev pub arc_kind : Kind → Bool
arc_kind Straight = false
arc_kind Arc = true
arc_kind Clothoid = false
arc_kind kinds.Other = false

abbrev pub clothoid_kind : Kind → Bool
clothoid_kind Straight = false
clothoid_kind Arc = false
clothoid_kind Clothoid = true
clothoid_kind kinds.Other = false

-- "for an arc a signed radius, 10,000 to 10,000,000 in size"
abbrev pub radius : Bool → Reading ℤ
radius true = signed (in_size 10_000 10_000_000)
radius false = give (pos 0)

-- "each element: kind 0 straight, 1 arc, 2 clothoid; length 1 to 10,000,000; for an arc a signed radius"
unfoldable pub element : Reading Element
element = do
  kind ← choice 0 2 kind_of
  long ← field 1 10_000_000
  r ← radius (arc_kind kind)
  give (record { kind = kind; length = long; radius = r })

-- "then, except after the last, half length h of the vertical curve that follows, 0 to 1,000,000"
abbrev pub half : (follow : ℕ) → Reading ℕ
half zero = give 0
half (suc _) = field 0 1_000_000

-- "each tangent: length 1 to 10,000,000; signed grade −120,000 to 120,000; then, except after the last, half length"
unfoldable pub tangent : (follow : ℕ) → Reading Tangent
tangent follow = do
  long ← field 1 10_000_000
  grade ← signed (between (negsuc 119_999) (pos 120_000))
  h ← half follow
  give (record { length = long; grade = grade; half = h })

-- "each point: station 0 to 100,000,000; signed left and right, −80,000 to 80,000"
unfoldable pub point : Reading Crossfall
point = do
  station ← field 0 100_000_000
  left ← signed (between (negsuc 79_999) (pos 80_000))
  right ← signed (between (negsuc 79_999) (pos 80_000))
  give (record { station = station; left = left; right = right })

-- 22. "A date that is no Gregorian day from 19500101 to 20991231 is refused with 22 as it is read, before any later number, its place being the date's first byte."
unfoldable pub date : Reading ℕ
date s at = and_then (number s at) λ v next. fitting 22 is_day v at s next

-- the number at a place is n
unfoldable pub number_is : (n : ℕ) → List ℕ → ℕ → Bool
number_is n s at = elim (number s at) [ got v next ↦ eqb v n | refused k p ↦ false ]

-- the number that tells the layout, and the contract date
unfoldable pub dated_fields : Reading Contract
dated_fields = do
  layout ← number
  day ← date
  give (Dated day)

-- "A file beginning with 9 has the contract date next, .. and then the layout we have from class onward."
unfoldable pub contract_fields : Reading Contract
contract_fields s at = elim (number_is 9 s at) [ true ↦ dated_fields s at | false ↦ give Undated s at ]

-- "class 1 long-distance, 2 connecting, 3 collecting, 4 access"; any other number is none of them
abbrev pub class_of : ℕ → Class
class_of n = if eqb n 1 then LongDistance else (if eqb n 2 then Connecting else (if eqb n 3 then Collecting else (if eqb n 4 then Access else classes.Other)))

-- "terrain 1 flat, 2 hilly, 3 mountain"; any other number is none of them
abbrev pub terrain_of : ℕ → Terrain
terrain_of n = if eqb n 1 then Flat else (if eqb n 2 then Hilly else (if eqb n 3 then Mountain else terrains.Other))

-- "class 1 long-distance, 2 connecting, 3 collecting, 4 access; terrain 1 flat, 2 hilly, 3 mountain; step 1,000 to 100,000; ramp limit 1 to 20,000 ppm"
unfoldable pub head_fields : Reading Head
head_fields = do
  contract ← contract_fields
  class ← choice 1 4 class_of
  terrain ← choice 1 3 terrain_of
  step ← field 1000 100_000
  ramp ← field 1 20_000
  give (record { contract = contract; class = class; terrain = terrain; step = step; ramp = ramp })

-- "plan count 1 to 200; each element"
unfoldable pub plan_fields : Reading (List Element)
plan_fields = do
  count ← field 1 200
  many (λ _. element) count

-- "signed start height −500,000 to 3,000,000; tangent count 1 to 100; each tangent"
pub record Profile : Type 0 where
  pub start : ℤ
  pub tangents : List Tangent

unfoldable pub profile_fields : Reading Profile
profile_fields = do
  start ← signed (between (negsuc 499_999) (pos 3_000_000))
  count ← field 1 100
  tangents ← many tangent count
  give (record { start = start; tangents = tangents })

-- "crossfall count 2 to 200; each point"
unfoldable pub crossfall_fields : Reading (List Crossfall)
crossfall_fields = do
  count ← field 2 200
  many (λ _. point) count

abbrev pub road_of : Head → List Element → Profile → List Crossfall → Road
road_of h es p cs = record { head = h; plan = es; start = p.start; tangents = p.tangents; crossfalls = cs }

-- "Fields in order, with ranges"
unfoldable pub fields : Reading Road
fields = do
  head ← head_fields
  plan ← plan_fields
  profile ← profile_fields
  crossfalls ← crossfall_fields
  give (road_of head plan profile crossfalls)

-- 4. "Bytes follow the last number (place: the first of them)."
unfoldable pub ended : Road → Reading Road
ended r s at = if ltb at (length s) then refused 4 at else got r at

-- 1. "The file has more than 8,192 bytes (place 8192)"; "1 is tried before any number is read, 2 and 3 come at the first faulty number, 2 before 3, and 4 after the last number"; 22 comes at the date
unfoldable pub read : List ℕ → Got Road
read s = if ltb 8192 (length s) then refused 1 8192 else and_then (fields s 0) λ r at. ended r s at
