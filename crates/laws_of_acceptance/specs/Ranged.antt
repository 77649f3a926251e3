-- What holds of a road that was read: every number is in its range.
use Rattle.std.specs.Prelude.{◌≡◌, refl, ℕ, zero, suc, ◌-◌, ◌≤◌, ◌≤ℤ◌, get_or, Bool, true, false, ◌&&◌, List, [], ◌∷◌, length, T, leb, ltb, ℤ, pos, negsuc, nat_abs, if◌then◌else◌}
use Rattle.std.proofs.Common.{sym, ap, ◌∙◌, subst, arith, leb→le}
use Rattle.file_numbers.specs.Reading.{Got, got, refused, and_then, Reading}
use Rattle.file_numbers.specs.Reading.{many}
use Rattle.laws_of_lists.specs.All.{All, none, more}
use Rattle.laws_of_lists.specs.Tests.{and_T}
use Rattle.std.specs.Int.Signed.{le_z}
use Rattle.road.specs.Exact.{is_arc, blank_tangent}
use Rattle.file_numbers.specs.Refused.{refused_not_got}
use Rattle.file_numbers.specs.Number.{number}
use Rattle.days.specs.Day.{is_day}
use Rattle.road.specs.File.{Road, fitting, field, choice, kind_of, arc_kind, class_of, terrain_of, date, number_is, dated_fields, contract_fields, signed, between, in_size, radius, element, half, tangent, point, head_fields, plan_fields, Profile, profile_fields, crossfall_fields, road_of, fields, ended, read}
use Rattle.file_numbers.specs.Number.{signed_of}
use Rattle.road.specs.declared.Kind.{Kind}
use Rattle.road.specs.declared.Kind.TheVariants as kinds
use Rattle.road.specs.declared.Class.{Class}
use Rattle.road.specs.declared.Class.TheVariants as classes
use Rattle.road.specs.declared.Terrain.{Terrain}
use Rattle.road.specs.declared.Terrain.TheVariants as terrains
use Rattle.road.specs.declared.Contract.{Contract}
use Rattle.road.specs.declared.Contract.TheVariants.{Undated, Dated}
use Rattle.road.specs.declared.Head.{Head}
use Rattle.road.specs.declared.Element.{Element}
use Rattle.road.specs.declared.Tangent.{Tangent}
use Rattle.road.specs.declared.Crossfall.{Crossfall}

-- a step that gave a value: what it went on from, as a continuation
pub on : {A B C : Type 0} (m : Got A) (f : A → ℕ → Got B) {b : B} {last : ℕ} → and_then m f ≡ got b last → ((a : A) (next : ℕ) → m ≡ got a next → f a next ≡ got b last → C) → C
on (got a next) f e k = k a next refl e
on (refused n p) f e k = absurd (refused_not_got e)

fits_read : {A : Type 0} (refusal : ℕ) (fits : A → Bool) (a : A) (at : ℕ) (s : List ℕ) (next : ℕ) {b : A} {last : ℕ} → fitting refusal fits a at s next ≡ got b last → T (fits b)
unfolding fitting
fits_read refusal fits a at s next {b} {last} e = go (fits a) refl e
  where
    go : (c : Bool) → fits a ≡ c → (if c then got a next else refused refusal at) ≡ got b last → T (fits b)
    go true p e = let q : a ≡ b = cc in subst T (sym (ap fits (sym q) ∙ p)) tt
    go false p e = absurd (refused_not_got e)

pub record Within (a b v : ℕ) : Type 0 where
  pub low : a ≤ v
  pub high : v ≤ b

pub field-within : (low high : ℕ) (s : List ℕ) (at : ℕ) {v next : ℕ} → field low high s at ≡ got v next → Within low high v
unfolding field
field-within low high s at {v} e =
    on (number s at) _ e λ n next _ h.
    let t = and_T (leb low v) (leb v high) (fits_read 3 (λ (n : ℕ). leb low n && leb n high) n at s next h) in
    record { low = leb→le low v t.0; high = leb→le v high t.1 }

pub signed-fits : (fits : ℤ → Bool) (s : List ℕ) (at : ℕ) {v : ℤ} {next : ℕ} → signed fits s at ≡ got v next → T (fits v)
unfolding signed
signed-fits fits s at e = on (number s at) _ e λ n next _ h. fits_read 3 fits (signed_of n) at s next h

-- what a number in its range stands for
of_choice : {A : Type 0} (P : A → Type 0) (low high : ℕ) (of : ℕ → A) → ((n : ℕ) → Within low high n → P (of n)) → (s : List ℕ) (at : ℕ) {a : A} {next : ℕ} → choice low high of s at ≡ got a next → P a
unfolding choice
of_choice P low high of law s at {a} e =
    on (field low high s at) _ e λ n next f h.
    let same : of n ≡ a = cc in
    subst P same (law n (field-within low high s at f))

-- "kind 0 straight, 1 arc, 2 clothoid"
kind_named : (n : ℕ) → Within 0 2 n → kind_of n ≡ kinds.Other → ⊥
kind_named zero w e = cc
kind_named (suc zero) w e = cc
kind_named (suc (suc zero)) w e = cc
kind_named (suc (suc (suc n))) w e = omega (arith, w.high)

-- "class 1 long-distance, 2 connecting, 3 collecting, 4 access"
class_named : (n : ℕ) → Within 1 4 n → class_of n ≡ classes.Other → ⊥
class_named zero w e = omega (arith, w.low)
class_named (suc zero) w e = cc
class_named (suc (suc zero)) w e = cc
class_named (suc (suc (suc zero))) w e = cc
class_named (suc (suc (suc (suc zero)))) w e = cc
class_named (suc (suc (suc (suc (suc n))))) w e = omega (arith, w.high)

-- "terrain 1 flat, 2 hilly, 3 mountain"
terrain_named : (n : ℕ) → Within 1 3 n → terrain_of n ≡ terrains.Other → ⊥
terrain_named zero w e = omega (arith, w.low)
terrain_named (suc zero) w e = cc
terrain_named (suc (suc zero)) w e = cc
terrain_named (suc (suc (suc zero))) w e = cc
terrain_named (suc (suc (suc (suc n)))) w e = omega (arith, w.high)

-- ---- the three lists

pub record Items {A : Type 0} (P : A → Type 0) (n : ℕ) (l : List A) : Type 0 where
  pub count : length l ≡ n
  pub each : All P l

pub many_items : {A : Type 0} (P : A → Type 0) (one : ℕ → Reading A) → ((k : ℕ) (s : List ℕ) (at : ℕ) (a : A) (next : ℕ) → one k s at ≡ got a next → P a)
    → (n : ℕ) (s : List ℕ) (at : ℕ) {l : List A} {next : ℕ} → many one n s at ≡ got l next → Items P n l
unfolding many
many_items P one law zero s at {l} e = let q : [] ≡ l = cc in subst (Items P zero) q (record { count = refl; each = none })
many_items P one law (suc n) s at {l} e =
    on (one n s at) _ e λ x a ea h1.
    on (many one n s a) _ h1 λ xs b eb h2.
    let ih = many_items P one law n s a eb in
    let same : x ∷ xs ≡ l = cc in
    subst (Items P (suc n)) same (record { count = ap suc ih.count; each = more (law n s at x a ea) ih.each })

-- "for an arc a signed radius, 10,000 to 10,000,000 in size"; of what is no arc it is 0
pub record RadiusRange (e : Element) : Type 0 where
  pub arc : is_arc e ≡ true → Within 10000 10000000 (nat_abs e.radius)
  pub other : is_arc e ≡ false → e.radius ≡ pos 0

arc-radius : (b : Bool) (s : List ℕ) (at : ℕ) {v : ℤ} {next : ℕ} → radius b s at ≡ got v next → b ≡ true → Within 10000 10000000 (nat_abs v)
arc-radius true s at {v} e q =
    let t = and_T (leb 10000 (nat_abs v)) (leb (nat_abs v) 10000000) (signed-fits (in_size 10000 10000000) s at e) in
    record { low = leb→le 10000 (nat_abs v) t.0; high = leb→le (nat_abs v) 10000000 t.1 }
arc-radius false s at e q = absurd cc

other-radius : (b : Bool) (s : List ℕ) (at : ℕ) {v : ℤ} {next : ℕ} → radius b s at ≡ got v next → b ≡ false → v ≡ pos 0
other-radius true s at e q = absurd cc
other-radius false s at e q = cc

pub record ElementRange (e : Element) : Type 0 where
  pub kind : e.kind ≡ kinds.Other → ⊥
  pub length : Within 1 10_000_000 e.length
  pub radius : RadiusRange e

pub element_range : (s : List ℕ) (at : ℕ) {e : Element} {next : ℕ} → element s at ≡ got e next → ElementRange e
unfolding element
element_range s at {e} h =
    on (choice 0 2 kind_of s at) _ h λ kind a ea h1.
    on (field 1 10_000_000 s a) _ h1 λ long b eb h2.
    on (radius (arc_kind kind) s b) _ h2 λ r c ec h3.
    let same : record { kind = kind; length = long; radius = r } ≡ e = cc in
    subst ElementRange same (record { kind = of_choice (λ (k : Kind). k ≡ kinds.Other → ⊥) 0 2 kind_of kind_named s at ea; length = field-within 1 10_000_000 s a eb; radius = record { arc = arc-radius (arc_kind kind) s b ec; other = other-radius (arc_kind kind) s b ec } })

-- from low to high, as the tests of the reader have it
abs_between : (n m : ℕ) (v : ℤ) → T (between (negsuc n) (pos m) v) → suc n ≤ m → nat_abs v ≤ m
abs_between n m (pos a) t h = leb→le a m t
abs_between n m (negsuc a) t h = let l = leb→le a n (and_T (leb a n) true t).0 in omega arith

pub record TangentRange (t : Tangent) : Type 0 where
  pub length : Within 1 10_000_000 t.length
  pub grade : nat_abs t.grade ≤ 120_000
  pub half : t.half ≤ 1_000_000

half_range : (k : ℕ) (s : List ℕ) (at : ℕ) {v next : ℕ} → half k s at ≡ got v next → v ≤ 1_000_000
half_range zero s at {v} e = let q : 0 ≡ v = cc in omega arith
half_range (suc k) s at e = (field-within 0 1_000_000 s at e).high

pub tangent_range : (k : ℕ) (s : List ℕ) (at : ℕ) (t : Tangent) (next : ℕ) → tangent k s at ≡ got t next → TangentRange t
unfolding tangent
tangent_range k s at t next h =
    on (field 1 10_000_000 s at) _ h λ long a ea h1.
    on (signed (between (negsuc 119_999) (pos 120_000)) s a) _ h1 λ grade b eb h2.
    on (half k s b) _ h2 λ half c ec h3.
    let same : record { length = long; grade = grade; half = half } ≡ t = cc in
    subst TangentRange same (record {
      length = field-within 1 10_000_000 s at ea;
      grade = abs_between 119_999 120_000 grade (signed-fits (between (negsuc 119_999) (pos 120_000)) s a eb) (omega arith);
      half = half_range k s b ec;
    })

-- "then, except after the last, half length h": no curve follows the last tangent
tangent-last : (s : List ℕ) (at : ℕ) {t : Tangent} {next : ℕ} → tangent 0 s at ≡ got t next → t.half ≡ 0
unfolding tangent
tangent-last s at {t} h =
    on (field 1 10_000_000 s at) _ h λ long a ea h1.
    on (signed (between (negsuc 119_999) (pos 120_000)) s a) _ h1 λ grade b eb h2.
    let same : record { length = long; grade = grade; half = 0 } ≡ t = cc in
    ap (λ (x : Tangent). x.half) (sym same)

tangents-last : (n : ℕ) (s : List ℕ) (at : ℕ) {l : List Tangent} {next : ℕ} → many tangent (suc n) s at ≡ got l next → (get_or l n blank_tangent).half ≡ 0
unfolding many
tangents-last zero s at {l} e =
    on (tangent 0 s at) _ e λ t a ea h1.
    let same : t ∷ [] ≡ l = cc in
    subst (λ (x : List Tangent). (get_or x 0 blank_tangent).half ≡ 0) same (tangent-last s at ea)
tangents-last (suc n) s at {l} e =
    on (tangent (suc n) s at) _ e λ t a ea h1.
    on (many tangent (suc n) s a) _ h1 λ ts b eb h2.
    let same : t ∷ ts ≡ l = cc in
    subst (λ (x : List Tangent). (get_or x (suc n) blank_tangent).half ≡ 0) same (tangents-last n s a eb)

pub record PointRange (p : Crossfall) : Type 0 where
  pub station : p.station ≤ 100_000_000
  pub left : nat_abs p.left ≤ 80_000
  pub right : nat_abs p.right ≤ 80_000

pub point_range : (s : List ℕ) (at : ℕ) (p : Crossfall) (next : ℕ) → point s at ≡ got p next → PointRange p
unfolding point
point_range s at p next h =
    on (field 0 100_000_000 s at) _ h λ station a ea h1.
    on (signed (between (negsuc 79_999) (pos 80_000)) s a) _ h1 λ left b eb h2.
    on (signed (between (negsuc 79_999) (pos 80_000)) s b) _ h2 λ right c ec h3.
    let same : record { station = station; left = left; right = right } ≡ p = cc in
    subst PointRange same (record {
      station = (field-within 0 100_000_000 s at ea).high;
      left = abs_between 79_999 80_000 left (signed-fits (between (negsuc 79_999) (pos 80_000)) s a eb) (omega arith);
      right = abs_between 79_999 80_000 right (signed-fits (between (negsuc 79_999) (pos 80_000)) s b ec) (omega arith);
    })

-- ---- the road

-- the date of a contract is a day
abbrev pub ContractRange : Contract → Type 0
ContractRange Undated = Unit {0}
ContractRange (Dated day) = T (is_day day)

date-read : (s : List ℕ) (at : ℕ) {v next : ℕ} → date s at ≡ got v next → T (is_day v)
unfolding date
date-read s at e = on (number s at) _ e λ n next _ h. fits_read 22 is_day n at s next h

dated_range : (s : List ℕ) (at : ℕ) {c : Contract} {next : ℕ} → dated_fields s at ≡ got c next → ContractRange c
unfolding dated_fields
dated_range s at {c} e =
    on (number s at) _ e λ layout a ea h1.
    on (date s a) _ h1 λ day b eb h2.
    let same : Dated day ≡ c = cc in
    subst ContractRange same (date-read s a eb)

contract_range : (s : List ℕ) (at : ℕ) {c : Contract} {next : ℕ} → contract_fields s at ≡ got c next → ContractRange c
unfolding contract_fields
contract_range s at {c} {next} e = go (number_is 9 s at) e
  where
    go : (b : Bool) → (elim b [ true ↦ dated_fields s at | false ↦ got Undated at ]) ≡ got c next → ContractRange c
    go true h = dated_range s at h
    go false h = let same : Undated ≡ c = cc in subst ContractRange same tt

pub record HeadRange (h : Head) : Type 0 where
  pub contract : ContractRange h.contract
  pub class : h.class ≡ classes.Other → ⊥
  pub terrain : h.terrain ≡ terrains.Other → ⊥
  pub step : Within 1000 100_000 h.step
  pub ramp : Within 1 20_000 h.ramp

pub head_range : (s : List ℕ) (at : ℕ) (h : Head) (next : ℕ) → head_fields s at ≡ got h next → HeadRange h
unfolding head_fields
head_range s at h next e =
    on (contract_fields s at) _ e λ contract z ez h0.
    on (choice 1 4 class_of s z) _ h0 λ class a ea h1.
    on (choice 1 3 terrain_of s a) _ h1 λ terrain b eb h2.
    on (field 1000 100_000 s b) _ h2 λ step c ec h3.
    on (field 1 20_000 s c) _ h3 λ ramp d ed h4.
    let same : record { contract = contract; class = class; terrain = terrain; step = step; ramp = ramp } ≡ h = cc in
    subst HeadRange same (record { contract = contract_range s at ez; class = of_choice (λ (c : Class). c ≡ classes.Other → ⊥) 1 4 class_of class_named s z ea; terrain = of_choice (λ (t : Terrain). t ≡ terrains.Other → ⊥) 1 3 terrain_of terrain_named s a eb; step = field-within 1000 100_000 s b ec; ramp = field-within 1 20_000 s c ed })

-- a count in its range, and as many items
pub record Counted {A : Type 0} (P : A → Type 0) (low high : ℕ) (l : List A) : Type 0 where
  pub count : Within low high (length l)
  pub each : All P l

counted : {A : Type 0} {P : A → Type 0} {low high n : ℕ} {l : List A} → Within low high n → Items P n l → Counted P low high l
counted {low} {high} w i = record { count = subst (Within low high) (sym i.count) w; each = i.each }

plan_range : (s : List ℕ) (at : ℕ) (l : List Element) (next : ℕ) → plan_fields s at ≡ got l next → Counted ElementRange 1 200 l
unfolding plan_fields
plan_range s at l next e =
    on (field 1 200 s at) _ e λ n a ea h.
    counted (field-within 1 200 s at ea) (many_items ElementRange (λ _. element) (λ _ s at x n w. element_range s at w) n s a h)

-- "signed start height −500,000 to 3,000,000"
pub record StartRange (start : ℤ) : Type 0 where
  pub low : negsuc 499_999 ≤ℤ start
  pub high : start ≤ℤ pos 3_000_000

pub record ProfileRange (p : Profile) : Type 0 where
  pub start : nat_abs p.start ≤ 3_000_000
  pub start-range : StartRange p.start
  pub tangents : Counted TangentRange 1 100 p.tangents
  pub last-half : (get_or p.tangents (length p.tangents - 1) blank_tangent).half ≡ 0

profile_range : (s : List ℕ) (at : ℕ) (p : Profile) (next : ℕ) → profile_fields s at ≡ got p next → ProfileRange p
unfolding profile_fields
profile_range s at p next e =
    on (signed (between (negsuc 499_999) (pos 3_000_000)) s at) _ e λ start a ea h1.
    on (field 1 100 s a) _ h1 λ n b eb h2.
    on (many tangent n s b) _ h2 λ tangents c ec h3.
    let fits = signed-fits (between (negsuc 499_999) (pos 3_000_000)) s at ea in
    let both = and_T (le_z (negsuc 499_999) start) (le_z start (pos 3_000_000)) fits in
    let count = field-within 1 100 s a eb in
    let items = many_items TangentRange tangent tangent_range n s b ec in
    let some = count.low in
    let one_more : n ≡ suc (n - 1) = omega arith in
    let last : length tangents - 1 ≡ n - 1 = omega (arith, items.count) in
    let same : record { start = start; tangents = tangents } ≡ p = cc in
    subst ProfileRange same (record {
      start = abs_between 499_999 3_000_000 start fits (omega arith);
      start-range = record { low = record { le = both.0 }; high = record { le = both.1 } };
      tangents = counted count items;
      last-half = subst (λ (k : ℕ). (get_or tangents k blank_tangent).half ≡ 0) (sym last) (tangents-last (n - 1) s b (subst (λ (k : ℕ). many tangent k s b ≡ got tangents c) one_more ec));
    })

crossfall_range : (s : List ℕ) (at : ℕ) (l : List Crossfall) (next : ℕ) → crossfall_fields s at ≡ got l next → Counted PointRange 2 200 l
unfolding crossfall_fields
crossfall_range s at l next e =
    on (field 2 200 s at) _ e λ n a ea h.
    counted (field-within 2 200 s at ea) (many_items PointRange (λ _. point) (λ _ s at x n w. point_range s at x n w) n s a h)

pub record RoadRange (r : Road) : Type 0 where
  pub head : HeadRange r.head
  pub plan : Counted ElementRange 1 200 r.plan
  pub profile : ProfileRange (record { start = r.start; tangents = r.tangents })
  pub points : Counted PointRange 2 200 r.crossfalls

pub fields_range : (s : List ℕ) (at : ℕ) (r : Road) (next : ℕ) → fields s at ≡ got r next → RoadRange r
unfolding fields
fields_range s at r next e =
    on (head_fields s at) _ e λ head a ea h1.
    on (plan_fields s a) _ h1 λ plan b eb h2.
    on (profile_fields s b) _ h2 λ profile c ec h3.
    on (crossfall_fields s c) _ h3 λ points d ed h4.
    let same : road_of head plan profile points ≡ r = cc in
    subst RoadRange same (record {
      head = head_range s at head a ea;
      plan = plan_range s a plan b eb;
      profile = profile_range s b profile c ec;
      points = crossfall_range s c points d ed;
    })

-- a file that is read has its fields, and nothing behind them
pub read-fields : (s : List ℕ) (r : Road) (next : ℕ) → read s ≡ got r next → fields s 0 ≡ got r next
unfolding read ended
read-fields s r next e = go (ltb 8192 (length s)) e
  where
    behind : (x : Road) (n : ℕ) (c : Bool) → (if c then refused 4 n else got x n) ≡ got r next → got x n ≡ got r next
    behind x n true h = absurd (refused_not_got h)
    behind x n false h = h

    go : (c : Bool) → (if c then refused 1 8192 else and_then (fields s 0) λ r at. ended r s at) ≡ got r next → fields s 0 ≡ got r next
    go true h = absurd (refused_not_got h)
    go false h = on (fields s 0) _ h λ x n first rest. first ∙ behind x n (ltb n (length s)) rest

pub read_range : (s : List ℕ) (r : Road) (next : ℕ) → read s ≡ got r next → RoadRange r
read_range s r next e = fields_range s 0 r next (read-fields s r next e)
