-- Request A.3, refusal 7: the test by neighbours accepts exactly the allowed orders of kinds, and its place is the first where no allowed order goes on as the plan does.
use Rattle.std.specs.Prelude.{◌≡◌, ◌↔◌, Bool, not, List, [], ◌∷◌, ◌++◌, map, take, drop, ltb, pos, if◌then◌else◌, Option, None, Some}
use Rattle.std.proofs.Math.Path.{refl}
use Rattle.std.proofs.Common.{sym, ap, ◌∙◌, subst, append_assoc, lt-ltb, le-ltb, take-append-drop, drop_of_length-le, drop-cons, take-take}
use Rattle.std.proofs.Math.Bool.{true, false}
use Prim.Native.Nat.{ℕ, zero, suc, ◌+◌, ◌≤◌, ◌<◌}
use Rattle.std.proofs.Math.Numerals.{add-one}
use native.Mathlib.Omega.{arith}
use Rattle.std.proofs.Math.Decide.{dec_lt}
use Rattle.std.proofs.Math.ListN.{length}
use Rattle.laws_of_lists.specs.All.{All, none, more, all_append}
use Rattle.road.specs.Base.{first_from, first_that}
use Rattle.road.specs.File.{Road, straight_kind, arc_kind, clothoid_kind}
use Rattle.road.specs.declared.Limits.{Limits}
use Rattle.road.specs.Exact.{blank_element, element_of}
use Rattle.road.specs.Kinds.{BehindArc, last, reversing, egg, AllowedOrder, straight, bend}
use Rattle.road.specs.Rules.{may_follow, may_stand, wrong_kind, element_earlier, element_before, road_test, first_broken}
use Rattle.laws_of_acceptance.specs.Judging.{Keeps, none_keeps, keeps_none}
use Rattle.road.specs.declared.Kind.{Kind}
use Rattle.road.specs.declared.Kind.TheVariants.{Straight, Arc, Clothoid, Other}
use Rattle.road.specs.declared.Element.{Element}
use Rattle.road.specs.declared.Rule.TheVariants as rule
use Rattle.road.specs.declared.ElementRule.TheVariants as element

abbrev pub kinds_of : Road → List Kind
kinds_of r = map (λ (e : Element). e.kind) r.plan

-- some allowed order, however long, begins with these kinds
abbrev pub Continues : (Allowed : List Kind → Type 0) → List Kind → Type 0
Continues Allowed ks = (rest : List Kind) × Allowed (ks ++ rest)

-- "the first element whose kind no allowed order, however long, can have after the kinds before it, or the plan count where it stops short"
pub record FirstWrong (Allowed : List Kind → Type 0) (ks : List Kind) (place : ℕ) : Type 0 where
  pub within : place ≤ length ks
  pub before : Continues Allowed (take place ks)
  pub is_wrong_kind : place < length ks → Continues Allowed (take (suc place) ks) → ⊥
  pub stops_short : place ≡ length ks → Allowed ks → ⊥

-- ---- an allowed order, and what it goes on with, has no kind but those that a file names

abbrev pub NamedKind : Kind → Type 0
NamedKind k = k ≡ Other → ⊥

behind-named : {ks : List Kind} → BehindArc ks → All NamedKind ks
behind-named last = more (λ e. cc) none
behind-named (reversing x) = more (λ e. cc) (more (λ e. cc) (more (λ e. cc) (behind-named x)))
behind-named (egg x) = more (λ e. cc) (more (λ e. cc) (behind-named x))

pub allowed-named : {ks : List Kind} → AllowedOrder ks → All NamedKind ks
allowed-named straight = more (λ e. cc) none
allowed-named (bend x later) = more (λ e. cc) (more (λ e. cc) (more (λ e. cc) (all_append (behind-named x) (allowed-named later))))

rest_named : (ks : List Kind) {rest : List Kind} → All NamedKind (ks ++ rest) → All NamedKind rest
rest_named [] a = a
rest_named (k ∷ ks) (more p a) = rest_named ks a

pub continues-named : (ks : List Kind) (c : Continues AllowedOrder ks) → All NamedKind c.0
continues-named ks c = rest_named ks (allowed-named c.1)

-- ---- there is one such place, and none in an allowed order

module _ {Allowed : List Kind → Type 0} {ks : List Kind} {p : ℕ} (f : FirstWrong Allowed ks p) where
  not_allowed : Allowed ks → ⊥
  not_allowed h = elim (dec_lt p (length ks)) [ yes l ↦ f.is_wrong_kind l (drop (suc p) ks, rw take-append-drop h) | no l ↦ f.stops_short (omega arith) h ]

  not_before : {q : ℕ} → FirstWrong Allowed ks q → p < q → ⊥
  not_before {q} g l = f.is_wrong_kind (omega arith) (drop (suc p) (take q ks) ++ g.before.0, rw (← take-take (suc p) q ks l, ← append_assoc, take-append-drop) g.before.1)

one_place : {Allowed : List Kind → Type 0} {ks : List Kind} {p q : ℕ} → FirstWrong Allowed ks p → FirstWrong Allowed ks q → p ≡ q
one_place {p} {q} f g = elim (dec_lt p q) [ yes l ↦ absurd (not_before f g l) | no l ↦ elim (dec_lt q p) [ yes m ↦ absurd (not_before g f m) | no m ↦ omega arith ] ]

-- ---- the test by neighbours, along a list of kinds

abbrev of_kind : Kind → Element
of_kind k = record { kind = k; length = 0; radius = pos 0 }

abbrev may : (place : ℕ) → (earlier before k : Kind) → Bool
may place earlier before k = may_stand place (of_kind earlier) (of_kind before) (of_kind k)

abbrev may_end : (place : ℕ) → (before : Kind) → Bool
may_end zero before = false
may_end (suc _) before = straight_kind before

-- the first place that it refuses
unfoldable stop : (place : ℕ) → (earlier before : Kind) → List Kind → Option ℕ
stop place earlier before [] = if may_end place before then None else Some place
stop place earlier before (k ∷ ks) = if may place earlier before k then stop (suc place) before k ks else Some place

-- ---- it passes each allowed order

behind-passes : {ks : List Kind} (later : List Kind) → BehindArc ks → ((i : ℕ) → stop (suc i) Arc Clothoid later ≡ None) → (i : ℕ) → stop (suc i) Clothoid Arc (ks ++ later) ≡ None
unfolding stop may_follow
behind-passes later last h i = h (suc i)
behind-passes later (reversing x) h i = behind-passes later x h (suc (suc (suc i)))
behind-passes later (egg x) h i = behind-passes later x h (suc (suc i))

allowed-passes : {ks : List Kind} → AllowedOrder ks → (i : ℕ) (a b : Kind) → may i a b Straight ≡ true → stop i a b ks ≡ None
unfolding stop may_follow
allowed-passes straight i a b h = rw h
allowed-passes (bend x later) i a b h = rw h (behind-passes _ x (λ i. allowed-passes later (suc i) Arc Clothoid refl) (suc (suc i)))

-- ---- an order that it passes is allowed

-- an arc, what may stand behind it, and an allowed order
data Turn : List Kind → Type 0 where
  turn : {ks later : List Kind} → BehindArc ks → AllowedOrder later → Turn (Arc ∷ (ks ++ later))

bent : {ks : List Kind} → Turn ks → AllowedOrder (Straight ∷ Clothoid ∷ ks)
bent (turn x later) = bend x later

linked : {ks : List Kind} → Turn ks → Turn (Arc ∷ Clothoid ∷ ks)
linked (turn x later) = turn (egg x) later

reversed : {ks : List Kind} → Turn ks → Turn (Arc ∷ Clothoid ∷ Clothoid ∷ ks)
reversed (turn x later) = turn (reversing x) later

-- what it passes behind a straight, behind a clothoid that leads into an arc, behind an arc, and behind the clothoid that follows one
mutual
  unfolding stop may_follow

  from-straight : (ks : List Kind) (i : ℕ) (a : Kind) → stop (suc i) a Straight ks ≡ None → AllowedOrder (Straight ∷ ks)
  from-straight [] i a h = straight
  from-straight (Straight ∷ ks) i a h = absurd cc
  from-straight (Arc ∷ ks) i a h = absurd cc
  from-straight (Clothoid ∷ ks) i a h = bent (from-entry ks (suc i) Straight refl h)
  from-straight (Other ∷ ks) i a h = absurd cc

  from-entry : (ks : List Kind) (i : ℕ) (a : Kind) → arc_kind a ≡ false → stop (suc i) a Clothoid ks ≡ None → Turn ks
  from-entry [] i a o h = absurd cc
  from-entry (Straight ∷ ks) i a o h = absurd (let n = rw o at h in cc)
  from-entry (Arc ∷ ks) i a o h = from-arc ks (suc i) h
  from-entry (Clothoid ∷ ks) i a o h = absurd (let n = rw o at h in cc)
  from-entry (Other ∷ ks) i a o h = absurd (let n = rw o at h in cc)

  from-arc : (ks : List Kind) (i : ℕ) → stop (suc i) Clothoid Arc ks ≡ None → Turn (Arc ∷ ks)
  from-arc [] i h = absurd cc
  from-arc (Straight ∷ ks) i h = absurd cc
  from-arc (Arc ∷ ks) i h = absurd cc
  from-arc (Clothoid ∷ ks) i h = from_exit ks (suc i) h
  from-arc (Other ∷ ks) i h = absurd cc

  from_exit : (ks : List Kind) (i : ℕ) → stop (suc i) Arc Clothoid ks ≡ None → Turn (Arc ∷ Clothoid ∷ ks)
  from_exit [] i h = absurd cc
  from_exit (Straight ∷ ks) i h = turn last (from-straight ks (suc i) Clothoid h)
  from_exit (Arc ∷ ks) i h = linked (from-arc ks (suc i) h)
  from_exit (Clothoid ∷ ks) i h = reversed (from-entry ks (suc i) Clothoid refl h)
  from_exit (Other ∷ ks) i h = absurd cc

passing_allowed : (ks : List Kind) → stop 0 Straight Straight ks ≡ None → AllowedOrder ks
unfolding stop
passing_allowed [] h = absurd cc
passing_allowed (Straight ∷ ks) h = from-straight ks 0 Straight h
passing_allowed (Arc ∷ ks) h = absurd cc
passing_allowed (Clothoid ∷ ks) h = absurd cc
passing_allowed (Other ∷ ks) h = absurd cc

-- ---- where it stops is the first wrong place

-- whatever stood before, it passes some order
finish : (i : ℕ) (a b : Kind) → Continues (λ ks. stop i a b ks ≡ None) []
unfolding stop may_follow
finish zero a b = (Straight ∷ [], refl)
finish (suc i) a b = go (clothoid_kind b) refl
  where
    go : (t : Bool) → clothoid_kind b ≡ t → Continues (λ ks. stop (suc i) a b ks ≡ None) []
    go true e = (Arc ∷ Clothoid ∷ Straight ∷ [], rw e)
    go false e = (Clothoid ∷ Arc ∷ Clothoid ∷ Straight ∷ [], rw e)

-- from place i on, p is the first wrong place
abbrev WrongFrom : (Allowed : List Kind → Type 0) → List Kind → (i p : ℕ) → Type 0
WrongFrom Allowed ks i p = (j : ℕ) × (p ≡ i + j) × FirstWrong Allowed ks j

-- it passes exactly the allowed orders
abbrev Passes : (i : ℕ) → (a b : Kind) → (Allowed : List Kind → Type 0) → Type 0
Passes i a b Allowed = (ks : List Kind) → (stop i a b ks ≡ None) ↔ Allowed ks

at_once : (ks : List Kind) (i : ℕ) (a b : Kind) {Allowed : List Kind → Type 0} → Passes i a b Allowed → {p : ℕ} → Some i ≡ Some p → (0 < length ks → Continues Allowed (take 1 ks) → ⊥) → (0 ≡ length ks → Allowed ks → ⊥) → WrongFrom Allowed ks i p
at_once ks i a b same {p} g wrong short =
    let c = finish i a b in
    (0, let e : i ≡ p = cc in omega arith, record { within = omega arith; before = (c.0, (same c.0).0 c.1); is_wrong_kind = wrong; stops_short = short })

first : (ks : List Kind) (i : ℕ) (a b : Kind) (Allowed : List Kind → Type 0) → Passes i a b Allowed → {p : ℕ} → stop i a b ks ≡ Some p → WrongFrom Allowed ks i p
unfolding stop
first [] i a b Allowed same {p} h =
    elim (may_end i b) as (λ m. (if m then None else Some i) ≡ Some p → WrongFrom Allowed [] i p) [
      | true ↦ λ g. absurd cc
      | false ↦ λ g. at_once [] i a b same g (λ l. absurd (omega arith)) (λ e x. let n = (same []).1 x in cc)
    ] h
first (k ∷ ks) i a b Allowed same {p} h =
    elim (may i a b k) as (λ m. may i a b k ≡ m → (if m then stop (suc i) b k ks else Some i) ≡ Some p → WrongFrom Allowed (k ∷ ks) i p) [
      | true ↦ λ e g.
          let f = first ks (suc i) b k (λ xs. Allowed (k ∷ xs)) (λ xs. rw e at (same (k ∷ xs))) g in
          let d = f.1 in
          let w = f.2.within in
          (suc f.0, omega arith, record { within = omega arith; before = f.2.before; is_wrong_kind = λ l. f.2.is_wrong_kind (omega arith); stops_short = λ q. f.2.stops_short (omega arith) })
      | false ↦ λ e g. at_once (k ∷ ks) i a b same g (λ l c. let n = rw e at ((same (k ∷ c.0)).1 c.1) in cc) (λ q. absurd (omega arith))
    ] refl h

stop_wrong : (ks : List Kind) {p : ℕ} → stop 0 Straight Straight ks ≡ Some p → FirstWrong AllowedOrder ks p
stop_wrong ks h =
    let f = first ks 0 Straight Straight AllowedOrder (λ xs. (passing_allowed xs, λ x. allowed-passes x 0 Straight Straight refl)) h in
    subst (λ (j : ℕ). FirstWrong AllowedOrder ks j) (let d = f.1 in omega arith) f.2

wrong_stop : (ks : List Kind) {p : ℕ} → FirstWrong AllowedOrder ks p → stop 0 Straight Straight ks ≡ Some p
wrong_stop ks {p} f =
    elim (stop 0 Straight Straight ks) as (λ o. stop 0 Straight Straight ks ≡ o → o ≡ Some p) [
      | None ↦ λ h. absurd (not_allowed f (passing_allowed ks h))
      | Some q ↦ λ h. ap {B = Option ℕ} Some (one_place (stop_wrong ks h) f)
    ] refl

-- ---- on a road

module _ (l : Limits) (r : Road) where
  abbrev broken : ℕ → Bool
  broken = (road_test (rule.Element element.Kinds)).broken l r

  abbrev may_at : ℕ → Bool
  may_at i = may i (element_earlier r i).kind (element_before r i).kind (element_of r i).kind

  abbrev may_end_at : ℕ → Bool
  may_end_at i = may_end i (element_before r i).kind

  at_place : (i : ℕ) → broken i ≡ (if ltb i (length r.plan) then not (may_at i) else not (may_end_at i))
  unfolding wrong_kind may_follow
  at_place zero = refl
  at_place (suc i) = rw (lt-ltb 0 (suc i) (omega arith))

  found : (n i : ℕ) (m : Bool) {o : Option ℕ} → broken i ≡ not m → first_from broken n (suc i) ≡ o → first_from broken (suc n) i ≡ (if m then o else Some i)
  unfolding first_from
  found n i true e f = rw (e, first_from) f
  found n i false e f = rw (e, first_from)

  stops : (d i : ℕ) → i + d ≡ length r.plan → first_from broken (suc d) i ≡ stop i (element_earlier r i).kind (element_before r i).kind (map (λ (e : Element). e.kind) (drop i r.plan))
  unfolding stop first_from
  stops zero i h = rw (drop_of_length-le r.plan (let q : length r.plan ≤ i = omega arith in q)) (found 0 i (may_end_at i) (rw (le-ltb i (length r.plan) (omega arith)) at (at_place i)) refl)
  stops (suc d) i h = rw (drop-cons r.plan i blank_element (omega arith)) (found (suc d) i (may_at i) (rw (lt-ltb i (length r.plan) (omega arith)) at (at_place i)) (stops d (suc i) (omega arith)))

  broken-stop : first_broken (rule.Element element.Kinds) l r ≡ stop 0 Straight Straight (kinds_of r)
  unfolding first_broken first_that
  broken-stop = rw add-one (stops (length r.plan) 0 (omega arith))

-- ---- the theorems

-- no place breaks the rule if and only if the kinds are in an allowed order
pub kinds_iff : (l : Limits) (r : Road) → Keeps (rule.Element element.Kinds) l r ↔ AllowedOrder (kinds_of r)
kinds_iff l r = (λ k. passing_allowed _ (sym (broken-stop l r) ∙ keeps_none l r _ k), λ a. none_keeps l r _ (broken-stop l r ∙ allowed-passes a 0 Straight Straight refl))

-- the place of refusal 7
pub first_wrong_iff : (l : Limits) (r : Road) (place : ℕ) → (first_broken (rule.Element element.Kinds) l r ≡ Some place) ↔ FirstWrong AllowedOrder (kinds_of r) place
first_wrong_iff l r place = rw broken-stop (stop_wrong (kinds_of r), wrong_stop (kinds_of r))
