-- Document 01, "Numbers that turn a file away": 5 to 19, and request A.3's 23. Each rule is a test of its item with those beside it; a table for each list gives it its number, and the order places it.
use Rattle.std.specs.Prelude.{ℕ, zero, suc, ◌+◌, ◌*◌, ◌-◌, List, [], ◌∷◌, reverse, Bool, true, false, not, ◌&&◌, ◌||◌, length, take, get_or, leb, ltb, eqb, ℤ, pos, nat_abs, ◌-ℤ◌, neg_ℤ, if◌then◌else◌, Option, None, Some}
use Rattle.std.proofs.Math.ListN as L
use Rattle.std.specs.Int.Signed.{lt_z}
use Rattle.file_numbers.specs.Reading.{Got, got, refused, and_then}
use Rattle.road.specs.Base.{first_that}
use Rattle.road.specs.File.{Road, read}
use Rattle.std.specs.Option.{option_map_or}
use Rattle.road.specs.Limits.{limits}
use Rattle.road.specs.declared.Limits.{Limits}
use Rattle.road.specs.Exact.{blank_element, blank_crossfall, element_of, tangent_of, tangent_before, point_of, is_straight, is_arc, is_clothoid, element_start, tangent_start, total, point_at, Side, left, right, crossfall_of}
use Rattle.road.specs.declared.LeastClothoid.{LeastClothoid}
use Rattle.road.specs.declared.LeastClothoid.TheVariants.{Parameter, Length}
use Rattle.road.specs.declared.Element.{Element}
use Rattle.road.specs.declared.Tangent.{Tangent}
use Rattle.road.specs.declared.Crossfall.{Crossfall}
use Rattle.road.specs.declared.ElementAmong.{ElementAmong}
use Rattle.road.specs.declared.TangentAmong.{TangentAmong}
use Rattle.road.specs.declared.PointAmong.{PointAmong}
use Rattle.road.specs.declared.ElementRule.{ElementRule}
use Rattle.road.specs.declared.ElementRule.TheVariants as element
use Rattle.road.specs.declared.TangentRule.{TangentRule}
use Rattle.road.specs.declared.TangentRule.TheVariants as tangent
use Rattle.road.specs.declared.PointRule.{PointRule}
use Rattle.road.specs.declared.PointRule.TheVariants as point
use Rattle.road.specs.declared.Rule.{Rule}
use Rattle.road.specs.declared.Rule.TheVariants as rule

-- ---- turns

-- "A radius is positive for a right turn."
abbrev pub right_turn : ℤ → Bool
right_turn radius = lt_z (pos 0) radius

abbrev pub left_turn : ℤ → Bool
left_turn radius = lt_z radius (pos 0)

abbrev pub same_turn : (a b : ℤ) → Bool
same_turn a b = right_turn a && right_turn b || left_turn a && left_turn b

-- the radius of the first arc of some elements; 0 where there is none
unfoldable pub first_arc : List Element → ℤ
first_arc [] = pos 0
first_arc (e ∷ es) = if is_arc e then e.radius else first_arc es

-- "Refusal 9 looks at the nearest arc on either side of a straight."
abbrev pub arc_before : Road → ℕ → ℤ
arc_before r i = first_arc (reverse (take i r.plan))

abbrev pub arc_after : Road → ℕ → ℤ
arc_after r i = first_arc (L.drop (suc i) r.plan)

-- the radius of the arc of a clothoid that has one, which follows it or stands before it
unfoldable pub own_arc : (before after : Element) → ℤ
own_arc before after = if is_arc after then after.radius else before.radius

-- ---- the rules

-- 5. "The running plan length passes 100,000,000 (place: element)."
abbrev pub too_long : (end : ℕ) → Bool
too_long end = ltb 100_000_000 end

-- 6. "The tangents do not add up to T (place 0)."
unfoldable pub other_total : Road → Bool
other_total r = not (eqb (tangent_start r (length r.tangents)) (total r))

-- what may follow an element and the one before it: a straight and an arc lead into a clothoid, a clothoid into an arc; behind an arc it may lead on to a straight or to a second clothoid too
unfoldable pub may_follow : (earlier before e : Element) → Bool
may_follow earlier before e =
    if is_clothoid before
    then is_arc e || is_arc earlier && (is_straight e || is_clothoid e)
    else is_clothoid e

-- "beginning .. with a straight"; what follows, by the two before it
abbrev pub may_stand : (place : ℕ) → (earlier before e : Element) → Bool
may_stand zero earlier before e = is_straight e
may_stand (suc _) earlier before e = may_follow earlier before e

-- 7. "its place is the first element whose kind no allowed order, however long, can have after the kinds before it, or the plan count where it stops short"; "ending with a straight".
-- The allowed orders are `Kinds.AllowedOrder`; that they are just those that this test lets through, and that its first place is the paper's, are theorems (laws_of_acceptance/Kinds).
unfoldable pub wrong_kind : (place count : ℕ) → (earlier before e : Element) → Bool
wrong_kind place count earlier before e =
    if ltb place count
    then not (may_stand place earlier before e)
    else not (ltb 0 place && is_straight before)

-- "An egg with equal radii, opposite turns or a radius, unsigned, over 1,000,000 mm"
unfoldable pub wrong_egg : (first second : ℤ) → Bool
wrong_egg first second =
    eqb (nat_abs first) (nat_abs second) || not (same_turn first second)
    || ltb 1_000_000 (nat_abs first) || ltb 1_000_000 (nat_abs second)

-- 23. "An egg with .., or a pair of clothoids between arcs of the same turn, is refused with 23 right after 7, its place being the clothoid, the second one of a pair."
-- A clothoid that leads into an arc, from an arc, or from a clothoid and an arc before that.
unfoldable pub wrong_link : (earlier before e after : Element) → Bool
wrong_link earlier before e after =
    is_clothoid e && is_arc after && is_arc before && wrong_egg before.radius after.radius
    || is_clothoid e && is_arc after && is_clothoid before && is_arc earlier && same_turn earlier.radius after.radius

-- 8. "A straight is longer than straight max (place: element)."
abbrev pub long_straight : Limits → Element → Bool
long_straight l e = is_straight e && option_map_or (λ most. ltb most e.length) l.straight_max false

-- 9. "A straight between bends of the same turn is shorter than straight min (place: element)."
unfoldable pub short_straight : Limits → (before : ℤ) → Element → (after : ℤ) → Bool
short_straight l before e after =
    is_straight e && same_turn before after
    && option_map_or (λ least. ltb e.length least) l.straight_min false

-- 10. "An arc's radius, unsigned, is below R min (place: element)."
abbrev pub tight_arc : Limits → Element → Bool
tight_arc l e = is_arc e && ltb (nat_abs e.radius) l.radius_min

-- 11. "An arc is shorter than arc min (place: element)."
abbrev pub short_arc : Limits → Element → Bool
short_arc l e = is_arc e && ltb e.length l.arc_min

-- "For the egg, A squared is length × R1 × R2 / |R1 − R2|, unsigned, and it must reach A min squared"
unfoldable pub short_egg : (parameter length : ℕ) → (first second : ℤ) → Bool
short_egg a length first second = ltb (length * nat_abs first * nat_abs second) (a * a * nat_abs (first -ℤ second))

-- "A clothoid's length times its arc's unsigned radius is below A min squared"
unfoldable pub below_parameter : (parameter length : ℕ) → (before after : Element) → Bool
below_parameter a length before after =
    if is_arc before && is_arc after
    then short_egg a length before.radius after.radius
    else ltb (length * nat_abs (own_arc before after)) (a * a)

-- by the old handbook "A min gives way to a least clothoid length"
unfoldable pub too_short : LeastClothoid → (length : ℕ) → (before after : Element) → Bool
too_short (Parameter a) length before after = below_parameter a length before after
too_short (Length least) length before after = ltb length least

-- 12. A clothoid is too short for its arc or its arcs, or for the old handbook (place: element).
unfoldable pub short_clothoid : Limits → (before e after : Element) → Bool
short_clothoid l before e after = is_clothoid e && too_short l.clothoid e.length before after

-- 13. "A grade, unsigned, is over grade max (place: tangent)."
abbrev pub steep_tangent : Limits → Tangent → Bool
steep_tangent l t = ltb l.grade_max (nat_abs t.grade)

-- 14. "A tangent is shorter than the half lengths at its ends together (place: tangent)."
abbrev pub short_tangent : (before t : Tangent) → Bool
short_tangent before t = ltb t.length (before.half + t.half)

-- "sag R where g2 > g1, else crest R"
abbrev pub vertical_radius : Limits → ℤ → ℕ
vertical_radius l change = if lt_z (pos 0) change then l.sag_radius else l.crest_radius

-- 15. "2h × 10⁶ is below the vertical radius × |g2 − g1|, sag R where g2 > g1, else crest R (place: vertex)."
unfoldable pub sharp_vertex : Limits → (t after : Tangent) → Bool
sharp_vertex l t after = ltb (2 * t.half * 1_000_000) (vertical_radius l (after.grade -ℤ t.grade) * nat_abs (after.grade -ℤ t.grade))

-- 16. "Point 0 is not at 0, a point is not beyond its forerunner, or the last is not at T (place: point)."
abbrev pub not_beyond : (place : ℕ) → (before p : Crossfall) → Bool
not_beyond zero before p = not (eqb p.station 0)
not_beyond (suc _) before p = leb p.station before.station

unfoldable pub misplaced : (place count whole : ℕ) → (before p : Crossfall) → Bool
misplaced place count whole before p = not_beyond place before p || eqb (suc place) count && not (eqb p.station whole)

-- a test that holds of either side
abbrev pub either_side : (Side → Bool) → Bool
either_side test = test left || test right

-- 17. "A crossfall, unsigned, is below 25,000 or above 70,000 (place: point)."
unfoldable pub wrong_side : Limits → ℤ → Bool
wrong_side l crossfall = ltb (nat_abs crossfall) l.crossfall_min || ltb l.crossfall_max (nat_abs crossfall)

unfoldable pub wrong_crossfall : Limits → Crossfall → Bool
wrong_crossfall l p = either_side λ d. wrong_side l (crossfall_of d p)

-- 18. "Lane width × change of crossfall of a side, unsigned, exceeds ramp limit × distance to the next point (place: first point of the pair)."
abbrev pub steep_side : (lane ramp distance : ℕ) → (from to : ℤ) → Bool
steep_side lane ramp distance from to = ltb (ramp * distance) (lane * nat_abs (to -ℤ from))

unfoldable pub steep_ramp : (lane ramp : ℕ) → (p after : Crossfall) → Bool
steep_ramp lane ramp p after = either_side λ d. steep_side lane ramp (after.station - p.station) (crossfall_of d p) (crossfall_of d after)

abbrev pub eq_z : ℤ → ℤ → Bool
eq_z a b = eqb (nat_abs (a -ℤ b)) 0

-- a part of the road from low to high and that from a point to the next have more than one station in common
abbrev pub meets : (low high : ℕ) → (p after : Crossfall) → Bool
meets low high p after = ltb p.station high && ltb low after.station

-- from a point to the next a crossfall changes
abbrev pub changes : (p after : Crossfall) → Bool
changes p after = either_side λ d. not (eq_z (crossfall_of d p) (crossfall_of d after))

unfoldable pub changes_between : (low high : ℕ) → (p after : Crossfall) → Bool
changes_between low high p after = meets low high p after && changes p after

-- the inner side of a turn
abbrev pub inner : ℤ → Side
inner radius = if right_turn radius then right else left

-- "left = −right with the inner side negative"
abbrev pub superelevated : ℤ → Crossfall → Bool
superelevated radius p = eq_z p.left (neg_ℤ p.right) && lt_z (crossfall_of (inner radius) p) (pos 0)

-- "−25,000 on both sides with radius, unsigned, at least R'"
abbrev pub crowned : Limits → ℤ → Crossfall → Bool
crowned l radius p = eq_z p.left (neg_ℤ (pos l.crown)) && eq_z p.right (neg_ℤ (pos l.crown)) && option_map_or (λ least. leb least (nat_abs radius)) l.radius_both false

unfoldable pub allowed : Limits → ℤ → Crossfall → Bool
allowed l radius p = superelevated radius p || crowned l radius p

-- "On an arc a crossfall changes": between a point and the next, on element i
unfoldable pub changes_on : Road → ℕ → Bool
changes_on r i = elim (first_that (λ j. changes_between (element_start r i) (element_start r (suc i)) (point_of r j) (point_of r (suc j))) (length r.crossfalls - 1)) [ Some j ↦ true | None ↦ false ]

-- 19. "On an arc a crossfall changes, or it is neither left = −right with the inner side negative, nor −25,000 on both sides with radius, unsigned, at least R' (place: element)."
unfoldable pub wrong_superelevation : Limits → Road → ℕ → Bool
wrong_superelevation l r i = is_arc (element_of r i) && (changes_on r i || not (allowed l (element_of r i).radius (point_of r (point_at r (element_start r i)))))

-- ---- the tables

-- a refusal's number, how many places it looks at in a list of so many items, and whether an item breaks it
pub record ItemTest (Item : Type 0) : Type 0 where
  pub number : ℕ
  pub places : (count : ℕ) → ℕ
  pub broken : Limits → Item → Bool

-- it looks at each item
abbrev pub each : {Item : Type 0} → ℕ → (Limits → Item → Bool) → ItemTest Item
each n test = record { number = n; places = λ count. count; broken = test }

-- it looks at the place behind the last item too
abbrev pub each_and_behind : {Item : Type 0} → ℕ → (Limits → Item → Bool) → ItemTest Item
each_and_behind n test = record { number = n; places = λ count. count + 1; broken = test }

-- it looks at each item with the next one
abbrev pub each_pair : {Item : Type 0} → ℕ → (Limits → Item → Bool) → ItemTest Item
each_pair n test = record { number = n; places = λ count. count - 1; broken = test }

abbrev pub element_test : ElementRule → ItemTest ElementAmong
element_test element.PlanLength = each 5 λ l e. too_long e.end
element_test element.Kinds = each_and_behind 7 λ l e. wrong_kind e.place e.count e.earlier e.before e.element
element_test element.LinkedArcs = each 23 λ l e. wrong_link e.earlier e.before e.element e.after
element_test element.LongStraight = each 8 λ l e. long_straight l e.element
element_test element.TightArc = each 10 λ l e. tight_arc l e.element
element_test element.ShortArc = each 11 λ l e. short_arc l e.element
element_test element.ShortClothoid = each 12 λ l e. short_clothoid l e.before e.element e.after

abbrev pub tangent_test : TangentRule → ItemTest TangentAmong
tangent_test tangent.SteepTangent = each 13 λ l t. steep_tangent l t.tangent
tangent_test tangent.ShortTangent = each 14 λ l t. short_tangent t.before t.tangent
tangent_test tangent.SharpVertex = each_pair 15 λ l t. sharp_vertex l t.tangent t.after

abbrev pub point_test : PointRule → ItemTest PointAmong
point_test point.MisplacedPoint = each 16 λ l p. misplaced p.place p.count p.whole p.before p.point
point_test point.WrongCrossfall = each 17 λ l p. wrong_crossfall l p.point
point_test point.SteepRamp = each_pair 18 λ l p. steep_ramp l.lane p.ramp p.point p.after

-- ---- the rules on a road

-- the item before item i, and the element before that
abbrev pub element_before : Road → ℕ → Element
element_before r i = get_or (blank_element ∷ r.plan) i blank_element

abbrev pub element_earlier : Road → ℕ → Element
element_earlier r i = get_or (blank_element ∷ blank_element ∷ r.plan) i blank_element

abbrev pub point_before : Road → ℕ → Crossfall
point_before r i = get_or (blank_crossfall ∷ r.crossfalls) i blank_crossfall

abbrev pub element_among : Road → ℕ → ElementAmong
element_among r i = record {
  place = i;
  count = length r.plan;
  end = element_start r (suc i);
  earlier = element_earlier r i;
  before = element_before r i;
  element = element_of r i;
  after = element_of r (suc i);
}

abbrev pub tangent_among : Road → ℕ → TangentAmong
tangent_among r i = record { before = tangent_before r i; tangent = tangent_of r i; after = tangent_of r (suc i) }

abbrev pub point_among : Road → ℕ → PointAmong
point_among r i = record {
  place = i;
  count = length r.crossfalls;
  whole = total r;
  ramp = r.head.ramp;
  before = point_before r i;
  point = point_of r i;
  after = point_of r (suc i);
}

-- a refusal's number, how many places it looks at on a road, and whether the item at a place breaks it
pub record RoadTest : Type 0 where
  pub number : ℕ
  pub places : Road → ℕ
  pub broken : Limits → Road → ℕ → Bool

abbrev pub road_test : Rule → RoadTest
road_test (rule.Element x) = record { number = (element_test x).number; places = λ r. (element_test x).places (length r.plan); broken = λ l r i. (element_test x).broken l (element_among r i) }
road_test rule.OtherTotal = record { number = 6; places = λ r. 1; broken = λ l r i. other_total r }
road_test rule.ShortStraight = record { number = 9; places = λ r. length r.plan; broken = λ l r i. short_straight l (arc_before r i) (element_of r i) (arc_after r i) }
road_test (rule.Tangent x) = record { number = (tangent_test x).number; places = λ r. (tangent_test x).places (length r.tangents); broken = λ l r i. (tangent_test x).broken l (tangent_among r i) }
road_test (rule.Point x) = record { number = (point_test x).number; places = λ r. (point_test x).places (length r.crossfalls); broken = λ l r i. (point_test x).broken l (point_among r i) }
road_test rule.Superelevation = record { number = 19; places = λ r. length r.plan; broken = wrong_superelevation }

-- the rules in the order in which they are tried
abbrev pub order : List Rule
order =
    rule.Element element.PlanLength
    ∷ rule.OtherTotal
    ∷ rule.Element element.Kinds
    ∷ rule.Element element.LinkedArcs
    ∷ rule.Element element.LongStraight
    ∷ rule.ShortStraight
    ∷ rule.Element element.TightArc
    ∷ rule.Element element.ShortArc
    ∷ rule.Element element.ShortClothoid
    ∷ rule.Tangent tangent.SteepTangent
    ∷ rule.Tangent tangent.ShortTangent
    ∷ rule.Tangent tangent.SharpVertex
    ∷ rule.Point point.MisplacedPoint
    ∷ rule.Point point.WrongCrossfall
    ∷ rule.Point point.SteepRamp
    ∷ rule.Superelevation
    ∷ []

-- ---- the verdict

-- the first place that breaks a rule
unfoldable pub first_broken : Rule → Limits → Road → Option ℕ
first_broken rule l r = first_that ((road_test rule).broken l r) ((road_test rule).places r)

-- what the rules say of a road
pub data Verdict : Type 0 where
  passes : Verdict
  breaks : (number place : ℕ) → Verdict

-- "the lowest refusal wins, then the first item": the rules are in their order
unfoldable pub judge : List Rule → Limits → Road → Verdict
judge [] l r = passes
judge (rule ∷ later) l r = elim (first_broken rule l r) [ Some place ↦ breaks (road_test rule).number place | None ↦ judge later l r ]

-- a road under the limits given; its own are `limits r`
unfoldable pub judged : Limits → Road → Verdict
judged l r = judge order l r

abbrev pub under : Verdict → Road → ℕ → Got Road
under passes r at = got r at
under (breaks n p) r at = refused n p

-- the road of a file, or the refusal 1 to 19, 22 or 23 that turns the file away
unfoldable pub accepted : List ℕ → Got Road
accepted s = and_then (read s) λ r at. under (judged (limits r) r) r at
