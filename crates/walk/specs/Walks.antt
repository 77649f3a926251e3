-- The law of the walk, for any use of its stations: what remains are the listed stations from where it stands on, and a move passes the one where it stood.
use Rattle.std.specs.Prelude.{◌≡◌, ℕ, suc, ◌+◌, ◌≤◌, ◌<◌, min}
use Rattle.std.proofs.Common.{ap, ◌∙◌, subst, arith}
use mathlib.Core.List.Memᴰ
use mathlib.Core.List.{List, ◌∷◌, Memᴰ}
use Rattle.std.proofs.Math.Decide.{dec_le}
use Rattle.road.specs.File.{Road}
use Rattle.road.specs.Exact.{total}
use Rattle.road.specs.Listed.{listed}
use Rattle.laws_of_acceptance.specs.Guaranteed.{Guaranteed}
use Rattle.segment.specs.Segment.{Shows}
use Rattle.cursors.specs.Places.{PlaceReached}
use Rattle.cursors.specs.View.{Viewed, viewed-shows, viewed_later, multiple-listed}
use Rattle.walk.specs.FittingRows.{not_below}
use Rattle.walk.specs.NotBelow.{from-same, from_first}
use Rattle.walk.specs.Inside.{listed-ascends}
use Rattle.walk.specs.Multiples.{NextMultiple, multiple-next, multiple-whole, multiple-least}
use Rattle.walk.specs.declared.Walk.{Walk}

-- at a listed station of the segment, at its joint, or past T
pub record Stands (r : Road) (w : Walk) : Type 0 where
  pub among : w.station ≤ total r → Memᴰ w.station (listed r)
  pub end : w.station ≤ total r + 1
  pub place : (y : ℕ) → w.station ≤ y → PlaceReached r w.view.place y
  -- before the joint the segment shows the road, and the next multiple is known
  pub seen : w.station < w.view.joint → Viewed r w.view w.station
  pub next : w.station < w.view.joint → NextMultiple r.head.step w.station w.multiple

-- at x, where a segment begins or the road is past
pub record Entered (r : Road) (x : ℕ) (w : Walk) : Type 0 where
  pub at : w.station ≡ x
  pub stands : Stands r w
  pub inside : x ≤ total r → x < w.view.joint

-- the segment shows the road where the walk stands
pub shown_here : {r : Road} {w : Walk} → Stands r w → w.station < w.view.joint → Shows r w.view.segment w.station
shown_here s h = viewed-shows (s.seen h) (omega (arith, (s.seen h).end))

-- one station on
abbrev pub moved : (step : ℕ) → Walk → Walk
moved step w = record { station = min w.multiple w.view.joint; multiple = w.multiple + step; view = w.view }

-- the walk stood at w and stands at n
pub record Passed (r : Road) (w n : Walk) : Type 0 where
  pub stands : Stands r n
  pub beyond : w.station < n.station
  pub remaining : not_below w.station (listed r) ≡ w.station ∷ not_below n.station (listed r)

module _ {r : Road} (G : Guaranteed r) {w : Walk} (s : Stands r w) (h : w.station < w.view.joint) where
  abbrev x : ℕ
  x = w.station

  abbrev y : ℕ
  y = min w.multiple w.view.joint

  pub on-road : x ≤ total r
  on-road = omega (arith, (s.seen h).end)

  beyond : x < y
  beyond = omega (arith, (s.next h).beyond)

  moved-among : y ≤ total r → Memᴰ y (listed r)
  moved-among l = go (dec_le w.view.joint w.multiple)
    where
      go : Dec (w.view.joint ≤ w.multiple) → Memᴰ y (listed r)
      go (yes k) = let e : y ≡ w.view.joint = omega arith in Memᴰ.cast e ((s.seen h).listed (omega arith))
      go (no k) = let e : y ≡ w.multiple = omega arith in Memᴰ.cast e (multiple-listed G w.multiple (multiple-whole (s.next h)) (omega arith))

  moved-next : y < w.view.joint → NextMultiple r.head.step y (w.multiple + r.head.step)
  moved-next l = let e : w.multiple ≡ y = omega arith in subst (λ (n : ℕ). NextMultiple r.head.step n (w.multiple + r.head.step)) e (multiple-next (s.next h) (let k = G.step.low in omega arith))

  -- no listed station lies between
  none_between : (z : ℕ) → Memᴰ z (listed r) → suc x ≤ z → y ≤ z
  none_between z m l = go (dec_le w.view.joint z)
    where
      go : Dec (w.view.joint ≤ z) → y ≤ z
      go (yes k) = omega arith
      go (no k) = let n = multiple-least (s.next h) z l ((s.seen h).between z m l (omega arith)) in omega arith

  pub passed : Passed r w (moved r.head.step w)
  passed = record {
    stands = record {
      among = moved-among;
      end = omega (arith, (s.seen h).end);
      place = λ z l. s.place z (let b = beyond in omega arith);
      seen = λ l. viewed_later (s.seen h) (let b = beyond in omega arith) l;
      next = moved-next;
    };
    beyond = beyond;
    remaining = from_first (listed-ascends r) (s.among on-road) ∙ ap (λ (l : List ℕ). x ∷ l) (from-same (suc x) y (listed r) beyond none_between);
  }
