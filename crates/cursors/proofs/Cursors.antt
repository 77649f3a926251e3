-- How a cursor moves on along a list.
use Rattle.std.proofs.Common.{◌≡◌, refl, sym, ap, ap₂, ◌∙◌, subst, ℕ, zero, suc, ◌+◌, ◌-◌, ◌<◌, ◌≤◌, length, get_or, take, ℤ, pos, ◌+ℤ◌, ◌*ℤ◌, arith, add-one}
use Rattle.std.proofs.Math.IntN.{+ℤ_idr}
use Rattle.std.proofs.Math.ListN.{get_or-eq_default}
use Rattle.std.proofs.lemmas.List.{length-take-le, get_or-take}
use Rattle.road.specs.Base.{sum_of}
use Rattle.road.specs.File.{Road}
use Rattle.road.specs.Exact.{blank_element, element_of, tangent_of, point_of, element_start, tangent_start, rise}
use Rattle.road.specs.Rules.{element_before}
use Rattle.laws_of_acceptance.specs.Lists.{element-step, tangent-step}
use Rattle.road.specs.declared.Element.{Element}
use Rattle.road.specs.declared.Tangent.{Tangent}
use Rattle.road.specs.declared.Crossfall.{Crossfall}
use Rattle.laws_of_search.specs.Last.{Begun}
use Rattle.laws_of_acceptance.specs.Facts.{start_first}
use Rattle.laws_of_acceptance.specs.Guaranteed.{Guaranteed}
use Rattle.segment_parts.specs.Tangents.{height_start, TangentFound, first_place, next_place, height-next}
use Rattle.segment_parts.specs.Ends.{curvature_at}
use Rattle.segment_parts.specs.Sides.{point_station}
use Rattle.segment_parts.specs.Profiles.{piece_later}
use Rattle.segment.specs.declared.Curvature.{Curvature}
use Rattle.segment_parts.specs.declared.TangentPlace.{TangentPlace}
use Rattle.cursors.specs.declared.Place.{Place}
use Rattle.cursors.specs.declared.ElementPlace.{ElementPlace}
use Rattle.cursors.specs.declared.ProfilePlace.{ProfilePlace}
use Rattle.cursors.specs.declared.CrossfallPlace.{CrossfallPlace}
use Rattle.cursors.specs.Places.{Reached, ElementReached, ElementFound, TangentReached, ProfileReached, ProfileFound, CrossfallReached, CrossfallFound, PlaceReached, PlaceFound}

-- ---- one cursor: where the next item does not begin at or before x, the last one is found
pub reached-ends : {f : ℕ → ℕ} {n x i : ℕ} → Reached f n x i → (suc i < n → x < f (suc i)) → Begun f n x i
reached-ends a h = record { below = a.within; from = a.begun; next = h }

begun_later : {f : ℕ → ℕ} {n x y i : ℕ} → Begun f n x i → x ≤ y → Reached f n y i
begun_later b h = record { within = b.below; begun = let l = b.from in omega arith }

reached_later : {f : ℕ → ℕ} {n x y i : ℕ} → Reached f n x i → x ≤ y → Reached f n y i
reached_later a h = record { within = a.within; begun = let l = a.begun in omega arith }

-- ---- the plan
-- element i, and where it begins
pub record AtElement (r : Road) (x i begin : ℕ) (e : Element) : Type 0 where
  pub starts : begin ≡ element_start r i
  pub at : Reached (element_start r) (length r.plan) x i
  pub item : e ≡ element_of r i

module _ {r : Road} {x i begin : ℕ} {e : Element} (g : AtElement r x i begin e) where
  pub element-end : begin + e.length ≡ element_start r (suc i)
  element-end = ap₂ ◌+◌ g.starts (ap (λ (e : Element). e.length) g.item) ∙ sym (element-step r i)

  pub element-more : {e' : Element} → suc i < length r.plan → begin + e.length ≤ x → e' ≡ element_of r (i + 1) → AtElement r x (i + 1) (begin + e.length) e'
  element-more h l q = let n = element-end in record { starts = n ∙ ap (element_start r) (sym (add-one i)); at = rw (add-one i) (record { within = h; begun = omega arith }); item = q }

  pub element_found : {c : Curvature} → (suc i < length r.plan → x < begin + e.length) → c ≡ curvature_at r i → ElementFound r (record { index = i; begin = begin; end = begin + e.length; curvature = c }) x
  element_found h c = let n = element-end in record { placed = record { begin = g.starts; end = n; curvature = c }; at = reached-ends g.at (λ u. let l = h u in omega arith) }

-- the last of those before an element is the one before it
pub before-item : (r : Road) (i : ℕ) → i < length r.plan → get_or (take i r.plan) (length (take i r.plan) - 1) blank_element ≡ element_before r i
before-item r zero h = get_or-eq_default (take 0 r.plan) blank_element {n = length (take 0 r.plan) - 1} (omega (arith, length-take-le 0 r.plan (omega arith)))
before-item r (suc i) h =
    ap (λ (k : ℕ). get_or (take (suc i) r.plan) k blank_element) (let e : length (take (suc i) r.plan) - 1 ≡ i = omega (arith, length-take-le (suc i) r.plan (omega arith)) in e)
    ∙ get_or-take (suc i) r.plan i blank_element (omega arith)

-- ---- the profile
-- a tangent reached, and its place
pub record AtTangent (r : Road) (x : ℕ) (p : TangentPlace) (t : Tangent) : Type 0 where
  pub reached : TangentReached r p x
  pub item : t ≡ tangent_of r p.index

module _ {r : Road} {x : ℕ} {p : TangentPlace} {t : Tangent} (g : AtTangent r x p t) where
  pub tangent-end : p.begin + t.length ≡ tangent_start r (suc p.index)
  tangent-end = ap₂ ◌+◌ g.reached.placed.begin (ap (λ (t : Tangent). t.length) g.item) ∙ sym (tangent-step r p.index)

  next-reached : suc p.index < length r.tangents → p.begin + t.length ≤ x → TangentReached r (next_place p t) x
  next-reached h l =
      let n = tangent-end in
      let placed = g.reached.placed in
      rw (add-one p.index) (record {
        placed = record {
          begin = n;
          height = ap₂ (λ (z : ℤ) (t : Tangent). z +ℤ t.grade *ℤ pos t.length) placed.height g.item ∙ sym (height-next r p.index g.reached.at.within);
          half = ap (λ (t : Tangent). t.half) g.item;
          grade = ap (λ (t : Tangent). t.grade) g.item;
        };
        at = record { within = h; begun = omega arith };
      })

  pub tangent-more : {q : TangentPlace} {t' : Tangent} → q ≡ next_place p t → suc p.index < length r.tangents → p.begin + t.length ≤ x → t' ≡ tangent_of r q.index → AtTangent r x q t'
  tangent-more e h l w = record { reached = subst (λ (q : TangentPlace). TangentReached r q x) (sym e) (next-reached h l); item = w }

  -- the last that begins at or before x
  pub tangent_found : (suc p.index < length r.tangents → x < p.begin + t.length) → TangentFound r p x
  tangent_found h = let n = tangent-end in record { placed = g.reached.placed; at = reached-ends g.reached.at (λ u. let l = h u in omega arith) }

-- ---- the crossfalls
-- a point reached, and the one after it
pub record AtPoint (r : Road) (x i : ℕ) (d : Crossfall) : Type 0 where
  pub at : Reached (point_station r) (length r.crossfalls - 1) x i
  pub item : d ≡ point_of r (suc i)

-- ---- before its end a place is still that of x
pub element-stays : {r : Road} {p : ElementPlace} {x : ℕ} → ElementReached r p x → x < p.end → ElementFound r p x
element-stays g h = record { placed = g.placed; at = reached-ends g.at (λ _. omega (arith, h, g.placed.end)) }

pub piece_stays : {r : Road} {p : ProfilePlace} {x : ℕ} → ProfileReached r p x → x < p.piece.end → ProfileFound r p x
piece_stays g h = record { tangent = g.tangent; piece = g.piece h }

pub crossfall-stays : {r : Road} {p : CrossfallPlace} {x : ℕ} → CrossfallReached r p x → x < p.end → CrossfallFound r p x
crossfall-stays g h = record { placed = g.placed; at = reached-ends g.at (λ _. omega (arith, h, g.placed.end)) }

-- ---- the first of each list
pub element-first : (r : Road) → element_start r 0 ≡ 0
unfolding element_start sum_of
element-first r = refl

height_zero : (r : Road) → r.start *ℤ pos 1000000 ≡ height_start r 0
unfolding height_start rise
height_zero r = sym (+ℤ_idr (r.start *ℤ pos 1000000))

module _ {r : Road} (G : Guaranteed r) where
  pub first-element : (x : ℕ) → Reached (element_start r) (length r.plan) x 0
  first-element x = record { within = G.plan-count.low; begun = omega (arith, element-first r) }

  pub first-tangent : (x : ℕ) {p : TangentPlace} → p ≡ first_place r.start → TangentReached r p x
  first-tangent x e = rw e (record {
    placed = record { begin = sym (start_first r); height = height_zero r; half = refl; grade = refl };
    at = record { within = G.tangent-count.low; begun = omega (arith, start_first r) };
  })

  -- ---- on all three: found at x, reached for a later station
  pub found_later : {q : Place} {x y : ℕ} → PlaceFound r q x → x ≤ y → PlaceReached r q y
  found_later f l = record {
    element = record { placed = f.element.placed; at = begun_later f.element.at l };
    profile = record {
      tangent = record { placed = f.profile.tangent.placed; at = reached_later f.profile.tangent.at l };
      piece = λ u. piece_later G f.profile.piece l (λ _. u);
    };
    crossfall = record { placed = f.crossfall.placed; at = begun_later f.crossfall.at l };
  }
