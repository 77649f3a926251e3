-- A view of a station: the laws of segment_parts, at the items of the station's places.
use Rattle.std.proofs.Common.{◌≡◌, sym, ap₂, ◌∙◌, subst, ℕ, suc, ◌≤◌}
use Rattle.road.specs.File.{Road}
use Rattle.road.specs.Exact.{point_of, element_start, total}
use Rattle.road.specs.Lane.{lane_width}
use Rattle.laws_of_stations.specs.Next.{listed_has}
use Rattle.laws_of_acceptance.specs.Guaranteed.{Guaranteed}
use Rattle.segment.specs.declared.Segment.{Segment}
use Rattle.segment.specs.declared.Sides.{Sides}
use Rattle.segment.specs.declared.Curvature.{Curvature}
use Rattle.segment_parts.specs.Sides.{point_station, sides_of}
use Rattle.segment_parts.specs.Ends.{curvature_at}
use Rattle.segment_parts.specs.Segments.{segment_of, joint_of}
use Rattle.segment_parts.specs.Profiles.{piece_later}
use Rattle.segment_parts.specs.Curvatures.{curved}
use Rattle.segment_parts.specs.Shown.{same_item, between-points, shown}
use Rattle.segment_parts.specs.Joints.{joint-is}
use Rattle.cursors.specs.declared.Place.{Place}
use Rattle.cursors.specs.declared.View.{View}
use Rattle.cursors.specs.Places.{PlaceFound}
use Rattle.cursors.specs.View.{Viewed}
use Rattle.cursors.proofs.Cursors.{found_later}

module _ {r : Road} (G : Guaranteed r) (q : Place) (x : ℕ) (f : PlaceFound r q x) (t : x ≤ total r) where
  abbrev i : ℕ
  i = q.element.index

  abbrev k : ℕ
  k = q.crossfall.index

  abbrev view_of : View
  view_of = record {
    place = q;
    joint = joint_of q.profile.piece.end (element_start r (suc i)) (point_station r (suc k)) x;
    segment = segment_of q.profile.piece (sides_of (point_of r k) (point_of r (suc k))) (curvature_at r i) (element_start r i) (lane_width r);
  }

  viewed : Viewed r view_of x
  viewed =
      let P = f.profile.piece in
      let E = f.element.at in
      let K = f.crossfall.at in
      let j = joint-is G q.profile.piece i k x P E K t in
      record {
        place = λ y l. found_later G f l;
        beyond = j.beyond;
        end = j.end;
        shows = λ y l u h. shown G q.profile.piece (curvature_at r i) i k y (piece_later G P l (j.piece y l u)) (curved G i E.below) (same_item E l (j.element y l u)) (between-points G K l (j.point y l u) h) h;
        between = j.free;
        listed = λ l. listed_has r view_of.joint (j.listed l);
      }

  -- the same by the numbers of the place
  pub viewed_by : {j lane : ℕ} {s : Segment} → j ≡ joint_of q.profile.piece.end q.element.end q.crossfall.end x → s ≡ segment_of q.profile.piece q.crossfall.sides q.element.curvature q.element.begin lane
      → lane ≡ lane_width r → Viewed r (record { place = q; joint = j; segment = s }) x
  viewed_by {j} {lane} {s} u v z = subst (λ (v : View). Viewed r v x) (sym same) viewed
    where
      with : ℕ → Segment → View
      with j s = record { place = q; joint = j; segment = s }

      same : with j s ≡ view_of
      same =
          ap₂ with (u ∙ ap₂ (λ (m n : ℕ). joint_of q.profile.piece.end m n x) f.element.placed.end f.crossfall.placed.end)
          (v ∙ ap₂ (λ (d : Sides) (c : Curvature). segment_of q.profile.piece d c q.element.begin lane) f.crossfall.placed.sides f.element.placed.curvature
          ∙ ap₂ (λ (e l : ℕ). segment_of q.profile.piece (sides_of (point_of r k) (point_of r (suc k))) (curvature_at r i) e l) f.element.placed.begin z)
