-- Between neighbouring stations the road is of one piece: one curve or one straight part, and one pair of crossfall points.
use Rattle.std.specs.Prelude.{◌≡◌, refl, None, Some}
use Rattle.std.proofs.Common.{ap}
use mathlib.Core.List.{Memᴰ}
use Prim.Native.Nat.{ℕ, zero, suc, ◌+◌, ◌-◌, ◌≤◌, ◌<◌}
use native.Mathlib.Omega.{arith}
use Rattle.std.proofs.Math.Decide.{dec_lt, dec_le}
use Rattle.std.proofs.Math.ListN.{length}
use Rattle.road.specs.File.{Road}
use Rattle.road.specs.Exact.{tangent_start, tangent_at, total, vertex_count, vertex, half_length, point_of, point_at, half_before_of}
use Rattle.road.specs.Listed.{stations}
use Rattle.road.specs.Blade.{Neighbouring, one_curve}
use Rattle.laws_of_stations.specs.Next.{listed_has}
use Rattle.laws_of_acceptance.specs.Facts.{Facts, points-end, tangent-begun, pair-begun, curve-begins}
use Rattle.laws_of_search.specs.Last.{Begun, begun-before}
use Rattle.laws_of_pieces.specs.Pieces.{OnStraight, OnCurve}
use Rattle.laws_of_pieces.specs.OneCurve.{near_on, on_near, named_iff, none_iff}
use Rattle.laws_of_stations.specs.Stations.{starts-listed, ends-listed, point-listed}
use Rattle.laws_of_pieces.specs.Crossfalls.{BetweenPoints}

-- both rows in curve i: so is every station between them
pub one-curve : (r : Road) (a b i : ℕ) → one_curve r a b ≡ Some i → (s : ℕ) → a ≤ s → s ≤ b → OnCurve r i s
one-curve r a b i e s l u =
    let h = (named_iff r a b i).0 e in
    let low = (on_near h.0 h.1.place h.1.first).low in
    let high = (on_near h.0 h.1.place h.1.second).high in
    record { place = h.1.place; long = h.0; low = omega arith; high = omega arith }

no_curve : (r : Road) (a b i : ℕ) → one_curve r a b ≡ None → OnCurve r i a → OnCurve r i b → ⊥
no_curve r a b i e p q = (none_iff r a b).0 e i p.long (record { place = p.place; first = near_on p; second = near_on q })

pub record StraightOver (r : Road) (a b : ℕ) : Type 0 where
  pub index : ℕ
  pub on : (s : ℕ) → a ≤ s → s ≤ b → OnStraight r index s

pub record PointsOver (r : Road) (a b : ℕ) : Type 0 where
  pub index : ℕ
  pub on : (s : ℕ) → a ≤ s → s ≤ b → BetweenPoints r index s

module _ {r : Road} (F : Facts r) (a b : ℕ) (N : Neighbouring r a b) (end : b ≤ total r) where
  -- a listed station past a is not before b
  beyond : (x : ℕ) → Memᴰ x (stations r) → a < x → b ≤ x
  beyond x m l = go (dec_le b x)
    where
      go : Dec (b ≤ x) → b ≤ x
      go (yes y) = y
      go (no y) = absurd (N.free x (listed_has r x m) l (omega arith))

  -- ---- the points
  pub points-over : PointsOver r a b
  points-over =
      let g = pair-begun F a in
      let p = g.below in
      let low = g.from in
      let ab = N.before in
      let high = beyond (point_of r (suc (point_at r a))).station (point-listed r (suc (point_at r a)) (omega arith)) (begun-before g (omega (arith, points-end F))) in
      record { index = point_at r a; on = λ s l u. record { place = omega arith; low = omega arith; high = omega arith } }

  -- ---- the straight part
  module _ (free : one_curve r a b ≡ None) where
    after-curve : (t : ℕ) → t < length r.tangents → tangent_start r t ≤ a → tangent_start r t + half_before_of r t ≤ a
    after-curve zero h l = omega arith
    after-curve (suc t) h l = go (dec_le (vertex r t + half_length r t) a)
      where
        go : Dec (vertex r t + half_length r t ≤ a) → vertex r t + half_length r t ≤ a
        go (yes y) = y
        go (no y) =
            let ab = N.before in
            let e = beyond (vertex r t + half_length r t) (ends-listed r t (vertex r t + half_length r t) (omega arith) refl) (omega arith) in
            absurd (no_curve r a b t free
            (record { place = omega arith; long = omega arith; low = omega arith; high = omega arith })
            (record { place = omega arith; long = omega arith; low = omega arith; high = omega arith }))

    before-curve : (t : ℕ) → t < vertex_count r → a < vertex r t → b + half_length r t ≤ vertex r t
    before-curve t h l = go (dec_lt (a + half_length r t) (vertex r t))
      where
        go : Dec (a + half_length r t < vertex r t) → b + half_length r t ≤ vertex r t
        go (yes y) =
            let x : ℕ = vertex r t - half_length r t in
            let q = curve-begins F t h in
            let e = beyond x (starts-listed r t x h (omega arith)) (omega arith) in
            omega arith
        go (no y) =
            let ab = N.before in
            let e = beyond (vertex r t + half_length r t) (ends-listed r t (vertex r t + half_length r t) h refl) (omega arith) in
            absurd (no_curve r a b t free
            (record { place = h; long = omega arith; low = omega arith; high = omega arith })
            (record { place = h; long = omega arith; low = omega arith; high = omega arith }))

    before-end : (t : ℕ) → Begun (tangent_start r) (length r.tangents) a t → b ≤ tangent_start r (suc t)
    before-end t g = go (dec_lt (suc t) (length r.tangents))
      where
        go : Dec (suc t < length r.tangents) → b ≤ tangent_start r (suc t)
        go (yes y) = let e = before-curve t (omega arith) (g.next y) in omega arith
        go (no y) = let p = g.below in let e : suc t ≡ length r.tangents = omega arith in omega (arith, F.whole, ap (tangent_start r) e)

    pub straight-over : StraightOver r a b
    straight-over =
        let t = tangent_at r a in
        let g = tangent-begun F a in
        let low = after-curve t g.below g.from in
        let upto = before-end t g in
        record { index = t; on = λ s l u. record { place = g.below; low = omega arith; high = λ h. let e = before-curve t h (g.next (omega arith)) in omega arith; upto = omega arith } }
