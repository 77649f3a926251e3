-- The next joint: up to it the items stay the same and only multiples of step are listed, and it is listed itself. It is one of the three ends, or one past T.
use Rattle.std.specs.Prelude.{◌≡◌, refl, Bool, true, false, leb, if◌then◌else◌}
use Rattle.std.proofs.Math.Path.{ap}
use Rattle.std.proofs.Common.{◌∙◌, subst, inl, inr, leb-true, leb-false}
use mathlib.Core.List.{Memᴰ}
use Prim.Native.Nat.{ℕ, suc, ◌+◌, ◌-◌, ◌%◌, ◌≤◌, ◌<◌, min}
use native.Mathlib.Omega.{arith}
use Rattle.std.proofs.Math.Decide.{dec_lt, dec_le}
use Rattle.std.proofs.Math.Nat.{mul-mod_left}
use Rattle.std.proofs.Math.ListN.{length}
use Rattle.road.specs.File.{Road}
use Rattle.road.specs.Exact.{element_start, total}
use Rattle.road.specs.Listed.{stations, listed}
use Rattle.laws_of_search.specs.Last.{Rising, rises_to, Begun, begun-before}
use Rattle.laws_of_acceptance.specs.Facts.{elements_rise, points-rise, points-end}
use Rattle.laws_of_stations.specs.Stations.{Named, zero_station, end-station, multiple, element-end, curve-start, curve-end, bare-vertex, point, listed_exactly, stations_has, point-listed}
use Rattle.laws_of_acceptance.specs.Guaranteed.{Guaranteed}
use Rattle.segment.specs.declared.Piece.{Piece}
use Rattle.segment_parts.specs.Pieces.{PieceAt}
use Rattle.segment_parts.specs.Sides.{point_station}
use Rattle.segment_parts.specs.Segments.{joint_of}
use Rattle.segment_parts.specs.PieceFacts.{piece-beyond, piece-listed, piece-free}

-- no start lies between x and the next one
next_start : {f : ℕ → ℕ} {n x i : ℕ} → Rising f n → Begun f n x i → (j : ℕ) → j ≤ n → x < f j → f (suc i) ≤ f j
next_start {f} {n} {x} {i} m b j h l = go (dec_le j i)
  where
    go : Dec (j ≤ i) → f (suc i) ≤ f j
    go (yes k) = absurd (let p = b.below in let q = b.from in omega (arith, rises_to f n j i m k (omega arith)))
    go (no k) = rises_to f n (suc i) j m (omega arith) h

pub record NextJoint (r : Road) (p : Piece) (i k x j : ℕ) : Type 0 where
  pub beyond : x < j
  pub end : j ≤ total r + 1
  pub piece : (y : ℕ) → x ≤ y → y < j → x < y → y < p.end
  pub element : (y : ℕ) → x ≤ y → y < j → x < y → y < element_start r (suc i)
  pub point : (y : ℕ) → x ≤ y → y < j → x < y → y < point_station r (suc k)
  pub free : (z : ℕ) → Memᴰ z (listed r) → x < z → z < j → z % r.head.step ≡ 0
  pub listed : j ≤ total r → Memᴰ j (stations r)

module _ {r : Road} (G : Guaranteed r) where
  module _ (p : Piece) (i k x : ℕ) (P : PieceAt r p x) (E : Begun (element_start r) (length r.plan) x i) (K : Begun (point_station r) (length r.crossfalls - 1) x k) (t : x ≤ total r) where
    abbrev ends : ℕ
    ends = element_start r (suc i)

    -- at T
    last-joint : ends ≤ x → NextJoint r p i k x (x + 1)
    unfolding total
    last-joint h =
        let e : total r ≤ x = go (dec_lt (suc i) (length r.plan)) in
        record {
          beyond = omega arith;
          end = omega arith;
          piece = λ y a b c. absurd (omega arith);
          element = λ y a b c. absurd (omega arith);
          point = λ y a b c. absurd (omega arith);
          free = λ z m a b. absurd (omega arith);
          listed = λ l. absurd (omega arith);
        }
      where
        go : Dec (suc i < length r.plan) → total r ≤ x
        go (yes u) = absurd (omega (arith, E.next u))
        go (no u) = let q = E.below in let f : suc i ≡ length r.plan = omega arith in omega (arith, ap (element_start r) f)

    abbrev least : ℕ
    least = min p.end (min ends (point_station r (suc k)))

    -- the least of three is one of them
    one_of : (Q : ℕ → Type 0) (a b c : ℕ) → Q a → Q b → Q c → Q (min a (min b c))
    one_of Q a b c u v w = go (dec_le a b) (dec_le a c) (dec_le b c)
      where
        go : Dec (a ≤ b) → Dec (a ≤ c) → Dec (b ≤ c) → Q (min a (min b c))
        go (yes l) (yes m) n = subst Q (omega arith) u
        go (yes l) (no m) n = subst Q (omega arith) w
        go (no l) m (yes n) = subst Q (omega arith) v
        go (no l) m (no n) = subst Q (omega arith) w

    inner-joint : x < ends → NextJoint r p i k x least
    inner-joint h =
        let n = E.below in
        let m = G.element-start (suc i) n in
        let a = piece-beyond G P (omega arith) in
        let c = begun-before K (omega (arith, points-end G.facts_of)) in
        let q = K.below in
        record {
          beyond = omega arith;
          end = omega arith;
          piece = λ y a b c. omega arith;
          element = λ y a b c. omega arith;
          point = λ y a b c. omega arith;
          free = λ z m a b. clear z a b ((listed_exactly G.facts_of positive z).0 m);
          listed = λ l. one_of (λ (j : ℕ). Memᴰ j (stations r)) p.end ends (point_station r (suc k)) (piece-listed G P) (stations_has r positive (element-end i n refl)) (point-listed r (suc k) (omega arith));
        }
      where
        positive : 0 < r.head.step
        positive = let l = G.step.low in omega arith

        clear : (z : ℕ) → x < z → z < least → Named r z → z % r.head.step ≡ 0
        clear z a b (zero_station e) = absurd (omega arith)
        clear z a b (end-station e) = absurd (let m = G.element-start (suc i) E.below in omega arith)
        clear z a b (multiple m e l) = ap (λ (n : ℕ). n % r.head.step) e ∙ mul-mod_left m r.head.step
        clear z a b (element-end j l e) = absurd (omega (arith, next_start (elements_rise r) E (suc j) l (omega arith)))
        clear z a b (curve-start j l h e) = absurd (omega (arith, piece-free G P j z l (inl e) a))
        clear z a b (curve-end j l h e) = absurd (omega (arith, piece-free G P j z l (inr e) a))
        clear z a b (bare-vertex j l h e) = absurd (omega (arith, piece-free G P j z l (inr (omega arith)) a))
        clear z a b (point j l e) = absurd (omega (arith, next_start (points-rise G.facts_of) K j (omega arith) (omega arith)))

    pub joint-is : NextJoint r p i k x (joint_of p.end ends (point_station r (suc k)) x)
    joint-is = go (leb ends x) refl
      where
        go : (c : Bool) → leb ends x ≡ c → NextJoint r p i k x (if c then x + 1 else least)
        go true e = last-joint (leb-true ends x e)
        go false e = inner-joint (leb-false ends x e)
