-- The place of a tangent on a road: where it begins, the height there, and what stands before it. Its numbers are small: each tangent adds at most grade × length.
use Rattle.std.specs.Prelude.{◌≡◌, ℕ, zero, suc, ◌+◌, ◌*◌, ◌≤◌, ◌<◌, length, take, ℤ, ◌+ℤ◌, ◌*ℤ◌}
use Rattle.std.proofs.Common.{sym, ap, ◌∙◌, subst}
use native.Mathlib.Omega.{arith}
use Rattle.std.proofs.Math.IntN.{pos, nat_abs, +ℤ_assoc}
use Rattle.integers.specs.Bridge.{abs_product, abs_sum}
use Rattle.road.specs.File.{Road}
use Rattle.road.specs.Exact.{tangent_of, tangent_start, rise, half_before_of}
use Rattle.laws_of_acceptance.specs.Lists.{tangent-step}
use Rattle.road.specs.declared.Tangent.{Tangent}
use Rattle.laws_of_search.specs.Last.{Begun}
use Rattle.laws_of_acceptance.specs.Facts.{rise-next}
use Rattle.laws_of_acceptance.specs.Guaranteed.{Guaranteed}
use Rattle.segment_parts.specs.declared.TangentPlace.{TangentPlace}

-- the height where tangent i begins, in millionths
unfoldable pub height_start : Road → ℕ → ℤ
height_start r i = r.start *ℤ pos 1000000 +ℤ rise (take i r.tangents)

-- the grade before tangent i
abbrev pub grade_before_of : Road → ℕ → ℤ
grade_before_of r zero = pos 0
grade_before_of r (suc i) = (tangent_of r i).grade

pub record TangentPlaced (r : Road) (p : TangentPlace) : Type 0 where
  pub begin : p.begin ≡ tangent_start r p.index
  pub height : p.height ≡ height_start r p.index
  pub half : p.half_before ≡ half_before_of r p.index
  pub grade : p.grade_before ≡ grade_before_of r p.index

pub record TangentFound (r : Road) (p : TangentPlace) (x : ℕ) : Type 0 where
  pub placed : TangentPlaced r p
  pub at : Begun (tangent_start r) (length r.tangents) x p.index

-- the place of the first tangent, from the start height
abbrev pub first_place : ℤ → TangentPlace
first_place start = record { index = 0; begin = 0; height = start *ℤ pos 1000000; half_before = 0; grade_before = pos 0 }

-- the place of the tangent after t, which stands at p
abbrev pub next_place : TangentPlace → Tangent → TangentPlace
next_place p t = record {
  index = p.index + 1;
  begin = p.begin + t.length;
  height = p.height +ℤ t.grade *ℤ pos t.length;
  half_before = t.half;
  grade_before = t.grade;
}

-- the numbers of a place and its tangent are those of an accepted road
pub record SizedPlace (p : TangentPlace) (t : Tangent) : Type 0 where
  pub index : p.index < 100
  pub begin : p.begin ≤ 100000000
  pub height : nat_abs p.height ≤ 15000000000000
  pub before : p.half_before ≤ p.begin
  pub half-before : p.half_before ≤ 1000000
  pub grade-before : nat_abs p.grade_before ≤ 120000
  pub length : t.length ≤ 10000000
  pub half : t.half ≤ t.length
  pub half-size : t.half ≤ 1000000
  pub grade : nat_abs t.grade ≤ 120000

-- the next tangent starts at the height where this one ends
pub height-next : (r : Road) (i : ℕ) → i < length r.tangents → height_start r (suc i) ≡ height_start r i +ℤ (tangent_of r i).grade *ℤ pos (tangent_of r i).length
unfolding height_start
height-next r i h =
    ap (λ (z : ℤ). r.start *ℤ pos 1000000 +ℤ z) (rise-next r i h)
    ∙ sym (+ℤ_assoc (r.start *ℤ pos 1000000) (rise (take i r.tangents)) ((tangent_of r i).grade *ℤ pos (tangent_of r i).length))

module _ {r : Road} (G : Guaranteed r) where
  -- the height where a tangent begins
  height-first : nat_abs (height_start r 0) ≤ 3000000000000
  unfolding height_start rise
  height-first =
      let z : nat_abs (pos 0) ≤ 0 = omega arith in
      omega (arith, abs_sum (r.start *ℤ pos 1000000) (pos 0) (abs_product r.start (pos 1000000) {l = 1000000} G.start-size (omega arith)) z)

  pub height-small : (i : ℕ) → i ≤ length r.tangents → nat_abs (height_start r i) ≤ 3000000000000 + 120000 * tangent_start r i
  height-small zero h = omega (arith, height-first)
  height-small (suc i) h =
      let t = tangent_of r i in
      let a = height-small i (omega arith) in
      let b = abs_product t.grade (pos t.length) {l = t.length} (G.grade i (omega arith)) (omega arith) in
      rw (height-next r i (omega arith)) (omega (arith, abs_sum (height_start r i) (t.grade *ℤ pos t.length) a b, tangent-step r i))

  half-before-small : (i : ℕ) → i < length r.tangents → (half_before_of r i ≤ 1000000) × (half_before_of r i ≤ tangent_start r i)
  half-before-small zero h = (omega arith, omega arith)
  half-before-small (suc i) h = (G.half i (omega arith), G.curve-start i (omega arith))

  grade-before-small : (i : ℕ) → i < length r.tangents → nat_abs (grade_before_of r i) ≤ 120000
  grade-before-small zero h = omega arith
  grade-before-small (suc i) h = G.grade i (omega arith)

  pub sized : {p : TangentPlace} (t : Tangent) → TangentPlaced r p → t ≡ tangent_of r p.index → p.index < length r.tangents → SizedPlace p t
  sized {p} t g q h =
      let i = p.index in
      let b = half-before-small i h in
      let s = G.tangent-start i (omega arith) in
      let whole = G.whole.high in
      let room = G.facts_of.room i h in
      let most = G.tangent-count.high in
      let begin = g.begin in
      let half = g.half in
      subst (SizedPlace p) (sym q) (record {
        index = omega arith;
        begin = omega arith;
        height = subst (λ (z : ℤ). nat_abs z ≤ 15000000000000) (sym g.height) (omega (arith, height-small i (omega arith)));
        before = omega arith;
        half-before = omega arith;
        grade-before = subst (λ (z : ℤ). nat_abs z ≤ 120000) (sym g.grade) (grade-before-small i h);
        length = (G.tangent-length i h).high;
        half = omega arith;
        half-size = G.half i h;
        grade = G.grade i h;
      })
