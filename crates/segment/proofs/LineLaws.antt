-- What a segment that shows the road says of its line: how long it is, and that it is the line of the paper.
use Rattle.std.specs.Prelude.{◌≡◌, List, [], ◌∷◌, ◌++◌, ℕ, ◌+◌, ◌-◌, ◌*◌, ◌≤◌, ◌<◌, ℤ, pos, ◌+ℤ◌, length, take, drop, set, get_or}
use Rattle.std.proofs.Common.{sym, ap, ap₂, ◌∙◌, subst, arith, length-append}
use borrow.Rule.Slice.PartMut.{put_mid}
use mir.Syntax.{w64}
use mir.Val.{SFits}
use Rattle.integers.specs.Width.{fits64}
use Rattle.integers.specs.Bridge.{abs_add}
use Rattle.integers.specs.Rounding.{rounded}
use Rattle.decimal.specs.Decimal.{decimal, spaced}
use Rattle.decimal.specs.Written.{Wrote, wrote_last, wrote-length, wrote-behind}
use Rattle.laws_of_lists.specs.All.{All, all-at}
use Rattle.laws_of_lists.specs.All as all
use Rattle.decimal.specs.Length.{Short, short-length}
use Rattle.road.specs.File.{Road}
use Rattle.road.specs.Exact.{Side, left, right}
use Rattle.road.specs.Line.{line}
use Rattle.segment.specs.Segment.{Sound, Shows, height_in, grade_in, crossfall_in, drop_in, curvature_in, numbers_in, list_of, line_in}
use Rattle.segment.specs.Short.{height-size, grade-size, crossfall-size, drop-size, curvature-size}
use Rattle.segment.specs.declared.Numbers.{Numbers}
use Rattle.segment.specs.declared.Segment.{Segment}
use Rattle.segment.specs.Line.{fields, fields-more, fields-short, unended, fields-end, spaced-end, numbers_show, short-line}

-- ---- the numbers of a line are short, and the line is at most 96 bytes
pub numbers-short : {s : Segment} {x : ℕ} → Sound s x → All Short (list_of (numbers_in s x))
unfolding numbers_in
numbers-short {s} {x} p =
    all.more {a = pos x} (omega (arith, p.station))
    (all.more {a = rounded (height_in s x)} (omega (arith, height-size p))
    (all.more {a = rounded (grade_in s x)} (omega (arith, grade-size p))
    (all.more {a = rounded (crossfall_in left s x)} (omega (arith, crossfall-size p left))
    (all.more {a = rounded (crossfall_in right s x)} (omega (arith, crossfall-size p right))
    (all.more {a = rounded (height_in s x) +ℤ rounded (drop_in left s x)} (edge left)
    (all.more {a = rounded (height_in s x) +ℤ rounded (drop_in right s x)} (edge right)
    (all.more {a = rounded (curvature_in s x)} (omega (arith, curvature-size p)) all.none)))))))
  where
    edge : (d : Side) → Short (rounded (height_in s x) +ℤ rounded (drop_in d s x))
    edge d = omega (arith, abs_add (rounded (height_in s x)) (rounded (drop_in d s x)), height-size p, drop-size p d)

pub line-length : {s : Segment} {x : ℕ} → Sound s x → length (line_in s x) ≤ 96
unfolding line_in
line-length p = short-line (numbers-short p)

-- ---- the line as it is written
module _ {s : Segment} {x : ℕ} (p : Sound s x) {n : Numbers} {vs : List ℤ} (number : n ≡ numbers_in s x) (order : vs ≡ list_of n) where
  are : vs ≡ list_of (numbers_in s x)
  are = order ∙ ap list_of number

  short : All Short vs
  short = subst (All Short) (sym are) (numbers-short p)

  eight : length vs ≡ 8
  eight = ap (length {A = ℤ}) are

  module _ {i : ℕ} (here : i < 8) where
    number-short : Short (get_or vs i (pos 0))
    number-short = all-at (pos 0) i short (omega (arith, eight))

    pub number-fits : SFits w64 (get_or vs i (pos 0))
    number-fits = fits64 (get_or vs i (pos 0)) (omega (arith, number-short))

    pub number-length : length (decimal (get_or vs i (pos 0))) ≤ 11
    number-length = short-length (get_or vs i (pos 0)) number-short

    pub field-length : length (decimal (get_or vs i (pos 0)) ++ (32 ∷ [])) ≤ 12
    field-length = omega (arith, length-append (decimal (get_or vs i (pos 0))) (32 ∷ []), number-length)

  upto : (i : ℕ) {b a : List ℕ} {end : ℕ} → Wrote b a 0 (fields (take i vs)) end → end ≤ 12 * i
  upto i w = omega (arith, w.end, fields-short vs i short)

  module _ {b a : List ℕ} {i end : ℕ} (w : Wrote b a 0 (fields (take i vs)) end) (room : 96 ≤ length b) where
    -- the next number has room
    pub number-room : i < 8 → end + 12 ≤ length a
    number-room h = let l = upto i w in omega (arith, wrote-length w (omega (arith, w.end)))

    pub number-behind : {t : List ℕ} {m : ℕ} → i < 8 → Wrote (take (length a - end) (drop end a)) t 0 (decimal (get_or vs i (pos 0)) ++ (32 ∷ [])) m
        → Wrote b (put_mid end (length a - end) a t) 0 (fields (take (i + 1) vs)) (end + m)
    number-behind {t} {m} h v =
        let l = upto i w in
        subst (λ (y : List ℕ). Wrote b (put_mid end (length a - end) a t) 0 y (end + m)) (sym (fields-more vs i (omega (arith, eight)))) (wrote-behind (omega (arith, number-room h)) v w (omega (arith, w.end)))

    -- behind the last number stands a space, and then the line's end
    module _ (all : 8 ≤ i) (in-order : i ≤ 8) where
      last-space : Wrote b a 0 (unended (list_of (numbers_in s x)) ++ (32 ∷ [])) end
      unfolding fields numbers_in
      last-space =
          let e : i ≡ 8 = omega arith in
          subst (λ (y : List ℕ). Wrote b a 0 y end) (ap₂ (λ (j : ℕ) (l : List ℤ). fields (take j l)) e are ∙ fields-end (pos x) _) w

      pub line-done : Wrote b (set a (end - 1) 10) 0 (line_in s x) end
      unfolding line_in numbers_in
      line-done =
          let l = upto i w in
          subst (λ (y : List ℕ). Wrote b (set a (end - 1) 10) 0 y end) (spaced-end (pos x) _) (wrote_last (unended (list_of (numbers_in s x))) 32 10 last-space (omega arith))

      pub last-place : (1 ≤ end) × (end ≤ 96) × (end ≤ length a)
      last-place =
          let l = upto i w in
          (omega (arith, last-space.end, length-append (unended (list_of (numbers_in s x))) (32 ∷ [])), omega arith, omega (arith, wrote-length w (omega (arith, w.end))))

pub line-shows : {r : Road} {s : Segment} {x : ℕ} → Shows r s x → line_in s x ≡ line r x
unfolding line_in line
line-shows S = ap spaced (numbers_show S)
