-- Document 02, A.5: which lists of pegs are taken, and which peg is the first bad one. No more than 2,000, "ascending, equal ones allowed", none beyond T.
use Prim.Native.Nat.{ℕ, zero, suc, ◌+◌, ◌≤◌, ◌<◌}
use Rattle.std.specs.Prelude.{◌≡◌, Bool, true, ◌||◌, ◌↔◌, List, length, take, replicate, None, Some}
use Rattle.std.proofs.Math.Path.{sym, ap, ap₂}
use Rattle.std.proofs.Common.{◌∙◌, subst, arith, le-leb, get_or-take, take_at}
use Rattle.std.proofs.Math.Bool.{false}
use Rattle.std.proofs.Math.Dec.{leb, ltb}
use Rattle.std.proofs.lemmas.List.{length-replicate, get_or-replicate, replicate-append-replicate}
use Rattle.std.proofs.Math.Seq.{length-take-le}
use Rattle.laws_of_lists.specs.Tests.{or_true}
use Rattle.laws_of_search.specs.Searches.{FirstAt, first_some, first-none, first_at_some}
use Rattle.peg_list.specs.Pegs.{peg_at, falls, is_bad, first_bad}
use Rattle.peg_list.specs.Search.{Good, good, good_none}

-- all are taken exactly where they are good
pub taken_iff : (T : ℕ) (pegs : List ℕ) → (first_bad T pegs ≡ None) ↔ Good T pegs
taken_iff T pegs = (λ e. good T pegs e, λ g. good_none T pegs g)

-- "its place being the first bad peg": it is bad, and none before it is
pub bad_iff : (T : ℕ) (pegs : List ℕ) (i : ℕ) → (first_bad T pegs ≡ Some i) ↔ FirstAt (is_bad T pegs) (length pegs) i
unfolding first_bad
bad_iff T pegs i = (λ e. first_some (is_bad T pegs) (length pegs) i e, λ f. first_at_some (is_bad T pegs) (length pegs) i f)

-- "peg 2,000 being bad": of a list that is too long and otherwise good it is the first
module _ (T : ℕ) (pegs : List ℕ) (long : 2000 < length pegs) (g : Good T (take 2000 pegs)) where
  same : (i : ℕ) → i < 2000 → peg_at (take 2000 pegs) i ≡ peg_at pegs i
  same i h = get_or-take 2000 pegs i 0 h

  bad-there : is_bad T pegs 2000 ≡ true
  unfolding is_bad
  bad-there = rw (le-leb 2000 2000 (omega arith)) (ap (λ (b : Bool). b || ltb T (peg_at pegs 2000)) (or_true (falls pegs 2000)))

  -- a peg is as bad in the first 2,000 as in the whole list
  alike : (i : ℕ) → i < 2000 → is_bad T (take 2000 pegs) i ≡ is_bad T pegs i
  unfolding is_bad falls
  alike zero h = ap (λ (s : ℕ). false || leb 2000 0 || ltb T s) (same 0 h)
  alike (suc i) h = ap₂ (λ (s t : ℕ). ltb s t || leb 2000 (suc i) || ltb T s) (same (suc i) h) (same i (omega arith))

  pub one_too_many : first_bad T pegs ≡ Some 2000
  unfolding first_bad
  one_too_many = (bad_iff T pegs 2000).1 (record {
    place = long;
    bad = bad-there;
    before = λ i h. sym (alike i h) ∙ first-none (is_bad T (take 2000 pegs)) (length (take 2000 pegs)) (good_none T (take 2000 pegs) g) i (omega (arith, length-take-le 2000 pegs (omega arith)));
  })

-- ---- there are such lists: pegs that all stand at one station of the road
pub equal_good : (T s n : ℕ) → s ≤ T → n ≤ 2000 → Good T (replicate n s)
equal_good T s n h m =
    let l = length-replicate n s in
    let at : (i : ℕ) → i < n → peg_at (replicate n s) i ≡ s = λ i k. get_or-replicate n i s 0 k in
    record {
      few = omega arith;
      rises = λ i k. let a = at i (omega arith) in let b = at (suc i) (omega arith) in omega arith;
      within = λ i k. let a = at i (omega arith) in omega arith;
    }

first_ones : (n s : ℕ) → take n (replicate (n + 1) s) ≡ replicate n s
first_ones n s = ap (take n) (sym (replicate-append-replicate n 1 s)) ∙ take_at (replicate n s) (replicate 1 s) n (length-replicate n s)

pub equal_too_many : (T s : ℕ) → s ≤ T → first_bad T (replicate 2001 s) ≡ Some 2000
equal_too_many T s h = one_too_many T (replicate 2001 s) (omega (arith, length-replicate 2001 s)) (subst (Good T) (sym (first_ones 2000 s)) (equal_good T s 2000 h (omega arith)))
