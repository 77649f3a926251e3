-- The first bad peg, as it is searched for; where there is none, all pegs are good.
use Prim.Native.Nat.{ℕ, zero, suc, ◌+◌, ◌≤◌, ◌<◌}
use Rattle.std.specs.Prelude.{◌≡◌, Bool, true, false, ◌||◌, List, ◌∷◌, length, get_or, ltb, None, Some}
use Rattle.std.proofs.Math.Path.{refl, sym}
use Rattle.std.proofs.Common.{◌∙◌, arith, add-one, below_more}
use borrow.Author.Tests.{le-ltb, lt-ltb, le-leb, ltb-false, lt-leb, leb-true, leb-false}
use Rattle.std.proofs.Math.Dec.{leb}
use Rattle.laws_of_lists.specs.Tests.{or_left, or_right, or_true}
use Rattle.laws_of_search.specs.Searches.{first-none, first-clear, first_at_some}
use Rattle.peg_list.specs.Pegs.{peg_at, falls, is_bad, first_bad}

-- no more than 2,000, ascending, up to T
pub record Good (T : ℕ) (pegs : List ℕ) : Type 0 where
  pub few : length pegs ≤ 2000
  pub rises : (i : ℕ) → suc i < length pegs → peg_at pegs i ≤ peg_at pegs (suc i)
  pub within : (i : ℕ) → i < length pegs → peg_at pegs i ≤ T

module _ (T : ℕ) (pegs : List ℕ) where
  -- none of the first i is bad; `last` is the one before peg i, or 0
  pub record Passed (i last : ℕ) : Type 0 where
    pub before : (j : ℕ) → j < i → is_bad T pegs j ≡ false
    pub last_is : last ≡ get_or (0 ∷ pegs) i 0

  pub passed_none : Passed 0 0
  passed_none = record { before = λ j h. absurd (omega arith); last_is = refl }

  module _ (i last : ℕ) (p : Passed i last) where
    tests : is_bad T pegs i ≡ (ltb (peg_at pegs i) last || leb 2000 i || ltb T (peg_at pegs i))
    unfolding is_bad falls
    tests = go i p.last_is
      where
        go : (i : ℕ) → last ≡ get_or (0 ∷ pegs) i 0 → is_bad T pegs i ≡ (ltb (peg_at pegs i) last || leb 2000 i || ltb T (peg_at pegs i))
        go zero e = rw (e, le-ltb (peg_at pegs 0) 0 (omega arith))
        go (suc i) e = rw e

    found : i < length pegs → is_bad T pegs i ≡ true → Some i ≡ first_bad T pegs
    unfolding first_bad
    found h bad = sym (first_at_some (is_bad T pegs) (length pegs) i (record { place = h; bad = bad; before = p.before }))

    -- it lies below the one before it, is one too many, or lies beyond T
    pub found_fall : i < length pegs → peg_at pegs i < last → Some i ≡ first_bad T pegs
    found_fall h l = found h (tests ∙ rw (lt-ltb (peg_at pegs i) last l))

    pub found_many : i < length pegs → 2000 ≤ i → Some i ≡ first_bad T pegs
    found_many h l = found h (tests ∙ rw (le-leb 2000 i l, or_true (ltb (peg_at pegs i) last)))

    pub found_past : i < length pegs → T < peg_at pegs i → Some i ≡ first_bad T pegs
    found_past h l = found h (tests ∙ rw (lt-ltb T (peg_at pegs i) l, or_true (ltb (peg_at pegs i) last || leb 2000 i)))

    -- or it is good
    pub passed_more : last ≤ peg_at pegs i → i < 2000 → peg_at pegs i ≤ T → Passed (i + 1) (peg_at pegs i)
    passed_more h few l = record {
      before = below_more (λ j. is_bad T pegs j ≡ false) i p.before (tests ∙ rw (le-ltb (peg_at pegs i) last h, lt-leb 2000 i few, le-ltb T (peg_at pegs i) l));
      last_is = rw add-one;
    }

    pub found_none : length pegs ≤ i → None ≡ first_bad T pegs
    unfolding first_bad
    found_none h = sym (first-clear (is_bad T pegs) (length pegs) (λ j l. p.before j (omega arith)))

  -- no peg lies below the one before it, is one too many, or lies beyond T
  module _ (e : first_bad T pegs ≡ None) where
    not_bad : (i : ℕ) → i < length pegs → (falls pegs i || leb 2000 i || ltb T (peg_at pegs i)) ≡ false
    unfolding first_bad is_bad
    not_bad = first-none (is_bad T pegs) (length pegs) e

    at_most : length pegs ≤ 2000
    at_most = go (leb (length pegs) 2000) refl
      where
        go : (b : Bool) → leb (length pegs) 2000 ≡ b → length pegs ≤ 2000
        go true q = leb-true (length pegs) 2000 q
        go false q =
            let h = leb-false (length pegs) 2000 q in
            absurd (let l = leb-false 2000 2000 (or_right (falls pegs 2000) (leb 2000 2000) (or_left (falls pegs 2000 || leb 2000 2000) (ltb T (peg_at pegs 2000)) (not_bad 2000 h))) in omega arith)

    pub good : Good T pegs
    unfolding falls
    good = record {
      few = at_most;
      rises = λ i h. ltb-false (peg_at pegs (suc i)) (peg_at pegs i) (or_left (ltb (peg_at pegs (suc i)) (peg_at pegs i)) (leb 2000 (suc i)) (or_left (falls pegs (suc i) || leb 2000 (suc i)) (ltb T (peg_at pegs (suc i))) (not_bad (suc i) h)));
      within = λ i h. ltb-false T (peg_at pegs i) (or_right (falls pegs i || leb 2000 i) (ltb T (peg_at pegs i)) (not_bad i h));
    }

  -- and the other way: pegs that are good are all taken
  good_there : Good T pegs → (i : ℕ) → i < length pegs → is_bad T pegs i ≡ false
  unfolding is_bad falls
  good_there g zero h = rw (lt-leb 2000 0 (omega arith), le-ltb T (peg_at pegs 0) (g.within 0 h))
  good_there g (suc i) h = rw (le-ltb (peg_at pegs (suc i)) (peg_at pegs i) (g.rises i h), lt-leb 2000 (suc i) (omega (arith, g.few)), le-ltb T (peg_at pegs (suc i)) (g.within (suc i) h))

  pub good_none : Good T pegs → first_bad T pegs ≡ None
  unfolding first_bad
  good_none g = first-clear (is_bad T pegs) (length pegs) (good_there g)
