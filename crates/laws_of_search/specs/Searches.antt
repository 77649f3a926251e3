-- What a search says: the least number that passes a test, and the least listed station of an ascending list.
use Rattle.std.specs.Prelude.{◌≡◌, refl, Bool, true, false, List, [], ◌∷◌, T, leb, if◌then◌else◌, Option, None, Some}
use Rattle.std.proofs.Common.{sym, ap, ◌∙◌, subst, arith, eqb→eq}
use Prim.Native.Nat.{ℕ, zero, suc, ◌+◌, ◌<◌, ◌≤◌, min, compare, Ordering}
use Rattle.std.proofs.Math.Decide.{ℕ_discrete, dec_lt}
use Rattle.std.proofs.Math.Dec.{compare_is_eq}
use Rattle.road.specs.Base.{first_from, first_that}
use Rattle.road.specs.Listed.{insert, ascending, counted, or_less, least_from}
use Rattle.std.proofs.lemmas.Bool.{both_ways}

-- ---- the least number that passes a test

first_from_yes : (test : ℕ → Bool) (n k : ℕ) → test k ≡ true → first_from test (suc n) k ≡ Some k
unfolding first_from
first_from_yes test n k p = rw (p, first_from)

first_from_no : (test : ℕ → Bool) (n k : ℕ) → test k ≡ false → first_from test (suc n) k ≡ first_from test n (suc k)
unfolding first_from
first_from_no test n k p = rw (p, first_from)

Clear : (ℕ → Bool) → ℕ → ℕ → Type 0
Clear test k n = (i : ℕ) → k ≤ i → i < k + n → test i ≡ false

clear-more : (test : ℕ → Bool) (k n : ℕ) → test k ≡ false → Clear test (suc k) n → Clear test k (suc n)
unfolding Clear
clear-more test k n p c i l u = go (ℕ_discrete i k)
  where
    go : Dec (i ≡ k) → test i ≡ false
    go (yes e) = ap test e ∙ p
    go (no ne) = c i (omega (arith, ne)) (omega arith)

first_from-none : (test : ℕ → Bool) (n k : ℕ) → first_from test n k ≡ None → Clear test k n
unfolding Clear
first_from-none test zero k e = λ i l u. absurd (omega arith)
first_from-none test (suc n) k e = go (test k) refl (λ f. first_from-none test n (suc k) f)
  where
    go : (b : Bool) → test k ≡ b → (first_from test n (suc k) ≡ None → Clear test (suc k) n) → Clear test k (suc n)
    go true p ih = absurd (let h = first_from_yes test n k p in cc)
    go false p ih = clear-more test k n p (ih (sym (first_from_no test n k p) ∙ e))

first_from-clear : (test : ℕ → Bool) (n k : ℕ) → Clear test k n → first_from test n k ≡ None
unfolding Clear first_from
first_from-clear test zero k c = refl
first_from-clear test (suc n) k c =
    first_from_no test n k (c k (omega arith) (omega arith))
    ∙ first_from-clear test n (suc k) (λ i l u. c i (omega arith) (omega arith))

-- a place that passes the test, and none before it does
pub record FirstAt (test : ℕ → Bool) (n i : ℕ) : Type 0 where
  pub place : i < n
  pub bad : test i ≡ true
  pub before : (j : ℕ) → j < i → test j ≡ false

record From (test : ℕ → Bool) (n k i : ℕ) : Type 0 where
  low : k ≤ i
  high : i < k + n
  bad : test i ≡ true
  before : (j : ℕ) → k ≤ j → j < i → test j ≡ false

first_from_some : (test : ℕ → Bool) (n k i : ℕ) → first_from test n k ≡ Some i → From test n k i
unfolding first_from
first_from_some test zero k i e = absurd cc
first_from_some test (suc n) k i e = go (test k) refl (λ f. first_from_some test n (suc k) i f)
  where
    go : (b : Bool) → test k ≡ b → (first_from test n (suc k) ≡ Some i → From test n (suc k) i) → From test (suc n) k i
    go true p ih =
        let h = first_from_yes test n k p in
        let q : k ≡ i = cc in
        record { low = omega arith; high = omega arith; bad = ap test (sym q) ∙ p; before = λ j l u. absurd (omega arith) }
    go false p ih =
        let f = ih (sym (first_from_no test n k p) ∙ e) in
        let low = f.low in
        let high = f.high in
        record { low = omega arith; high = omega arith; bad = f.bad; before = λ j l u. at j l u (ℕ_discrete j k) }
      where
        at : (j : ℕ) → k ≤ j → j < i → Dec (j ≡ k) → test j ≡ false
        at j l u (yes q) = ap test q ∙ p
        at j l u (no ne) = (ih (sym (first_from_no test n k p) ∙ e)).before j (omega (arith, ne)) u

pub first_some : (test : ℕ → Bool) (n i : ℕ) → first_that test n ≡ Some i → FirstAt test n i
unfolding first_that
first_some test n i e =
    let f = first_from_some test n 0 i e in
    let high = f.high in
    record { place = omega arith; bad = f.bad; before = λ j u. f.before j (omega arith) u }

pub first-none : (test : ℕ → Bool) (n : ℕ) → first_that test n ≡ None → (i : ℕ) → i < n → test i ≡ false
unfolding first_that Clear
first-none test n e i l = first_from-none test n 0 e i (omega arith) (omega arith)

pub first-clear : (test : ℕ → Bool) (n : ℕ) → ((i : ℕ) → i < n → test i ≡ false) → first_that test n ≡ None
unfolding first_that Clear
first-clear test n c = first_from-clear test n 0 (λ i l u. c i (omega arith))

-- the first place that passes is the one that is found
pub first_at_some : (test : ℕ → Bool) (n i : ℕ) → FirstAt test n i → first_that test n ≡ Some i
first_at_some test n i f = go (first_that test n) refl
  where
    go : (o : Option ℕ) → first_that test n ≡ o → o ≡ Some i
    go None e = absurd (both_ways (test i) (first-none test n e i f.place) f.bad)
    go (Some k) e = ap {B = Option ℕ} Some (same (dec_lt i k) (dec_lt k i))
      where
        g : FirstAt test n k
        g = first_some test n k e

        same : Dec (i < k) → Dec (k < i) → k ≡ i
        same (yes l) m = absurd (both_ways (test i) (g.before i l) f.bad)
        same (no l) (yes m) = absurd (both_ways (test k) (f.before k m) g.bad)
        same (no l) (no m) = omega arith

-- ---- the least listed station is that of the ascending list

swap_less : (x y : ℕ) (o : Option ℕ) → Some (or_less x (Some (or_less y o))) ≡ Some (or_less y (Some (or_less x o)))
swap_less x y None = ap {B = Option ℕ} Some (let e : min x y ≡ min y x = omega arith in e)
swap_less x y (Some z) = ap {B = Option ℕ} Some (let e : min x (min y z) ≡ min y (min x z) = omega arith in e)

pub counted_swap : (s x y : ℕ) (o : Option ℕ) → counted s x (counted s y o) ≡ counted s y (counted s x o)
counted_swap s x y o = go (leb s x) (leb s y)
  where
    go : (a b : Bool) → (if a then Some (or_less x (if b then Some (or_less y o) else o)) else (if b then Some (or_less y o) else o)) ≡ (if b then Some (or_less y (if a then Some (or_less x o) else o)) else (if a then Some (or_less x o) else o))
    go true true = swap_less x y o
    go true false = refl
    go false true = refl
    go false false = refl

same-less : (x : ℕ) (o : Option ℕ) → Some (or_less x (Some (or_less x o))) ≡ Some (or_less x o)
same-less x None = ap {B = Option ℕ} Some (let e : min x x ≡ x = omega arith in e)
same-less x (Some z) = ap {B = Option ℕ} Some (let e : min x (min x z) ≡ min x z = omega arith in e)

counted_twice : (s x : ℕ) (o : Option ℕ) → counted s x (counted s x o) ≡ counted s x o
counted_twice s x o = go (leb s x)
  where
    go : (a : Bool) → (if a then Some (or_less x (if a then Some (or_less x o) else o)) else (if a then Some (or_less x o) else o)) ≡ (if a then Some (or_less x o) else o)
    go true = same-less x o
    go false = refl

least-insert : (s x : ℕ) (ys : List ℕ) → least_from s (insert x ys) ≡ counted s x (least_from s ys)
unfolding least_from insert
least-insert s x [] = refl
least-insert s x (y ∷ ys) = go (compare x y) refl (least-insert s x ys)
  where
    go : (c : Ordering) → compare x y ≡ c → least_from s (insert x ys) ≡ counted s x (least_from s ys) → least_from s (insert x (y ∷ ys)) ≡ counted s x (counted s y (least_from s ys))
    go Ordering.lt p ih = rw (p, insert)
    go Ordering.eq p ih = let e : x ≡ y = eqb→eq x y (subst (λ (o : Ordering). T (compare_is_eq o)) (sym p) tt) in rw (p, insert) (subst (λ (z : ℕ). counted s y (least_from s ys) ≡ counted s z (counted s y (least_from s ys))) (sym e) (sym (counted_twice s y (least_from s ys))))
    go Ordering.gt p ih = rw (p, insert) (ap (counted s y) ih ∙ counted_swap s y x (least_from s ys))

pub least-ascending : (s : ℕ) (xs : List ℕ) → least_from s (ascending xs) ≡ least_from s xs
unfolding least_from ascending
least-ascending s [] = refl
least-ascending s (x ∷ xs) = least-insert s x (ascending xs) ∙ ap (counted s x) (least-ascending s xs)
