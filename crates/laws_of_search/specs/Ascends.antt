-- Ascending lists: they are made by `ascending`, the least number from s on is their next one, and their members tell them apart.
use Rattle.std.specs.Prelude.{◌≡◌, refl, Bool, true, false, ◌⊎◌, length, get_or, leb, if◌then◌else◌, Option, Some}
use Rattle.std.proofs.Common.{sym, ap, ap₂, ◌∙◌, inl, inr, arith, leb-true, leb-false, le-leb, eqb-true}
use mathlib.Core.List.Memᴰ
use mathlib.Core.List.{[], List, ◌∷◌, ◌++◌, Memᴰ}
use Prim.Native.Nat.{ℕ, zero, suc, ◌≤◌, ◌<◌, min, compare, Ordering}
use Rattle.std.proofs.lemmas.Bool.{lt-leb, eqb-false}
use Rattle.std.proofs.Math.Dec.{is_le, compare_is_eq}
use Rattle.road.specs.Listed.{insert, ascending, or_less, least_from}
use Rattle.laws_of_lists.specs.All.{All}
use Rattle.laws_of_lists.specs.All as all

-- ascending, each one time, and none below s
pub data Ascends : ℕ → List ℕ → Type 0 where
  empty : {s : ℕ} → Ascends s []
  step : {s x : ℕ} {xs : List ℕ} → s ≤ x → Ascends (suc x) xs → Ascends s (x ∷ xs)

less : (x y : ℕ) → compare x y ≡ Ordering.lt → x < y
less x y e =
    let a : x ≤ y = leb-true x y (ap is_le e) in
    let b : x ≡ y → ⊥ = eqb-false x y (ap compare_is_eq e) in
    omega (arith, b)

pub equal : (x y : ℕ) → compare x y ≡ Ordering.eq → x ≡ y
equal x y e = eqb-true x y (ap compare_is_eq e)

greater : (x y : ℕ) → compare x y ≡ Ordering.gt → y < x
greater x y e = leb-false x y (ap is_le e)

insert-ascends : {s : ℕ} (x : ℕ) (ys : List ℕ) → s ≤ x → Ascends s ys → Ascends s (insert x ys)
unfolding insert
insert-ascends x [] h empty = step h empty
insert-ascends {s} x (y ∷ ys) h (step l a) = go (compare x y) refl (λ k. insert-ascends x ys k a)
  where
    go : (o : Ordering) → compare x y ≡ o → (suc y ≤ x → Ascends (suc y) (insert x ys)) → Ascends s (elim o [ Ordering.lt ↦ x ∷ y ∷ ys | Ordering.eq ↦ y ∷ ys | Ordering.gt ↦ y ∷ insert x ys ])
    go Ordering.lt e ih = step h (step (less x y e) a)
    go Ordering.eq e ih = step l a
    go Ordering.gt e ih = step l (ih (greater x y e))

pub ascending-ascends : (xs : List ℕ) → Ascends 0 (ascending xs)
unfolding ascending
ascending-ascends [] = empty
ascending-ascends (x ∷ xs) = insert-ascends x (ascending xs) (omega arith) (ascending-ascends xs)

-- what holds of all members
insert_all : {P : ℕ → Type 0} (x : ℕ) (ys : List ℕ) → P x → All P ys → All P (insert x ys)
unfolding insert
insert_all x [] p a = all.more p all.none
insert_all {P} x (y ∷ ys) p (all.more q a) = go (compare x y) refl (insert_all x ys p a)
  where
    go : (o : Ordering) → compare x y ≡ o → All P (insert x ys) → All P (elim o [ Ordering.lt ↦ x ∷ y ∷ ys | Ordering.eq ↦ y ∷ ys | Ordering.gt ↦ y ∷ insert x ys ])
    go Ordering.lt e ih = all.more p (all.more q a)
    go Ordering.eq e ih = all.more q a
    go Ordering.gt e ih = all.more q ih

pub ascending-all : {P : ℕ → Type 0} {xs : List ℕ} → All P xs → All P (ascending xs)
unfolding ascending
ascending-all all.none = all.none
ascending-all {xs = x ∷ xs} (all.more p a) = insert_all x (ascending xs) p (ascending-all a)

-- ---- the least from s on
pub least_skip : (s : ℕ) {ys : List ℕ} (zs : List ℕ) → All (λ y. y < s) ys → least_from s (ys ++ zs) ≡ least_from s zs
unfolding least_from
least_skip s zs all.none = refl
least_skip s {ys = y ∷ ys} zs (all.more p a) = rw (lt-leb s y p) (least_skip s zs a)

less-kept : (s z k : ℕ) (zs : List ℕ) → z ≤ k → Ascends k zs → or_less z (least_from s zs) ≡ z
unfolding least_from
less-kept s z k [] h empty = refl
less-kept s z k (x ∷ xs) h (step l a) = go (leb s x) (less-kept s x (suc x) xs (omega arith) a) (less-kept s z (suc x) xs (omega arith) a)
  where
    go : (b : Bool) → or_less x (least_from s xs) ≡ x → or_less z (least_from s xs) ≡ z → or_less z (if b then Some (or_less x (least_from s xs)) else least_from s xs) ≡ z
    go true e f = ap (min z) e ∙ omega arith
    go false e f = f

pub least-next : (s z : ℕ) (zs : List ℕ) → s ≤ z → Ascends (suc z) zs → least_from s (z ∷ zs) ≡ Some z
unfolding least_from
least-next s z zs h a = rw (le-leb s z h) (ap {B = Option ℕ} Some (less-kept s z (suc z) zs (omega arith) a))

-- ---- an ascending list is known by its members
pub ascends_strictly : {s : ℕ} {l : List ℕ} → Ascends s l → (i : ℕ) → suc i < length l → get_or l i 0 < get_or l (suc i) 0
ascends_strictly empty i h = absurd (omega arith)
ascends_strictly (step l empty) i h = absurd (omega arith)
ascends_strictly (step l (step m a)) zero h = m
ascends_strictly (step l (step m a)) (suc i) h = ascends_strictly (step m a) i (omega arith)

pub ascends-low : {s : ℕ} {l : List ℕ} {x : ℕ} → Ascends s l → Memᴰ x l → s ≤ x
ascends-low empty m = absurd (Memᴰ.not-nil m)
ascends-low {s} {x} (step {x = y} {xs = l} h a) m = go (Memᴰ.cases_cons m) (λ n. ascends-low a n)
  where
    go : (x ≡ y) ⊎ Memᴰ x l → (Memᴰ x l → suc y ≤ x) → s ≤ x
    go (inl e) ih = omega arith
    go (inr n) ih = let k = ih n in omega arith

-- the first members agree, and so do those behind them
module _ {x y : ℕ} {xs ys : List ℕ} (a : Ascends (suc x) xs) (b : Ascends (suc y) ys) where
  first-upto : Memᴰ x (y ∷ ys) → y ≤ x
  first-upto m = go (Memᴰ.cases_cons m)
    where
      go : (x ≡ y) ⊎ Memᴰ x ys → y ≤ x
      go (inl e) = omega arith
      go (inr n) = let l = ascends-low b n in omega arith

  behind : x ≡ y → (z : ℕ) → Memᴰ z xs → Memᴰ z (y ∷ ys) → Memᴰ z ys
  behind e z m n = go (Memᴰ.cases_cons n)
    where
      go : (z ≡ y) ⊎ Memᴰ z ys → Memᴰ z ys
      go (inl f) = absurd (let l = ascends-low a m in omega arith)
      go (inr n) = n

pub ascends-one : {s t : ℕ} {xs ys : List ℕ} → Ascends s xs → Ascends t ys → ((z : ℕ) → Memᴰ z xs → Memᴰ z ys) → ((z : ℕ) → Memᴰ z ys → Memᴰ z xs) → xs ≡ ys
ascends-one empty empty f g = refl
ascends-one empty (step {x = y} k b) f g = absurd (Memᴰ.not-nil (g y (Memᴰ.head refl)))
ascends-one (step {x = x} h a) empty f g = absurd (Memᴰ.not-nil (f x (Memᴰ.head refl)))
ascends-one (step {x = x} {xs = xs} h a) (step {x = y} {xs = ys} k b) f g =
    let l = first-upto a b (f x (Memᴰ.head refl)) in
    let m = first-upto b a (g y (Memᴰ.head refl)) in
    let e : x ≡ y = omega arith in
    ap₂ ◌∷◌ e (ascends-one a b (λ z n. behind a b e z n (f z (Memᴰ.tail n))) (λ z n. behind b a (sym e) z n (g z (Memᴰ.tail n))))
