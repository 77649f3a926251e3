-- What the next station is: the least listed one that is not below s; the ascending list has the same members.
use Rattle.std.specs.Prelude.{◌≡◌, refl, Bool, true, false, ◌⊎◌, leb, if◌then◌else◌, Option, None, Some}
use Rattle.std.proofs.Common.{◌∙◌, inl, inr, arith, leb-true, leb-false}
use mathlib.Core.List.Memᴰ
use mathlib.Core.List.{List, [], ◌∷◌, Memᴰ}
use Prim.Native.Nat.{ℕ, ◌≤◌, ◌<◌, min, compare, Ordering}
use Rattle.std.proofs.Math.Decide.{dec_le}
use Rattle.road.specs.File.{Road}
use Rattle.road.specs.Listed.{insert, ascending, listed, stations, or_less, least_from, next_listed}
use Rattle.laws_of_search.specs.Ascends.{equal}

-- o is the least of xs that is not below s
pub data Least (s : ℕ) (xs : List ℕ) : Option ℕ → Type 0 where
  least : {x : ℕ} → Memᴰ x xs → s ≤ x → ((y : ℕ) → Memᴰ y xs → s ≤ y → x ≤ y) → Least s xs (Some x)
  nothing : ((y : ℕ) → Memᴰ y xs → y < s) → Least s xs None

module _ (s x : ℕ) (xs : List ℕ) where
  skipped : x < s → {o : Option ℕ} → Least s xs o → Least s (x ∷ xs) o
  skipped h (least {x = z} m l k) = least {x = z} (Memᴰ.tail m) l λ y n u. over y u (Memᴰ.cases_cons n)
    where
      over : (y : ℕ) → s ≤ y → (y ≡ x) ⊎ Memᴰ y xs → z ≤ y
      over y u (inl e) = absurd (omega arith)
      over y u (inr n) = k y n u
  skipped h (nothing k) = nothing λ y n. over y (Memᴰ.cases_cons n)
    where
      over : (y : ℕ) → (y ≡ x) ⊎ Memᴰ y xs → y < s
      over y (inl e) = omega arith
      over y (inr n) = k y n

  taken : s ≤ x → {o : Option ℕ} → Least s xs o → Least s (x ∷ xs) (Some (or_less x o))
  taken h (least {x = z} m l k) = go (dec_le x z)
    where
      below : (w y : ℕ) → w ≤ x → w ≤ z → s ≤ y → (y ≡ x) ⊎ Memᴰ y xs → w ≤ y
      below w y a b u (inl e) = omega arith
      below w y a b u (inr n) = let q = k y n u in omega arith

      go : Dec (x ≤ z) → Least s (x ∷ xs) (Some (min x z))
      go (yes q) = let e : min x z ≡ x = omega arith in rw e (least {x = x} (Memᴰ.head refl) h λ y n u. below x y (omega arith) q u (Memᴰ.cases_cons n))
      go (no q) = let e : min x z ≡ z = omega arith in rw e (least {x = z} (Memᴰ.tail m) l λ y n u. below z y (omega arith) (omega arith) u (Memᴰ.cases_cons n))
  taken h (nothing k) = least {x = x} (Memᴰ.head refl) h λ y n u. over y u (Memᴰ.cases_cons n)
    where
      over : (y : ℕ) → s ≤ y → (y ≡ x) ⊎ Memᴰ y xs → x ≤ y
      over y u (inl e) = omega arith
      over y u (inr n) = absurd (let q = k y n in omega arith)

least-is : (s : ℕ) (xs : List ℕ) → Least s xs (least_from s xs)
unfolding least_from
least-is s [] = nothing λ y n. absurd (Memᴰ.not-nil n)
least-is s (x ∷ xs) = go (leb s x) refl (least-is s xs)
  where
    go : (b : Bool) → leb s x ≡ b → Least s xs (least_from s xs) → Least s (x ∷ xs) (if b then Some (or_less x (least_from s xs)) else least_from s xs)
    go true e l = taken s x xs (leb-true s x e) l
    go false e l = skipped s x xs (leb-false s x e) l

-- "the least listed station not below that one, or that there is none"
pub next-least : (r : Road) (s : ℕ) → Least s (stations r) (next_listed r s)
unfolding next_listed
next-least r s = least-is s (stations r)

-- ---- the ascending list has the same members
insert_has : (x : ℕ) (ys : List ℕ) (z : ℕ) → (z ≡ x) ⊎ Memᴰ z ys → Memᴰ z (insert x ys)
unfolding insert
insert_has x [] z (inl e) = Memᴰ.head e
insert_has x [] z (inr m) = absurd (Memᴰ.not-nil m)
insert_has x (y ∷ ys) z h = go (compare x y) refl h (λ k. insert_has x ys z k)
  where
    deep : (z ≡ y) ⊎ Memᴰ z ys → ((z ≡ x) ⊎ Memᴰ z ys → Memᴰ z (insert x ys)) → Memᴰ z (y ∷ insert x ys)
    deep (inl e) ih = Memᴰ.head e
    deep (inr m) ih = Memᴰ.tail (ih (inr m))

    go : (o : Ordering) → compare x y ≡ o → (z ≡ x) ⊎ Memᴰ z (y ∷ ys) → ((z ≡ x) ⊎ Memᴰ z ys → Memᴰ z (insert x ys)) → Memᴰ z (elim o [ Ordering.lt ↦ x ∷ y ∷ ys | Ordering.eq ↦ y ∷ ys | Ordering.gt ↦ y ∷ insert x ys ])
    go Ordering.lt e (inl q) ih = Memᴰ.head q
    go Ordering.lt e (inr m) ih = Memᴰ.tail m
    go Ordering.eq e (inl q) ih = Memᴰ.head (q ∙ equal x y e)
    go Ordering.eq e (inr m) ih = m
    go Ordering.gt e (inl q) ih = Memᴰ.tail (ih (inl q))
    go Ordering.gt e (inr m) ih = deep (Memᴰ.cases_cons m) ih

insert-from : (x : ℕ) (ys : List ℕ) (z : ℕ) → Memᴰ z (insert x ys) → Memᴰ z (x ∷ ys)
unfolding insert
insert-from x [] z m = m
insert-from x (y ∷ ys) z m = go (compare x y) m (λ k. insert-from x ys z k)
  where
    swap : (z ≡ x) ⊎ Memᴰ z ys → Memᴰ z (x ∷ y ∷ ys)
    swap (inl e) = Memᴰ.head e
    swap (inr m) = Memᴰ.tail (Memᴰ.tail m)

    deep : (z ≡ y) ⊎ Memᴰ z (insert x ys) → (Memᴰ z (insert x ys) → Memᴰ z (x ∷ ys)) → Memᴰ z (x ∷ y ∷ ys)
    deep (inl e) ih = Memᴰ.tail (Memᴰ.head e)
    deep (inr m) ih = swap (Memᴰ.cases_cons (ih m))

    go : (o : Ordering) → Memᴰ z (elim o [ Ordering.lt ↦ x ∷ y ∷ ys | Ordering.eq ↦ y ∷ ys | Ordering.gt ↦ y ∷ insert x ys ]) → (Memᴰ z (insert x ys) → Memᴰ z (x ∷ ys)) → Memᴰ z (x ∷ y ∷ ys)
    go Ordering.lt m ih = m
    go Ordering.eq m ih = Memᴰ.tail m
    go Ordering.gt m ih = deep (Memᴰ.cases_cons m) ih

ascending_has : (xs : List ℕ) (z : ℕ) → Memᴰ z xs → Memᴰ z (ascending xs)
unfolding ascending
ascending_has [] z m = m
ascending_has (x ∷ xs) z m = insert_has x (ascending xs) z (go (Memᴰ.cases_cons m) (λ k. ascending_has xs z k))
  where
    go : (z ≡ x) ⊎ Memᴰ z xs → (Memᴰ z xs → Memᴰ z (ascending xs)) → (z ≡ x) ⊎ Memᴰ z (ascending xs)
    go (inl e) ih = inl e
    go (inr m) ih = inr (ih m)

ascending-from : (xs : List ℕ) (z : ℕ) → Memᴰ z (ascending xs) → Memᴰ z xs
unfolding ascending
ascending-from [] z m = m
ascending-from (x ∷ xs) z m = go (Memᴰ.cases_cons (insert-from x (ascending xs) z m)) (λ k. ascending-from xs z k)
  where
    go : (z ≡ x) ⊎ Memᴰ z (ascending xs) → (Memᴰ z (ascending xs) → Memᴰ z xs) → Memᴰ z (x ∷ xs)
    go (inl e) ih = Memᴰ.head e
    go (inr m) ih = Memᴰ.tail (ih m)

pub listed_has : (r : Road) (x : ℕ) → Memᴰ x (stations r) → Memᴰ x (listed r)
unfolding listed
listed_has r x m = ascending_has (stations r) x m

pub listed-from : (r : Road) (x : ℕ) → Memᴰ x (listed r) → Memᴰ x (stations r)
unfolding listed
listed-from r x m = ascending-from (stations r) x m
