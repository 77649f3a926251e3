-- Members of the lists that the definitions build: counted numbers, items by their place, and joined lists.
use Rattle.std.specs.Prelude.{◌≡◌, refl, ◌⊎◌, ℕ, zero, suc, ◌+◌, ◌≤◌, ◌<◌, length, get_or}
use Rattle.std.proofs.Common.{subst, inl, inr, arith}
use mathlib.Core.List.Memᴰ
use mathlib.Core.List.{List, [], ◌∷◌, Memᴰ}
use Rattle.std.proofs.Math.Decide.{ℕ_discrete}
use Rattle.road.specs.Base.{count_from, joined}
use Rattle.laws_of_lists.specs.All.{All}
use Rattle.laws_of_lists.specs.All as all

-- i, i + 1, .. , i + n - 1
counted_has : (k n i : ℕ) → k ≤ i → i < k + n → Memᴰ i (count_from k n)
unfolding count_from
counted_has k zero i l u = absurd (omega arith)
counted_has k (suc n) i l u = go (ℕ_discrete i k) (λ l u. counted_has (suc k) n i l u)
  where
    go : Dec (i ≡ k) → (suc k ≤ i → i < suc k + n → Memᴰ i (count_from (suc k) n)) → Memᴰ i (k ∷ count_from (suc k) n)
    go (yes e) ih = Memᴰ.head e
    go (no e) ih = Memᴰ.tail (ih (omega (arith, e)) (omega arith))

counted-from : (k n i : ℕ) → Memᴰ i (count_from k n) → (k ≤ i) × (i < k + n)
unfolding count_from
counted-from k zero i m = absurd (Memᴰ.not-nil m)
counted-from k (suc n) i m = go (Memᴰ.cases_cons m) (λ m. counted-from (suc k) n i m)
  where
    go : (i ≡ k) ⊎ Memᴰ i (count_from (suc k) n) → (Memᴰ i (count_from (suc k) n) → (suc k ≤ i) × (i < suc k + n)) → (k ≤ i) × (i < k + suc n)
    go (inl e) ih = omega arith
    go (inr m) ih = let h = ih m in omega arith

-- 0, 1, .. , n - 1
pub below_has : {n i : ℕ} → i < n → Memᴰ i (count_from 0 n)
below_has {n} {i} h = counted_has 0 n i (omega arith) (omega arith)

pub below-from : {n i : ℕ} → Memᴰ i (count_from 0 n) → i < n
below-from {n} {i} m = let h = counted-from 0 n i m in omega arith

-- an item by its place
pub item_has : {A : Type 0} (d : A) (l : List A) (i : ℕ) → i < length l → Memᴰ (get_or l i d) l
item_has d [] i h = absurd (omega arith)
item_has d (a ∷ l) zero h = Memᴰ.head refl
item_has d (a ∷ l) (suc i) h = Memᴰ.tail (item_has d l i (omega arith))

pub record At {A : Type 0} (d : A) (l : List A) (a : A) : Type 0 where
  pub place : ℕ
  pub within : place < length l
  pub is : a ≡ get_or l place d

pub item_from : {A : Type 0} (d : A) {a : A} {l : List A} → Memᴰ a l → At d l a
item_from d (Memᴰ.head e) = record { place = 0; within = omega arith; is = e }
item_from d (Memᴰ.tail m) = let t = item_from d m in let h = t.within in record { place = suc t.place; within = omega arith; is = t.is }

-- what each item gives, one behind another
pub joined_has : {A : Type 0} (f : A → List ℕ) {a : A} {l : List A} {x : ℕ} → Memᴰ a l → Memᴰ x (f a) → Memᴰ x (joined f l)
unfolding joined
joined_has f {l = []} n m = elim n [ ]
joined_has f {a = a} {l = b ∷ l} {x = x} (Memᴰ.head e) m = Memᴰ.append_left (joined f l) (subst (λ (c : _). Memᴰ x (f c)) e m)
joined_has f {l = b ∷ l} (Memᴰ.tail n) m = Memᴰ.append_right (f b) (joined_has f n m)

pub record Gives {A : Type 0} (f : A → List ℕ) (l : List A) (x : ℕ) : Type 0 where
  pub item : A
  pub among : Memᴰ item l
  pub given : Memᴰ x (f item)

pub joined-from : {A : Type 0} (f : A → List ℕ) (l : List A) {x : ℕ} → Memᴰ x (joined f l) → Gives f l x
unfolding joined
joined-from f [] m = absurd (Memᴰ.not-nil m)
joined-from f (a ∷ l) {x} m = go (Memᴰ.append_cases (f a) m) (λ n. joined-from f l n)
  where
    go : Memᴰ x (f a) ⊎ Memᴰ x (joined f l) → (Memᴰ x (joined f l) → Gives f l x) → Gives f (a ∷ l) x
    go (inl n) ih = record { item = a; among = Memᴰ.head refl; given = n }
    go (inr n) ih = let g = ih n in record { item = g.item; among = Memᴰ.tail g.among; given = g.given }

-- what holds of every member
pub all_members : {P : ℕ → Type 0} (l : List ℕ) → ((x : ℕ) → Memᴰ x l → P x) → All P l
all_members [] h = all.none
all_members (x ∷ l) h = all.more (h x (Memᴰ.head refl)) (all_members l (λ y m. h y (Memᴰ.tail m)))
