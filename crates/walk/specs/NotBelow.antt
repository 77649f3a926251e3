-- The numbers of a list that are not below s.
use Rattle.std.specs.Prelude.{◌≡◌, refl, ◌⊎◌, ℕ, suc, ◌≤◌, ◌<◌}
use Rattle.std.proofs.Common.{ap, ◌∙◌, inl, inr, arith, le-leb}
use mathlib.Core.List.Memᴰ
use mathlib.Core.List.{List, [], ◌∷◌, Memᴰ}
use Rattle.std.proofs.Math.Decide.{dec_le}
use Rattle.std.proofs.lemmas.Bool.{lt-leb}
use Rattle.laws_of_search.specs.Ascends.{Ascends, empty, step, ascends-low}
use Rattle.walk.specs.FittingRows.{not_below}

pub kept : (s x : ℕ) (xs : List ℕ) → s ≤ x → not_below s (x ∷ xs) ≡ x ∷ not_below s xs
unfolding not_below
kept s x xs h = rw (le-leb s x h)

pub dropped : (s x : ℕ) (xs : List ℕ) → x < s → not_below s (x ∷ xs) ≡ not_below s xs
unfolding not_below
dropped s x xs h = rw (lt-leb s x h)

pub none_remains : (s : ℕ) → not_below s [] ≡ []
unfolding not_below
none_remains s = refl

-- ---- members
pub record NotBelow (s : ℕ) (l : List ℕ) (z : ℕ) : Type 0 where
  pub among : Memᴰ z l
  pub from : s ≤ z

module _ (s : ℕ) where
  pub from_member : (l : List ℕ) {z : ℕ} → Memᴰ z (not_below s l) → NotBelow s l z
  from_member [] m = absurd (Memᴰ.not-nil (rw (none_remains s) at m))
  from_member (x ∷ xs) {z} m = go (dec_le s x) m (λ n. from_member xs n)
    where
      behind : NotBelow s xs z → NotBelow s (x ∷ xs) z
      behind n = record { among = Memᴰ.tail n.among; from = n.from }

      first : s ≤ x → (z ≡ x) ⊎ Memᴰ z (not_below s xs) → (Memᴰ z (not_below s xs) → NotBelow s xs z) → NotBelow s (x ∷ xs) z
      first k (inl e) ih = record { among = Memᴰ.head e; from = omega arith }
      first k (inr n) ih = behind (ih n)

      go : Dec (s ≤ x) → Memᴰ z (not_below s (x ∷ xs)) → (Memᴰ z (not_below s xs) → NotBelow s xs z) → NotBelow s (x ∷ xs) z
      go (yes k) m ih = first k (Memᴰ.cases_cons (rw (kept s x xs k) at m)) ih
      go (no k) m ih = behind (ih (rw (dropped s x xs (omega arith)) at m))

  -- none, where all are below
  pub from-none : (l : List ℕ) → ((z : ℕ) → Memᴰ z l → z < s) → not_below s l ≡ []
  from-none [] h = none_remains s
  from-none (x ∷ xs) h = dropped s x xs (h x (Memᴰ.head refl)) ∙ from-none xs (λ z m. h z (Memᴰ.tail m))

  -- all, where none is below
  pub from_all : (l : List ℕ) → ((z : ℕ) → Memᴰ z l → s ≤ z) → not_below s l ≡ l
  from_all [] h = none_remains s
  from_all (x ∷ xs) h = kept s x xs (h x (Memᴰ.head refl)) ∙ ap (λ (l : List ℕ). x ∷ l) (from_all xs (λ z m. h z (Memᴰ.tail m)))

-- from t on is the same as from s on, where none is from s to below t
pub from-same : (s t : ℕ) (l : List ℕ) → s ≤ t → ((z : ℕ) → Memᴰ z l → s ≤ z → t ≤ z) → not_below s l ≡ not_below t l
unfolding not_below
from-same s t [] h n = refl
from-same s t (x ∷ xs) h n = go (dec_le s x) (from-same s t xs h (λ z m. n z (Memᴰ.tail m)))
  where
    go : Dec (s ≤ x) → not_below s xs ≡ not_below t xs → not_below s (x ∷ xs) ≡ not_below t (x ∷ xs)
    go (yes k) ih = let l : t ≤ x = n x (Memᴰ.head refl) k in rw (kept s x xs k, kept t x xs l) (ap (λ (l : List ℕ). x ∷ l) ih)
    go (no k) ih = rw (dropped s x xs (omega arith), dropped t x xs (omega arith)) ih

pub from-from : (s t : ℕ) (l : List ℕ) → s ≤ t → not_below t (not_below s l) ≡ not_below t l
unfolding not_below
from-from s t [] h = refl
from-from s t (x ∷ xs) h = go (dec_le s x) (dec_le t x) (from-from s t xs h)
  where
    go : Dec (s ≤ x) → Dec (t ≤ x) → not_below t (not_below s xs) ≡ not_below t xs → not_below t (not_below s (x ∷ xs)) ≡ not_below t (x ∷ xs)
    go (yes k) (yes l) ih = rw (kept s x xs k, kept t x xs l, kept t x (not_below s xs) l) (ap (λ (l : List ℕ). x ∷ l) ih)
    go (yes k) (no l) ih = rw (kept s x xs k, dropped t x xs (omega arith), dropped t x (not_below s xs) (omega arith)) ih
    go (no k) l ih = rw (dropped s x xs (omega arith), dropped t x xs (omega arith)) ih

-- ---- of an ascending list
pub from-ascends : {k : ℕ} (s : ℕ) {l : List ℕ} → Ascends k l → Ascends s (not_below s l)
unfolding not_below
from-ascends s empty = empty
from-ascends s (step {x = x} {xs = xs} h a) = go (dec_le s x) (from-ascends s a)
  where
    go : Dec (s ≤ x) → Ascends s (not_below s xs) → Ascends s (not_below s (x ∷ xs))
    go (yes k) ih = let e : not_below s xs ≡ xs = from_all s xs (λ z m. let l = ascends-low a m in omega arith) in rw (kept s x xs k, e) (step k a)
    go (no k) ih = rw (dropped s x xs (omega arith)) ih

-- a member comes first of those from it on
pub from_first : {k : ℕ} {l : List ℕ} {x : ℕ} → Ascends k l → Memᴰ x l → not_below x l ≡ x ∷ not_below (suc x) l
from_first empty m = absurd (Memᴰ.not-nil m)
from_first {x = x} (step {x = y} {xs = ys} h a) m = go (Memᴰ.cases_cons m) (λ n. from_first a n)
  where
    go : (x ≡ y) ⊎ Memᴰ x ys → (Memᴰ x ys → not_below x ys ≡ x ∷ not_below (suc x) ys) → not_below x (y ∷ ys) ≡ x ∷ not_below (suc x) (y ∷ ys)
    go (inl e) ih =
        let s : not_below x ys ≡ not_below (suc x) ys = from-same x (suc x) ys (omega arith) (λ z n l. let k = ascends-low a n in omega arith) in
        rw (kept x y ys (omega arith), dropped (suc x) y ys (omega arith), s, ← e)
    go (inr n) ih = let l = ascends-low a n in rw (dropped x y ys (omega arith), dropped (suc x) y ys (omega arith)) (ih n)
