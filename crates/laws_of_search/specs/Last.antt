-- The last place that passes a test, and the last that begins at or before a station.
use Rattle.std.specs.Prelude.{◌≡◌, refl, ◌⊎◌, ℕ, zero, suc, ◌+◌, ◌-◌, ◌<◌, ◌≤◌, Bool, true, false, leb}
use Rattle.std.proofs.Common.{sym, ap, ◌∙◌, subst, ⊎_elim, inl, inr, arith, leb-true, leb-false, le-leb}
use Rattle.std.proofs.Math.Decide.{ℕ_discrete, dec_lt}
use Rattle.road.specs.Base.{last_that}
use Rattle.std.proofs.lemmas.Bool.{both_ways}

last_yes : (test : ℕ → Bool) (n : ℕ) → test n ≡ true → last_that test (suc n) ≡ n
unfolding last_that
last_yes test n p = rw (p, last_that)

last_no : (test : ℕ → Bool) (n : ℕ) → test n ≡ false → last_that test (suc n) ≡ last_that test n
unfolding last_that
last_no test n p = rw (p, last_that)

pub record LastAt (test : ℕ → Bool) (n i : ℕ) : Type 0 where
  pub below : i < n
  pub holds : test i ≡ true
  pub after : (j : ℕ) → i < j → j < n → test j ≡ false

-- where the first place passes
pub last-at : (test : ℕ → Bool) (n : ℕ) → 0 < n → test 0 ≡ true → LastAt test n (last_that test n)
last-at test zero h t = absurd (omega arith)
last-at test (suc n) h t = go (test n) refl (λ p. last-at test n p t)
  where
    later : (m : ℕ) → LastAt test n m → test n ≡ false → (j : ℕ) → m < j → j < suc n → Dec (j ≡ n) → test j ≡ false
    later m l q j a b (yes e) = ap test e ∙ q
    later m l q j a b (no ne) = l.after j a (omega (arith, ne))

    go : (b : Bool) → test n ≡ b → (0 < n → LastAt test n (last_that test n)) → LastAt test (suc n) (last_that test (suc n))
    go true q ih = subst (LastAt test (suc n)) (sym (last_yes test n q)) (record { below = omega arith; holds = q; after = λ j a b. absurd (omega arith) })
    go false q ih = down (ℕ_discrete n 0)
      where
        down : Dec (n ≡ 0) → LastAt test (suc n) (last_that test (suc n))
        down (yes e) = absurd (both_ways (test 0) (ap test (sym e) ∙ q) t)
        down (no ne) =
            let l = ih (omega (arith, ne)) in
            let low = l.below in
            subst (LastAt test (suc n)) (sym (last_no test n q)) (record { below = omega arith; holds = l.holds; after = λ j a b. later (last_that test n) l q j a b (ℕ_discrete j n) })

-- ---- of starts that do not descend
unfoldable pub Rising : (ℕ → ℕ) → ℕ → Type 0
Rising f n = (i : ℕ) → i < n → f i ≤ f (suc i)

pub rises : (f : ℕ → ℕ) (n i k : ℕ) → Rising f n → i + k ≤ n → f i ≤ f (i + k)
unfolding Rising
rises f n i zero m h = let e : f (i + 0) ≡ f i = ap f (omega arith) in omega arith
rises f n i (suc k) m h =
    let a = rises f n i k m (omega arith) in
    let b = m (i + k) (omega arith) in
    let e : f (i + suc k) ≡ f (suc (i + k)) = ap f (omega arith) in omega arith

pub rises_to : (f : ℕ → ℕ) (n i j : ℕ) → Rising f n → i ≤ j → j ≤ n → f i ≤ f j
rises_to f n i j m h l = subst (λ (k : ℕ). f i ≤ f k) (omega arith) (rises f n i (j - i) m (omega arith))

-- the last of n starts that is at or before s
pub record Begun (f : ℕ → ℕ) (n s i : ℕ) : Type 0 where
  pub below : i < n
  pub from : f i ≤ s
  pub next : suc i < n → s < f (suc i)

pub begun : (f : ℕ → ℕ) (n s : ℕ) → 0 < n → f 0 ≤ s → Begun f n s (last_that (λ i. leb (f i) s) n)
begun f n s h l =
    let k = last-at (λ i. leb (f i) s) n h (le-leb (f 0) s l) in
    record { below = k.below; from = leb-true _ s k.holds; next = λ u. leb-false _ s (k.after _ (omega arith) u) }

-- f n is where the last of them ends
begun_last : {f : ℕ → ℕ} {n s i : ℕ} → Begun f n s i → (s < f (suc i)) ⊎ (f n ≡ f (suc i))
begun_last {f} {n} {s} {i} b = go (dec_lt (suc i) n)
  where
    go : Dec (suc i < n) → (s < f (suc i)) ⊎ (f n ≡ f (suc i))
    go (yes y) = inl (b.next y)
    go (no y) = let p = b.below in inr (ap f (omega arith))

pub begun-before : {f : ℕ → ℕ} {n s i : ℕ} → Begun f n s i → s < f n → s < f (suc i)
begun-before b h = ⊎_elim (λ l. l) (λ e. omega arith) (begun_last b)

pub begun-upto : {f : ℕ → ℕ} {n s i : ℕ} → Begun f n s i → s ≤ f n → s ≤ f (suc i)
begun-upto b h = ⊎_elim (λ l. omega arith) (λ e. omega arith) (begun_last b)

pub begun-one : (f : ℕ → ℕ) (n s i j : ℕ) → Rising f n → Begun f n s i → Begun f n s j → i ≡ j
begun-one f n s i j m a b = go (dec_lt i j) (dec_lt j i)
  where
    apart : (i j : ℕ) → Begun f n s i → Begun f n s j → i < j → ⊥
    apart i j a b l =
        let u = a.next (let c = b.below in omega arith) in
        let v = rises_to f n (suc i) j m l (let c = b.below in omega arith) in
        let w = b.from in omega arith

    go : Dec (i < j) → Dec (j < i) → i ≡ j
    go (yes l) y = absurd (apart i j a b l)
    go (no l) (yes y) = absurd (apart j i b a y)
    go (no l) (no y) = omega arith
