-- A search for the least of some stations that is not below one, a station at a time.
use Rattle.std.specs.Prelude.{◌≡◌, refl, List, [], ◌∷◌, ◌++◌, ℕ, ◌<◌, ◌≤◌, min, Option, None, Some}
use Rattle.std.proofs.Common.{ap, ◌∙◌, arith, le-leb}
use Rattle.std.proofs.Math.Decide.{dec_le}
use Rattle.std.proofs.lemmas.Bool.{lt-leb}
use Rattle.road.specs.Listed.{counted, least_from}
use Rattle.laws_of_search.specs.Searches.{counted_swap}
use Rattle.next_listed.specs.declared.Search.{Search}

-- the least of o and of xs
abbrev pub added : ℕ → List ℕ → Option ℕ → Option ℕ
added s [] o = o
added s (x ∷ xs) o = added s xs (counted s x o)

-- a search after more stations
abbrev pub after : List ℕ → Search → Search
after xs q = record { from = q.from; least = added q.from xs q.least }

-- ---- one station

-- a station below s does not count
pub not_counted : (s x : ℕ) (o : Option ℕ) → x < s → counted s x o ≡ o
not_counted s x o h = rw (lt-leb s x h)

-- nor does one beyond a station that counts
pub absorbed : (s m x : ℕ) (o : Option ℕ) → s ≤ m → m ≤ x → counted s x (counted s m o) ≡ counted s m o
absorbed s m x None h l = let e : min x m ≡ m = omega arith in rw (le-leb s m h, le-leb s x (omega arith), e)
absorbed s m x (Some y) h l = let e : min x (min m y) ≡ min m y = omega arith in rw (le-leb s m h, le-leb s x (omega arith), e)

pub counted_twice : (s x : ℕ) (o : Option ℕ) → counted s x (counted s x o) ≡ counted s x o
counted_twice s x o = go (dec_le s x)
  where
    go : Dec (s ≤ x) → counted s x (counted s x o) ≡ counted s x o
    go (yes h) = absorbed s x x o h (omega arith)
    go (no h) = not_counted s x (counted s x o) (omega arith)

-- ---- stations one behind another

pub added-append : (s : ℕ) (xs ys : List ℕ) (o : Option ℕ) → added s (xs ++ ys) o ≡ added s ys (added s xs o)
added-append s [] ys o = refl
added-append s (x ∷ xs) ys o = added-append s xs ys (counted s x o)

pub after-append : (xs ys : List ℕ) (q : Search) → after (xs ++ ys) q ≡ after ys (after xs q)
after-append xs ys q = ap (λ (o : Option ℕ). record { from = q.from; least = o }) (added-append q.from xs ys q.least)

-- what is counted first may be counted last
counted_last : (s x : ℕ) (xs : List ℕ) (o : Option ℕ) → added s xs (counted s x o) ≡ counted s x (added s xs o)
counted_last s x [] o = refl
counted_last s x (y ∷ ys) o = ap (added s ys) (counted_swap s y x o) ∙ counted_last s x ys (counted s y o)

pub added-none : (s : ℕ) (xs : List ℕ) → added s xs None ≡ least_from s xs
unfolding least_from
added-none s [] = refl
added-none s (x ∷ xs) = counted_last s x xs None ∙ ap (counted s x) (added-none s xs)
