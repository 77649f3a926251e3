-- The next listed station is the first of those that are not below s.
use Rattle.std.proofs.Common.{◌≡◌, sym, ap, ◌∙◌, subst, [], ℕ}
use Rattle.std.specs.Prelude.{None, Some}
use mathlib.Core.List.{Memᴰ}
use Rattle.road.specs.File.{Road}
use Rattle.road.specs.Listed.{stations, listed, next_listed}
use Rattle.road.specs.Line.{line}
use Rattle.laws_of_stations.specs.Next as next
use Rattle.laws_of_stations.specs.Next.{Least, least, next-least, listed_has, listed-from}
use Rattle.walk.specs.FittingRows.{nothing, rows_that_fit, chunk}
use Rattle.walk.specs.NotBelow.{from-none, from-same}
use Rattle.walk.specs.Parts.{fit_none}

module _ (r : Road) (s : ℕ) where
  pub record First (x : ℕ) : Type 0 where
    pub among : Memᴰ x (listed r)
    pub same : (room : ℕ) → chunk r s room ≡ chunk r x room

  first : {x : ℕ} → Least s (stations r) (Some x) → First x
  unfolding chunk
  first {x} (least m h k) = record {
    among = listed_has r x m;
    same = λ room. ap (rows_that_fit (line r) room) (from-same s x (listed r) h (λ z n. k z (listed-from r z n)));
  }

  none_is : Least s (stations r) None → (room : ℕ) → chunk r s room ≡ nothing []
  unfolding chunk
  none_is (next.nothing k) room = ap (rows_that_fit (line r) room) (from-none s (listed r) (λ z n. k z (listed-from r z n))) ∙ fit_none (line r) room

  pub next-first : {x : ℕ} → Some x ≡ next_listed r s → First x
  next-first e = first (subst (Least s (stations r)) (sym e) (next-least r s))

  pub next-none : None ≡ next_listed r s → (room : ℕ) → chunk r s room ≡ nothing []
  next-none e = none_is (subst (Least s (stations r)) (sym e) (next-least r s))
