-- The list of a road's listed stations: ascending, from 0 to T, and its rows fit.
use Rattle.std.specs.Prelude.{◌≡◌, refl, ◌⊎◌, ℕ, ◌≤◌, ◌<◌, length}
use Rattle.std.proofs.Common.{inl, inr, arith}
use mathlib.Core.List.Memᴰ
use mathlib.Core.List.{List, [], Memᴰ}
use Rattle.road.specs.File.{Road}
use Rattle.road.specs.Exact.{total}
use Rattle.road.specs.Listed.{stations, listed}
use Rattle.road.specs.Line.{line}
use Rattle.laws_of_lists.specs.All.{All}
use Rattle.laws_of_lists.specs.All as all
use Rattle.laws_of_search.specs.Ascends.{Ascends, ascending-ascends}
use Rattle.laws_of_stations.specs.Next.{listed-from}
use Rattle.laws_of_stations.specs.Stations.{stations-inside}
use Rattle.laws_of_acceptance.specs.Guaranteed.{Guaranteed}
use Rattle.laws_of_lines.specs.Fits.{line-fits}
use Rattle.walk.specs.FittingRows.{not_below, rows_that_fit, chunk}
use Rattle.walk.specs.NotBelow.{from-none, from_member}
use Rattle.walk.specs.Parts.{fit_room}

member_has : {P : ℕ → Type 0} {l : List ℕ} {z : ℕ} → All P l → Memᴰ z l → P z
member_has all.none m = absurd (Memᴰ.not-nil m)
member_has {P} {z = z} (all.more {a = x} {l = l} p a) m = go (Memᴰ.cases_cons m) (λ n. member_has a n)
  where
    go : (z ≡ x) ⊎ Memᴰ z l → (Memᴰ z l → P z) → P z
    go (inl e) ih = rw e p
    go (inr n) ih = ih n

pub listed-ascends : (r : Road) → Ascends 0 (listed r)
unfolding listed
listed-ascends r = ascending-ascends (stations r)

pub chunk-is : (r : Road) (s room : ℕ) → chunk r s room ≡ rows_that_fit (line r) room (not_below s (listed r))
unfolding chunk
chunk-is r s room = refl

module _ {r : Road} (G : Guaranteed r) where
  pub listed-inside : {z : ℕ} → Memᴰ z (listed r) → z ≤ total r
  listed-inside {z} m = member_has (stations-inside G.facts_of (let s = G.step.low in omega arith)) (listed-from r z m)

  -- beyond T none remains
  pub none-listed : (s : ℕ) → total r < s → not_below s (listed r) ≡ []
  none-listed s h = from-none s (listed r) (λ z m. let l = listed-inside m in omega arith)

  -- a chunk fits its buffer
  pub chunk-fits : (s room : ℕ) → length (chunk r s room).text ≤ room
  unfolding chunk
  chunk-fits s room = fit_room (line r) room (not_below s (listed r)) (λ z m. line-fits G.accepted_as z (listed-inside (from_member s (listed r) m).among))
