-- The listing program's run: of the machine, of what was seen after its calls, and of a recorded run.
use mathlib.Core.Path.{◌≡◌, refl, sym, ap, ◌∙◌}
use mathlib.Core.List.Memᴰ
use mathlib.Core.List.{List, [], ◌∷◌, ◌++◌, Memᴰ}
use mathlib.Core.Logic.{◌⊎◌, inl, inr}
use Prim.Native.Nat.{ℕ, suc, ◌≤◌}
use native.Mathlib.Omega.{arith}
use lib.ListN.{length}
use Rattle.file_numbers.specs.Reading.{got}
use Rattle.road.specs.File.{Road}
use Rattle.road.specs.Exact.{total}
use Rattle.road.specs.Listed.{stations, listed}
use Rattle.road.specs.Rules.{accepted}
use Rattle.road.specs.Machine.{After, trace}
use Rattle.road.specs.Demand.{rows_of}
use Rattle.road.specs.Listing.{listing_calls, listing_rows}
use Rattle.laws_of_acceptance.specs.Positive.{accepted-road, facts}
use Rattle.laws_of_lists.specs.All.{All}
use Rattle.laws_of_lists.specs.All as all
use Rattle.laws_of_stations.specs.Stations.{stations-inside}
use Rattle.laws_of_search.specs.Ascends.{Ascends, empty, ascending-ascends, ascending-all}
use Rattle.laws_of_search.specs.Ascends as A
use Rattle.laws_of_stations.specs.Next.{listed_has}
use Rattle.laws_of_stations.specs.ListingRun.{listing-run}
use Rattle.laws_of_stations.specs.Visits.{listing-rows}
use Rattle.runs.specs.Calls.{run_of}
use Rattle.runs.specs.Recorded.{Recorded}
use Rattle.runs.specs.Listing.{ListingRows, ListingRecorded}
use Rattle.runs.specs.declared.Call.{Call}
use Rattle.runs.specs.declared.Answer.{Answer}

-- ---- an ascending list has its least number first and its greatest last

above : {s : ℕ} {xs : List ℕ} (y : ℕ) → Ascends s xs → Memᴰ y xs → s ≤ y
above y empty m = absurd (Memᴰ.not-nil m)
above {s} {xs = x ∷ xs} y (A.step l a) m = go (Memᴰ.cases_cons m) (λ k. above y a k)
  where
    go : (y ≡ x) ⊎ Memᴰ y xs → (Memᴰ y xs → suc x ≤ y) → s ≤ y
    go (inl e) ih = omega arith
    go (inr k) ih = omega (arith, ih k)

record First (x : ℕ) (xs : List ℕ) : Type 0 where
  pub rest : List ℕ
  pub is : xs ≡ x ∷ rest

least_first : (s : ℕ) (xs : List ℕ) → Ascends s xs → Memᴰ s xs → First s xs
least_first s [] a m = absurd (Memᴰ.not-nil m)
least_first s (x ∷ xs) (A.step l a) m = go (Memᴰ.cases_cons m)
  where
    go : (s ≡ x) ⊎ Memᴰ s xs → First s (x ∷ xs)
    go (inl e) = record { rest = xs; is = ap (λ (y : ℕ). y ∷ xs) (sym e) }
    go (inr k) = absurd (omega (arith, above s a k))

record Last (x : ℕ) (xs : List ℕ) : Type 0 where
  pub front : List ℕ
  pub is : xs ≡ front ++ (x ∷ [])

greatest-last : {s : ℕ} (t : ℕ) {xs : List ℕ} → Ascends s xs → All (λ y. y ≤ t) xs → Memᴰ t xs → Last t xs
greatest-last t empty all.none m = absurd (Memᴰ.not-nil m)
greatest-last t {xs = x ∷ xs} (A.step l a) (all.more w v) m = go (Memᴰ.cases_cons m) (λ k. greatest-last t a v k)
  where
    none_after : {zs : List ℕ} → Ascends (suc t) zs → All (λ y. y ≤ t) zs → zs ≡ []
    none_after empty all.none = refl
    none_after {zs = z ∷ zs} (A.step l a) (all.more w v) = absurd (omega arith)

    go : (t ≡ x) ⊎ Memᴰ t xs → (Memᴰ t xs → Last t xs) → Last t (x ∷ xs)
    go (inl e) ih = record { front = []; is = rw (sym e, none_after (rw (sym e) at a) v) }
    go (inr k) ih = record { front = x ∷ (ih k).front; is = ap (λ (l : List ℕ). x ∷ l) (ih k).is }

-- ---- the listing's run

-- of the machine
listing_machine : (f b : List ℕ) (r : Road) (end : ℕ) → accepted f ≡ got r end → 96 ≤ length b → ListingRows r (listing_rows f b)
unfolding listed stations
listing_machine f b r end e room =
    let a = accepted-road f r end e in
    let step = a.ranges.head.step.low in
    let inside = stations-inside (facts a) (omega arith) in
    let ascends = ascending-ascends (stations r) in
    let zero-first = least_first 0 (listed r) ascends (listed_has r 0 (Memᴰ.head refl)) in
    let total-last = greatest-last (total r) ascends (ascending-all inside) (listed_has r (total r) (Memᴰ.tail (Memᴰ.head refl))) in
    record {
      stations_are = listing-run f b r end e room;
      lines_are = listing-rows f r end e inside b room;
      after_first = zero-first.rest;
      first = zero-first.is;
      before_last = total-last.front;
      last = total-last.is;
    }

-- of what was seen after each of the listing's calls, where that is the machine's run
pub listing-seen : (f b : List ℕ) {ts : List After} → ts ≡ trace f b (listing_calls f) → (r : Road) (end : ℕ) → accepted f ≡ got r end → 96 ≤ length b
    → ListingRows r (rows_of (listing_calls f) ts)
unfolding listing_rows
listing-seen f b e r end g room = rw e (listing_machine f b r end g room)

-- of a recorded run
pub listing-recorded : {f b : List ℕ} {calls : List Call} {b' : List ℕ} {xs : List Answer} {fs : List ℕ} → Recorded f b calls b' xs fs → ListingRecorded f b calls xs fs
unfolding ListingRecorded run_of
listing-recorded {f} {b} r calls road end g room =
    rw calls (listing-seen f b (r.seen ∙ ap (trace f b) calls) road end g room)
