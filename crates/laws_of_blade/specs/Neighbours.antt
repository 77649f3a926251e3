-- Document 01, "The blade over a whole run": which rows are neighbouring, and demand 3 between each two successive rows of the listing's run.
use Rattle.std.specs.Prelude.{◌≡◌, refl, ◌⊎◌, ◌↔◌, ℕ, zero, suc, ◌≤◌, ◌<◌, length, get_or}
use Rattle.std.proofs.Common.{sym, ◌∙◌, subst, subst₂, inl, inr, arith}
use Rattle.std.proofs.Math.Path.{ap}
use mathlib.Core.List.Memᴰ
use mathlib.Core.List.{List, [], ◌∷◌, map, Memᴰ}
use Rattle.std.proofs.Math.Decide.{dec_le}
use Rattle.std.proofs.lemmas.List.{length-map}
use Rattle.std.proofs.Math.ListN.{get_or-map}
use Rattle.file_numbers.specs.Reading.{got}
use Rattle.integers.specs.Fraction.{◌-ᶠ◌, size, ◌≤ᶠ◌}
use Rattle.road.specs.File.{Road}
use Rattle.road.specs.Exact.{Side, total, edge}
use Rattle.road.specs.Listed.{stations, listed}
use Rattle.road.specs.Rules.{accepted}
use Rattle.road.specs.Line.{line}
use Rattle.road.specs.Machine.{row, overwrite, trace}
use Rattle.road.specs.Blade.{Neighbouring, blade, bound}
use Rattle.road.specs.Demand.{Row, rows_of, printed_height, BladeClose}
use Rattle.road.specs.Listing.{listing_calls, listing_rows}
use Rattle.laws_of_acceptance.specs.Positive.{Accepted, accepted-road}
use Rattle.laws_of_search.specs.Members.{At, item_has, item_from}
use Rattle.laws_of_search.specs.Ascends.{Ascends, empty, step, ascending-ascends, ascends-low}
use Rattle.laws_of_stations.specs.Next.{listed_has}
use Rattle.laws_of_acceptance.specs.Ranges.{total-positive}
use Rattle.laws_of_stations.specs.Stations.{Named, zero_station, end-station, stations_has, listed_strictly}
use Rattle.laws_of_blade.specs.Demand.{demand_3}
use Rattle.laws_of_stations.specs.Visits.{row_at, overwrite-room, row_first}
use Rattle.laws_of_stations.specs.ListingRun.{listing-run}

-- "neighbouring where their stations a < b have no listed station strictly between them": that, and nothing else
pub neighbouring_iff : (r : Road) (a b : ℕ) → Neighbouring r a b ↔ ((a < b) × ((x : ℕ) → Memᴰ x (listed r) → a < x → x < b → ⊥))
neighbouring_iff r a b = (λ n. (n.before, n.free), λ h. record { before = h.0; free = h.1 })

-- ---- successive stations of the list

-- between two successive numbers of an ascending list it has none
ascends-between : {s : ℕ} {l : List ℕ} → Ascends s l → (i : ℕ) → suc i < length l → (x : ℕ) → Memᴰ x l → get_or l i 0 < x → x < get_or l (suc i) 0 → ⊥
ascends-between empty i h x m low high = omega arith
ascends-between (step l empty) i h x m low high = omega arith
ascends-between (step {x = y} l (step {x = z} {xs = zs} k a)) zero h x m low high = go (Memᴰ.cases_cons m)
  where
    go : (x ≡ y) ⊎ Memᴰ x (z ∷ zs) → ⊥
    go (inl e) = omega arith
    go (inr n) = let q = ascends-low (step {s = z} {x = z} (omega arith) a) n in omega arith
ascends-between (step {x = y} l (step {x = z} {xs = zs} k a)) (suc i) h x m low high = go (Memᴰ.cases_cons m) (λ n. ascends-between (step k a) i (omega arith) x n low high)
  where
    go : (x ≡ y) ⊎ Memᴰ x (z ∷ zs) → (Memᴰ x (z ∷ zs) → ⊥) → ⊥
    go (inl e) ih = let q = ascends-low (step k a) (item_has 0 (z ∷ zs) i (omega arith)) in omega arith
    go (inr n) ih = ih n

pub listed-neighbouring : (r : Road) (i : ℕ) → suc i < length (listed r) → Neighbouring r (get_or (listed r) i 0) (get_or (listed r) (suc i) 0)
unfolding listed
listed-neighbouring r i h = (neighbouring_iff r _ _).1 (listed_strictly r i h, ascends-between (ascending-ascends (stations r)) i h)

-- 0 and T are listed: two stations at least
pub two-listed : {r : Road} → Accepted r → 2 ≤ length (listed r)
two-listed {r} A = go (dec_le 2 (length (listed r)))
  where
    place : (x : ℕ) → Named r x → At 0 (listed r) x
    place x n = let s = A.ranges.head.step.low in item_from 0 (listed_has r x (stations_has r (omega arith) n))

    go : Dec (2 ≤ length (listed r)) → 2 ≤ length (listed r)
    go (yes y) = y
    go (no y) =
        let p = place 0 (zero_station refl) in
        let q = place (total r) (end-station refl) in
        let e : p.place ≡ q.place = omega (arith, p.within, q.within) in
        absurd (omega (arith, p.is ∙ ap (λ (k : ℕ). get_or (listed r) k 0) e ∙ sym q.is, total-positive A))

-- ---- successive rows of the listing's run

-- past the last row stands a row of nothing
abbrev pub blank_row : Row
blank_row = record { station = 0; bytes = [] }

-- row i of the listing's run
abbrev pub listing_row : (file buffer : List ℕ) → ℕ → Row
listing_row f b i = get_or (listing_rows f b) i blank_row

module _ (f b : List ℕ) (r : Road) (end : ℕ) (e : accepted f ≡ got r end) (room : 96 ≤ length b) where
  rows-listed : length (listing_rows f b) ≡ length (listed r)
  rows-listed = sym (length-map (listing_rows f b) (λ (a : Row). a.station)) ∙ ap length (listing-run f b r end e room)

  -- it has two rows at least
  pub two-rows : 2 ≤ length (listing_rows f b)
  two-rows = omega (arith, rows-listed, two-listed (accepted-road f r end e))

  module _ (i : ℕ) (h : suc i < length (listing_rows f b)) where
    abbrev a : Row
    a = listing_row f b i

    abbrev c : Row
    c = listing_row f b (suc i)

    at : (k : ℕ) → get_or (map (λ (a : Row). a.station) (listing_rows f b)) k 0 ≡ (listing_row f b k).station
    at k = get_or-map (λ (a : Row). a.station) (listing_rows f b) k blank_row

    -- each two successive ones are neighbouring
    pub rows-neighbouring : Neighbouring r a.station c.station
    rows-neighbouring =
        subst₂ (Neighbouring r) (at i) (at (suc i))
        (subst (λ (l : List ℕ). Neighbouring r (get_or l i 0) (get_or l (suc i) 0)) (sym (listing-run f b r end e room)) (listed-neighbouring r i (omega (arith, rows-listed))))

    -- and so demand 3 holds between them
    pub listing-blade : (d : Side) (x : ℕ) → a.station ≤ x → x ≤ c.station
        → size (blade (printed_height d a) (printed_height d c) a.station c.station x -ᶠ edge d r x) ≤ᶠ bound r a.station c.station
    unfolding BladeClose listing_rows
    listing-blade = demand_3 f b (listing_calls f) r end e a c (item_has blank_row (listing_rows f b) i (omega arith)) (item_has blank_row (listing_rows f b) (suc i) h) rows-neighbouring

  -- ---- two rows "at listed stations or not": any two stations with no listed one between them have neighbouring rows in a run

  module _ (a c : ℕ) (inside : c ≤ total r) (before : a < c) (free : (x : ℕ) → Memᴰ x (listed r) → a < x → x < c → ⊥) where
    asked : rows_of (row a ∷ row c ∷ []) (trace f b (row a ∷ row c ∷ [])) ≡ row_at r a ∷ row_at r c ∷ []
    unfolding rows_of
    asked =
        row_first f r end e a b (row c ∷ []) (omega arith) room
        ∙ ap (λ (l : List Row). row_at r a ∷ l) (row_first f r end e c (overwrite (line r a) b) [] inside (omega (arith, overwrite-room (line r a) b)))

    pub stations-blade : (d : Side) (x : ℕ) → a ≤ x → x ≤ c → size (blade (printed_height d (row_at r a)) (printed_height d (row_at r c)) a c x -ᶠ edge d r x) ≤ᶠ bound r a c
    unfolding BladeClose
    stations-blade =
        demand_3 f b (row a ∷ row c ∷ []) r end e (row_at r a) (row_at r c)
        (subst (Memᴰ (row_at r a)) (sym asked) (Memᴰ.head refl)) (subst (Memᴰ (row_at r c)) (sym asked) (Memᴰ.tail (Memᴰ.head refl)))
        ((neighbouring_iff r a c).1 (before, free))
