-- The road is had back from its alignment: what a caller knows of a file that was read. Assumes nothing.
use Rattle.std.specs.Prelude.{◌≡◌, refl, List, ℕ, ◌-◌, length, take, replicate, Ok, Err}
use Rattle.std.proofs.Common.{sym, ap, ap₂, ◌∙◌}
use Rattle.std.proofs.Math.Seq.{take-append_seam}
use Rattle.file_numbers.specs.Reading.{Got, got, refused}
use Rattle.road.specs.File.{Road, read}
use Rattle.road.specs.Faults.{fault_number, of_result, of_got}
use Rattle.road.specs.Held.{padded, held, road_in, Counted}
use Rattle.road.specs.declared.refusal.Refusal.{Refusal}
use Rattle.laws_of_acceptance.specs.Ranged.{read_range}
use Rattle.alignment.specs.Within.{read-ends}

-- the list is had back from its array and its length
take-padded : {A : Type 0} (n : ℕ) (d : A) (xs : List A) → take (length xs) (padded n d xs) ≡ xs
unfolding padded
take-padded n d xs = take-append_seam xs (replicate (n - length xs) d)

pub road_back : (r : Road) → road_in (held r) ≡ r
unfolding held
road_back r = simp take-padded

-- the counts of a file that was read are those that its arrays have places for
pub read-counted : (s : List ℕ) (r : Road) (next : ℕ) → read s ≡ got r next → Counted (held r)
unfolding held
read-counted s r next e =
    let range = read_range s r next e in
    record { plan = range.plan.count.high; profile = range.profile.tangents.count.high; points = range.points.count.high }

-- what a caller of `read` knows of a file that was read
pub record WasRead (s : List ℕ) (road : Road) : Type 0 where
  pub reads : read s ≡ got road (length s)
  pub counted : Counted (held road)

-- a file that was read, and one that was refused
module _ (s : List ℕ) where
  pub was_read : (road : Road) → of_result {A = Road} (Ok road) ≡ of_got (read s) → WasRead s road
  was_read road answer = go (read s) refl
    where
      go : (g : Got Road) → read s ≡ g → WasRead s road
      go (got r n) e =
          let same : of_result {A = Road} (Ok road) ≡ of_got (got r n) = answer ∙ ap of_got e in
          let is : road ≡ r = cc in
          let reads : read s ≡ got road (length s) = e ∙ ap₂ (λ (x : Road) (m : ℕ). got x m) (sym is) (read-ends s r n e) in
          record { reads = reads; counted = read-counted s road (length s) reads }
      go (refused k p) e = let no : of_result {A = Road} (Ok road) ≡ of_got {A = Road} (refused k p) = answer ∙ ap of_got e in cc

  pub was-refused : (e : Refusal) → of_result {A = Road} (Err e) ≡ of_got (read s) → read s ≡ refused (fault_number e.fault) e.place
  was-refused e answer = go (read s) refl
    where
      go : (g : Got Road) → read s ≡ g → read s ≡ refused (fault_number e.fault) e.place
      go (got r n) h = let no : of_result {A = Road} (Err e) ≡ of_got (got r n) = answer ∙ ap of_got h in cc
      go (refused k p) h = let same : of_result {A = Road} (Err e) ≡ of_got {A = Road} (refused k p) = answer ∙ ap of_got h in let number : fault_number e.fault ≡ k = cc in let place : e.place ≡ p = cc in h ∙ ap₂ (λ (x y : ℕ). refused x y) (sym number) (sym place)
