-- A number's value that fits, or is refused. Assumes nothing.
use Rattle.std.specs.Prelude.{ℕ, ◌≡◌, refl, List, Result, Ok, Err, Bool, true, false, ◌&&◌, leb, if◌then◌else◌}
use Rattle.file_numbers.specs.Reading.{Got, got, refused, and_then}
use Rattle.file_numbers.specs.Number.{number}
use Rattle.reader.specs.Standing.{Standing}
use Rattle.road.specs.File.{fitting, field, choice}
use Rattle.road.specs.Faults.{fault_number, named}
use Rattle.road.specs.declared.refusal.Fault.{Fault}
use Rattle.road.specs.declared.refusal.Fault.TheVariants.{OutOfRange}
use Rattle.road.specs.declared.refusal.Refusal.{Refusal}
use Rattle.fields.specs.Reads.{Reads, saying, said_at, where_fits}
use Rattle.fields.specs.Onward.{alike}

module _ {A : Type 0} (says : ℕ → A) (fits : A → Bool) (fault : Fault) where
  pub fitted : {before after : Standing} {result : Result A Refusal}
      → Reads (saying (λ v. where_fits fits fault (says v))) before after result → Reads (λ s at. and_then (number s at) λ v next. fitting (fault_number fault) fits (says v) at s next) before after result
  unfolding fitting
  fitted {before} r = alike (λ at. go (number before.bytes at) before.bytes at) r
    where
      go : (g : Got ℕ) (s : List ℕ) (at : ℕ) → and_then g (λ v next. said_at at next (where_fits fits fault (says v))) ≡ and_then g (λ v next. fitting (fault_number fault) fits (says v) at s next)
      go (got v next) s at = one (fits (says v))
        where
          one : (t : Bool) → said_at at next (if t then Ok (says v) else Err fault) ≡ (if t then got (says v) next else refused (fault_number fault) at)
          one true = refl
          one false = refl
      go (refused k p) s at = refl

-- a number from low to high that names something
module _ {A : Type 0} (low high : ℕ) (of : ℕ → A) where
  pub chosen : {before after : Standing} {result : Result A Refusal} → Reads (saying (named low high of)) before after result → Reads (choice low high of) before after result
  unfolding choice field fitting
  chosen {before} r = alike (λ at. go (number before.bytes at) before.bytes at) r
    where
      go : (g : Got ℕ) (s : List ℕ) (at : ℕ) → and_then g (λ v next. said_at at next (named low high of v)) ≡ and_then (and_then g (λ v next. if leb low v && leb v high then got v next else refused 3 at)) (λ v next. got (of v) next)
      go (got v next) s at = one (leb low v && leb v high)
        where
          one : (t : Bool) → said_at at next (if t then Ok (of v) else Err OutOfRange) ≡ and_then (if t then got v next else refused 3 at) (λ v next. got (of v) next)
          one true = refl
          one false = refl
      go (refused k p) s at = refl
