-- Reading on from where it stands: the laws by which the parts of the file are put together. Assumes nothing.
use Rattle.std.specs.Prelude.{◌≡◌, refl, List, ℕ, Result, Ok, Err}
use Rattle.std.proofs.Common.{ap, ◌∙◌}
use Rattle.file_numbers.specs.Reading.{Got, got, refused, and_then, Reading, ◌>>=◌, give}
use Rattle.reader.specs.Standing.{Standing}
use Rattle.road.specs.declared.refusal.Refusal.{Refusal}
use Rattle.fields.specs.Reads.{Reads}

-- nothing more is read
pub gives : {A : Type 0} {a : A} {at : Standing} → Reads (give a) at at (Ok a)
gives = record { bytes = refl; read = refl }

-- readings that agree at every place of the bytes
pub alike : {A : Type 0} {m n : Reading A} {before after : Standing} {result : Result A Refusal} → ((at : ℕ) → m before.bytes at ≡ n before.bytes at) → Reads m before after result → Reads n before after result
alike {before = before} same r = record { bytes = r.bytes; read = r.read ∙ same before.place }

module _ {A B : Type 0} {m : Reading A} (f : A → Reading B) where
  -- after a value, reading goes on with it
  pub chained : {before between after : Standing} {a : A} {result : Result B Refusal} → Reads m before between (Ok a) → Reads (f a) between after result → Reads (◌>>=◌ m f) before after result
  chained {before} {between} {a = a} first second = record {
    bytes = second.bytes ∙ first.bytes;
    read = second.read ∙ ap (λ (s : List ℕ). f a s between.place) first.bytes ∙ ap (λ (g : Got A). and_then g λ x next. f x before.bytes next) first.read;
  }

  -- a refusal stays
  pub stopped : {before after : Standing} {e : Refusal} → Reads m before after (Err e) → Reads (◌>>=◌ m f) before after (Err e)
  stopped {before} r = record { bytes = r.bytes; read = ap (λ (g : Got A). and_then g λ x next. f x before.bytes next) r.read }

-- two readings after a first, grouped the other way
module _ {A B C : Type 0} (m : Reading A) (f : A → Reading B) (g : B → Reading C) where
  pub regrouped : (s : List ℕ) (at : ℕ) → ◌>>=◌ (◌>>=◌ m f) g s at ≡ ◌>>=◌ m (λ a. ◌>>=◌ (f a) g) s at
  regrouped s at = go (m s at)
    where
      go : (x : Got A) → and_then (and_then x λ a n. f a s n) (λ b n. g b s n) ≡ and_then x λ a n. and_then (f a s n) λ b k. g b s k
      go (got a n) = refl
      go (refused k p) = refl

  pub grouped : {before after : Standing} {result : Result C Refusal} → Reads (◌>>=◌ (◌>>=◌ m f) g) before after result → Reads (◌>>=◌ m (λ a. ◌>>=◌ (f a) g)) before after result
  grouped {before} r = alike (regrouped before.bytes) r
