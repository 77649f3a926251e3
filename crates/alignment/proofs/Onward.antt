-- What is still to be read of a whole, from where reading stands: the laws by which a function that reads part after part keeps count. Assumes nothing.
use Rattle.std.specs.Prelude.{◌≡◌, refl, List, ℕ, Result, Ok, Err}
use Rattle.std.proofs.Common.{sym, ap, ◌∙◌}
use Rattle.file_numbers.specs.Reading.{Got, and_then, Reading, ◌>>=◌}
use Rattle.reader.specs.Standing.{Standing}
use Rattle.road.specs.declared.refusal.Refusal.{Refusal}
use Rattle.fields.specs.Reads.{Reads}
use Rattle.fields.specs.Onward.{stopped}

-- reading the whole from where it began is reading the rest from where it stands
pub record Left {A : Type 0} (whole : Reading A) (first : Standing) (rest : Reading A) (now : Standing) : Type 0 where
  pub bytes : now.bytes ≡ first.bytes
  pub same : rest now.bytes now.place ≡ whole first.bytes first.place

module _ {A : Type 0} {whole : Reading A} {first : Standing} where
  pub all : Left whole first whole first
  all = record { bytes = refl; same = refl }

  -- what the rest gives, the whole gives
  pub ends : {rest : Reading A} {now after : Standing} {result : Result A Refusal} → Left whole first rest now → Reads rest now after result → Reads whole first after result
  ends l r = record { bytes = r.bytes ∙ l.bytes; read = r.read ∙ l.same }

  -- the rest, told otherwise
  pub told : {rest other : Reading A} {now : Standing} → Left whole first rest now → rest now.bytes now.place ≡ other now.bytes now.place → Left whole first other now
  told l e = record { bytes = l.bytes; same = sym e ∙ l.same }

  module _ {B : Type 0} {part : Reading B} (f : B → Reading A) {now next : Standing} (l : Left whole first (◌>>=◌ part f) now) where
    -- a part was read
    pub onward : {b : B} → Reads part now next (Ok b) → Left whole first (f b) next
    onward {b} r = record {
      bytes = r.bytes ∙ l.bytes;
      same = ap (λ (s : List ℕ). f b s next.place) r.bytes ∙ ap (λ (g : Got B). and_then g λ x n. f x now.bytes n) r.read ∙ l.same;
    }

    -- a refusal stays
    pub refused_there : {e : Refusal} → Reads part now next (Err e) → Reads whole first next (Err e)
    refused_there r = ends l (stopped f r)
