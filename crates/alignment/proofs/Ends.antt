-- The numbers between a range's ends, by what the ends are. Assumes nothing.
use Rattle.std.specs.Prelude.{◌≡◌, ℕ, ℤ, Result}
use Rattle.std.proofs.Common.{sym}
use Rattle.reader.specs.Standing.{Standing}
use Rattle.road.specs.File.{field, signed, between}
use Rattle.road.specs.declared.refusal.Refusal.{Refusal}
use Rattle.fields.specs.Reads.{Reads}

pub field_between : {start end low high : ℕ} {before after : Standing} {result : Result ℕ Refusal} → start ≡ low → end ≡ high → Reads (field start end) before after result → Reads (field low high) before after result
field_between low high r = rw (sym low, sym high) r

pub signed_between : {start end low high : ℤ} {before after : Standing} {result : Result ℤ Refusal} → start ≡ low → end ≡ high → Reads (signed (between start end)) before after result → Reads (signed (between low high)) before after result
signed_between low high r = rw (sym low, sym high) r
