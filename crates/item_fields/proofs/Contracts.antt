-- Whether 9 stands before the class. Assumes nothing.
use Rattle.std.specs.Prelude.{◌≡◌, refl, ℕ, List, Bool, true, false, eqb, Some, Result, Ok}
use Rattle.std.proofs.Common.{sym, ap, ◌∙◌, ne_eqb}
use Rattle.file_numbers.specs.Reading.{Got, got, refused}
use Rattle.file_numbers.specs.Number.{number}
use Rattle.reader.specs.Standing.{Standing, value_there}
use Rattle.road.specs.File.{number_is, dated_fields, contract_fields}
use Rattle.road.specs.declared.Contract.{Contract}
use Rattle.road.specs.declared.Contract.TheVariants.{Undated}
use Rattle.road.specs.declared.refusal.Refusal.{Refusal}
use Rattle.fields.specs.Reads.{Reads}

by_number : (s : List ℕ) (at : ℕ) (b : Bool) → number_is 9 s at ≡ b → contract_fields s at ≡ elim b [ true ↦ dated_fields s at | false ↦ got Undated at ]
unfolding contract_fields
by_number s at b e = ap (λ (b : Bool). elim b [ true ↦ dated_fields s at | false ↦ got Undated at ]) e

-- the contract's date stands after a 9
pub dated : {before after : Standing} {result : Result Contract Refusal} → value_there (number before.bytes before.place) ≡ Some 9 → Reads dated_fields before after result → Reads contract_fields before after result
unfolding number_is
dated {before} nine r = record { bytes = r.bytes; read = r.read ∙ sym (by_number before.bytes before.place true (go (number before.bytes before.place) nine)) }
  where
    go : (g : Got ℕ) → value_there g ≡ Some 9 → elim g [ got v next ↦ eqb v 9 | refused k p ↦ false ] ≡ true
    go (got v next) e = let is : v ≡ 9 = cc in rw is
    go (refused k p) e = cc

-- where none stands nothing is read
pub plain : {at : Standing} → (value_there (number at.bytes at.place) ≡ Some 9 → ⊥) → Reads contract_fields at at (Ok Undated)
unfolding number_is
plain {at} other = record { bytes = refl; read = sym (by_number at.bytes at.place false (go (number at.bytes at.place) other)) }
  where
    go : (g : Got ℕ) → (value_there g ≡ Some 9 → ⊥) → elim g [ got v next ↦ eqb v 9 | refused k p ↦ false ] ≡ false
    go (got v next) f = ne_eqb v 9 (λ e. f (ap Some e))
    go (refused k p) f = refl
