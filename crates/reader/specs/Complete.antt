-- `Passes` is met, and by one number and one place alone: its equations leave nothing open.
use Rattle.std.specs.Prelude.{◌≡◌, refl, List, [], ◌∷◌, ℕ, Option, Some, None}
use Rattle.std.proofs.Common.{sym, ap, ◌∙◌}
use Rattle.file_numbers.specs.Number.{bits_in, bits, byte_count, groups, sound, number}
use Rattle.reader.specs.Standing.{Standing, said, Passes, value_there}

abbrev at : List ℕ → ℕ → Standing
at bytes place = record { bytes = bytes; place = place }

-- 7, 300 in two bytes, 0
abbrev three : List ℕ
three = 0x07 ∷ 0xAC ∷ 0x02 ∷ 0x00 ∷ []

pub one_behind_another : Passes (at three 0) (at three 1) (Some 7) × Passes (at three 1) (at three 3) (Some 300) × Passes (at three 3) (at three 4) (Some 0)
unfolding number groups sound byte_count bits bits_in
one_behind_another =
    (record { bytes = refl; number = refl; stays = λ e. cc }, record { bytes = refl; number = refl; stays = λ e. cc }, record { bytes = refl; number = refl; stays = λ e. cc })

-- a second number that breaks off: it is not passed
abbrev broken : List ℕ
broken = 0x07 ∷ 0xAC ∷ []

pub broken-off : Passes (at broken 0) (at broken 1) (Some 7) × Passes (at broken 1) (at broken 1) None
unfolding number groups sound byte_count bits bits_in
broken-off = (record { bytes = refl; number = refl; stays = λ e. cc }, record { bytes = refl; number = refl; stays = λ _. refl })

one_place : (read : Option ℕ) (place a b : ℕ) → said read place a ≡ said read place b → (read ≡ None → a ≡ place) → (read ≡ None → b ≡ place) → a ≡ b
one_place (Some v) place a b e p q = cc
one_place None place a b e p q = p refl ∙ sym (q refl)

back : (read : Option ℕ) (place next : ℕ) → value_there (said read place next) ≡ read
back (Some v) place next = refl
back None place next = refl

module _ {before after after' : Standing} {read read' : Option ℕ} (one : Passes before after read) (other : Passes before after' read') where
  pub one-number : read ≡ read'
  one-number = sym (back read before.place after.place) ∙ ap value_there (one.number ∙ sym other.number) ∙ back read' before.place after'.place

  pub one-standing : after ≡ after'
  one-standing =
      let place : after.place ≡ after'.place = one_place read before.place after.place after'.place (one.number ∙ sym (rw one-number other.number)) one.stays (λ e. other.stays (sym one-number ∙ e)) in
      let bytes : after.bytes ≡ after'.bytes = one.bytes ∙ sym other.bytes in
      λ i. record { bytes = bytes i; place = place i }

-- three numbers, one behind another, and where reading then stands
module _ {start first second third first' second' third' : Standing} {a b c a' b' c' : Option ℕ} where
  pub one-three : Passes start first a → Passes first second b → Passes second third c → Passes start first' a' → Passes first' second' b' → Passes second' third' c' → (a ≡ a') × (b ≡ b') × (c ≡ c') × (third ≡ third')
  one-three p q r p' q' r' =
      let one : first ≡ first' = one-standing p p' in
      let q″ : Passes first second' b' = rw one q' in
      let two : second ≡ second' = one-standing q q″ in
      let r″ : Passes second third' c' = rw two r' in
      (one-number p p', one-number q q″, one-number r r″, one-standing r r″)
