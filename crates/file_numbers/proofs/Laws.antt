-- Laws of masks and shifts, and of the groups that a reading has seen so far. Assumes nothing.
use mathlib.Core.Path.{◌≡◌, refl, sym, ap, ap₂, ◌∙◌, subst}
use mathlib.Core.List.{List}
use mathlib.Core.Bool.{Bool, true, false, ◌&&◌}
use Rattle.std.specs.Prelude.{Option, None, Some, option_map, if◌then◌else◌, slice_range}
use Prim.Native.Nat.{ℕ, suc, ◌+◌, ◌-◌, ◌*◌, ◌%◌, ◌^◌, ◌≤◌, ◌<◌}
use native.Mathlib.Nat.{add-mul, mul_assoc, mul_comm}
use native.Mathlib.Numerals.{add-one}
use native.Mathlib.Omega.{arith}
use lib.ListN.{length, get_or, drop, drop_of_length-le}
use Rattle.std.proofs.lemmas.List.{take_all, length-drop}
use lib.Seq.{drop-cons}
use lib.Arith.{digits_lt}
use lib.Pow.{shl_exact, pow-add}
use lib.Bits.{bit_or, or_shifted_r}
use lib.Dec.{leb, eqb}
use borrow.Author.Tests.{leb-true, leb-false, ne_eqb}
use Rattle.file_numbers.specs.Reading.{got, refused}
use Rattle.file_numbers.specs.Number.{byte_count, greatest, Groups, lowest, groups, sound, checked_from, number_from, number}
use Rattle.file_numbers.specs.Bits.{byte_count_most}
use Rattle.file_numbers.specs.Shape.{grouped, groups-last, groups-more, SomeGroup, some_group}
use Rattle.file_numbers.specs.Meaning.{meaning}
use Rattle.file_numbers.specs.Answer.{answer}
use Rattle.file_numbers.specs.declared.Number.{Number}

-- a group of j bits above the k bits of v, at every width w with room for both
pub joined_is : (j k w v g : ℕ) → v < 2 ^ k → g < 2 ^ j → j + k ≤ w → bit_or v ((g * 2 ^ k) % 2 ^ w) ≡ g * 2 ^ k + v
joined_is j k w v g hv hg hw = ap (λ (x : ℕ). bit_or v x) (shl_exact j k w hg hw) ∙ or_shifted_r g k v hv

-- the powers of the groups' places
place-next : (n : ℕ) → 2 ^ (7 * (n + 1)) ≡ 128 * 2 ^ (7 * n)
place-next n = ap (λ (x : ℕ). 2 ^ x) (omega arith) ∙ pow-add 2 7 (7 * n)

pub joined_lt : (n v g : ℕ) → v < 2 ^ (7 * n) → g < 128 → g * 2 ^ (7 * n) + v < 2 ^ (7 * (n + 1))
joined_lt n v g hv hg = subst (λ (x : ℕ). g * 2 ^ (7 * n) + v < x) (sym (place-next n)) (digits_lt hg hv)

-- n groups of value v with some groups above them
abbrev pub above : ℕ → ℕ → Groups → Groups
above n v w = grouped (w.value * 2 ^ (7 * n) + v) (n + w.count)

-- the groups that n groups of value v and what follows make
abbrev pub after : ℕ → ℕ → Option Groups → Option Groups
after n v r = option_map (above n v) r

above-lowest : (n v g : ℕ) (w : Groups) → above n v (lowest g w) ≡ above (n + 1) (g * 2 ^ (7 * n) + v) w
above-lowest n v g w = ap₂ grouped value (omega arith)
  where
    value : (g + 128 * w.value) * 2 ^ (7 * n) + v ≡ w.value * 2 ^ (7 * (n + 1)) + (g * 2 ^ (7 * n) + v)
    value =
        let d = add-mul g (128 * w.value) (2 ^ (7 * n)) in
        let c = ap (λ (x : ℕ). x * 2 ^ (7 * n)) (mul_comm 128 w.value) in
        let a = mul_assoc w.value 128 (2 ^ (7 * n)) in
        let e = ap (λ (x : ℕ). w.value * x) (place-next n) in
        omega arith

after-lowest : (n v g : ℕ) (r : Option Groups) → after n v (option_map (lowest g) r) ≡ after (n + 1) (g * 2 ^ (7 * n) + v) r
after-lowest n v g None = refl
after-lowest n v g (Some w) = ap Some (above-lowest n v g w)

pub after_none : (r : Option Groups) → r ≡ after 0 0 r
after_none None = refl
after_none (Some w) = ap Some (ap₂ grouped (omega arith) (omega arith))

-- the groups from a place of the file
module _ (s : List ℕ) (i : ℕ) where
  groups_none : length s ≤ i → groups (drop i s) ≡ None
  unfolding groups
  groups_none h = ap groups (drop_of_length-le s h)

  groups-end : i < length s → leb 128 (get_or s i 0) ≡ false → groups (drop i s) ≡ Some (grouped (get_or s i 0) 1)
  groups-end h e = ap groups (drop-cons s i 0 h) ∙ groups-last (get_or s i 0) (drop (suc i) s) (leb-false 128 (get_or s i 0) e)

  groups-on : i < length s → leb 128 (get_or s i 0) ≡ true → groups (drop i s) ≡ option_map (lowest (get_or s i 0 % 128)) (groups (drop (i + 1) s))
  groups-on h e =
      ap groups (drop-cons s i 0 h)
      ∙ groups-more (get_or s i 0) (drop (suc i) s) (leb-true 128 (get_or s i 0) e)
      ∙ ap (λ (k : ℕ). option_map (lowest (get_or s i 0 % 128)) (groups (drop k s))) (sym (add-one i))

-- six groups or more are never a number in its shortest form
too_many : (g : Groups) → 6 ≤ g.count → sound g ≡ false
unfolding sound
too_many g h = go (leb g.value greatest) refl
  where
    go : (t : Bool) → leb g.value greatest ≡ t → leb g.value greatest && eqb g.count (byte_count g.value) ≡ false
    go true e =
        let few : byte_count g.value ≤ 5 = byte_count_most 5 g.value (omega arith) (omega (arith, leb-true g.value greatest e)) in
        simp (e, ne_eqb g.count (byte_count g.value) (λ z. omega (arith, z)))
    go false e = simp e

too_long : (v at : ℕ) (r : Option Groups) → SomeGroup r → number_from (after 5 v r) at ≡ refused 2 at
too_long v at None c = refl
too_long v at (Some w) c = ap (λ (t : Bool). checked_from t (above 5 v w) at) (too_many (above 5 v w) (omega arith))

-- what the code answers for groups is what the paper says of them
pub answered : (v n at next : ℕ) → next ≡ at + n → meaning (answer v n next) at ≡ checked_from (sound (grouped v n)) (grouped v n) at
unfolding answer
answered v n at next e = go (sound (grouped v n))
  where
    go : (t : Bool) → meaning (if t then Some (record { value = v; next = next }) else None) at ≡ checked_from t (grouped v n) at
    go true = ap (got v) e
    go false = refl

-- what the groups read so far of the bytes from a place on say of the number there: they break off, they end, they go on, they are too many
module _ (s : List ℕ) (at : ℕ) (bytes : List ℕ) (is : bytes ≡ slice_range s at (length s)) (count value : ℕ) (so_far : groups bytes ≡ after count value (groups (drop count bytes))) where
  from-rest : (r : Option Groups) → groups (drop count bytes) ≡ r → number s at ≡ number_from (after count value r) at
  unfolding number
  from-rest r e =
      let from : drop at s ≡ bytes = sym (is ∙ take_all (length s - at) (drop at s) (omega (arith, length-drop at s))) in
      ap (λ (l : List ℕ). number_from (groups l) at) from ∙ ap (λ (q : Option Groups). number_from q at) (so_far ∙ ap (after count value) e)

  pub breaks_off : (r : Option Number) → r ≡ None → length bytes ≤ count → meaning r at ≡ number s at
  breaks_off r e h = ap (λ (n : Option Number). meaning n at) e ∙ sym (from-rest None (groups_none bytes count h))

  pub too_many_groups : count ≡ 5 → refused 2 at ≡ number s at
  too_many_groups e =
      sym (from-rest _ refl ∙ ap (λ (n : ℕ). number_from (after n value (groups (drop count bytes))) at) e ∙ too_long value at (groups (drop count bytes)) (some_group (drop count bytes)))

  -- the next byte, its group, and the group put above the others
  module _ (b g v : ℕ) (byte : b ≡ get_or bytes count 0) (low : g ≡ b % 128) (joined : v ≡ g * 2 ^ (7 * count) + value) (inside : count < length bytes) where
    pub ends : leb 128 b ≡ false → (r : Option Number) → r ≡ answer v (count + 1) (at + count + 1) → meaning r at ≡ number s at
    ends t r e =
        let small : g ≡ get_or bytes count 0 = omega (arith, leb-false 128 b t) in
        ap (λ (n : Option Number). meaning n at) e
        ∙ answered v (count + 1) at (at + count + 1) (omega arith)
        ∙ ap (λ (x : ℕ). checked_from (sound (grouped x (count + 1))) (grouped x (count + 1)) at) (joined ∙ ap (λ (x : ℕ). x * 2 ^ (7 * count) + value) small)
        ∙ sym (from-rest _ (groups-end bytes count inside (ap (leb 128) (sym byte) ∙ t)))

    pub goes_on : leb 128 b ≡ true → groups bytes ≡ after (count + 1) v (groups (drop (count + 1) bytes))
    goes_on t =
        let same : get_or bytes count 0 % 128 ≡ g = omega arith in
        so_far
        ∙ ap (after count value) (groups-on bytes count inside (ap (leb 128) (sym byte) ∙ t) ∙ ap (λ (x : ℕ). option_map (lowest x) (groups (drop (count + 1) bytes))) same)
        ∙ after-lowest count value g (groups (drop (count + 1) bytes))
        ∙ ap (λ (x : ℕ). after (count + 1) x (groups (drop (count + 1) bytes))) (sym joined)

-- no number stands behind the last byte
pub behind_the_end : (s : List ℕ) (at : ℕ) (r : Option Number) → r ≡ None → length s ≤ at → meaning r at ≡ number s at
unfolding number
behind_the_end s at r e h = ap (λ (n : Option Number). meaning n at) e ∙ ap (λ (q : Option Groups). number_from q at) (sym (groups_none s at h))
