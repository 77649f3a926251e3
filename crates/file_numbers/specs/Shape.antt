-- The shape of a number: its shortest form is read back as the number, and bytes that are read as a number are its shortest form. For every number, at no width. Assumes nothing.
use Rattle.std.proofs.Math.Path.{◌≡◌, subst₂}
use Rattle.std.specs.Prelude.{refl, List, [], ◌∷◌, ◌++◌, Bool, ℕ, zero, suc, ◌+◌, ◌*◌, ◌/◌, ◌%◌, ◌≤◌, ◌<◌, min, length, get_or, drop, take, leb, ltb, Option, None, Some, option_map}
use Rattle.std.proofs.Common.{sym, ap, ap₂, ◌∙◌, arith, length-take, length-drop, leb-true, leb-false, ltb-true, ltb-false, le-leb, lt-ltb, le-ltb, eq-eqb}
use Rattle.std.proofs.Math.Bool.{true, false}
use Rattle.std.proofs.lemmas.Bool.{lt-leb}
use Rattle.std.proofs.lemmas.Bool.Decides.{nat_tests}
use Rattle.std.proofs.lemmas.List.{get_or-drop}
use Rattle.std.proofs.Math.Seq.{drop-append_seam}
use Rattle.file_numbers.specs.Reading.{got}
use Rattle.file_numbers.specs.Number.{byte_count, greatest, Groups, lowest, groups, sound, checked_from, number_from, number, shortest_in, shortest}
use Rattle.file_numbers.specs.Bits.{byte_count_one, byte_count_more, byte_count_some}

abbrev pub grouped : ℕ → ℕ → Groups
grouped v n = record { value = v; count = n }

-- what a byte and the groups after it make, by its top bit
abbrev by_top : ℕ → Option Groups → Bool → Option Groups
by_top b r t = elim t as (λ _. Option Groups) [ true ↦ option_map (lowest (b % 128)) r | false ↦ Some (grouped b 1) ]

-- a byte without the top bit ends the groups
pub groups-last : (b : ℕ) (bs : List ℕ) → b < 128 → groups (b ∷ bs) ≡ Some (grouped b 1)
unfolding groups
groups-last b bs h = ap (by_top b (groups bs)) (lt-leb 128 b h)

-- a byte with the top bit is the lowest group
pub groups-more : (b : ℕ) (bs : List ℕ) → 128 ≤ b → groups (b ∷ bs) ≡ option_map (lowest (b % 128)) (groups bs)
unfolding groups
groups-more b bs h = ap (by_top b (groups bs)) (le-leb 128 b h)

-- what holds of numbers below 128, and of a number where it holds of what is above its lowest group, holds of all
module _ (P : ℕ → Type 0) (one : (v : ℕ) → v < 128 → P v) (more : (v : ℕ) → 128 ≤ v → P (v / 128) → P v) where
  by_depth : (d v : ℕ) → v ≤ d → P v
  by_depth zero v h = one v (omega arith)
  by_depth (suc d) v h = step (by_depth d (v / 128)) (ltb v 128) refl
    where
      step : (v / 128 ≤ d → P (v / 128)) → (t : Bool) → ltb v 128 ≡ t → P v
      step ih true e = one v (ltb-true v 128 e)
      step ih false e = let big : 128 ≤ v = ltb-false v 128 e in more v big (ih (omega arith))

  by_groups : (v : ℕ) → P v
  by_groups v = by_depth v v (omega arith)

-- the bytes of a number with depth to spare, by whether it is below 128
abbrev by_size : ℕ → ℕ → Bool → List ℕ
by_size d v t = elim t as (λ _. List ℕ) [ true ↦ v ∷ [] | false ↦ (128 + v % 128) ∷ shortest_in d (v / 128) ]

in_one : (d v : ℕ) → v < 128 → shortest_in d v ≡ v ∷ []
unfolding shortest_in
in_one zero v h = refl
in_one (suc d) v h = ap (by_size d v) (lt-ltb v 128 h)

in_more : (d v : ℕ) → 128 ≤ v → shortest_in (suc d) v ≡ (128 + v % 128) ∷ shortest_in d (v / 128)
unfolding shortest_in
in_more d v h = ap (by_size d v) (le-ltb v 128 h)

-- depths that are not below the number give the same bytes
abbrev Deep : ℕ → Type 0
Deep v = (d e : ℕ) → v ≤ d → v ≤ e → shortest_in d v ≡ shortest_in e v

in_deep : (v : ℕ) → Deep v
in_deep = by_groups Deep (λ v h d e _ _. in_one d v h ∙ sym (in_one e v h)) more
  where
    more : (v : ℕ) → 128 ≤ v → Deep (v / 128) → Deep v
    more v h ih zero e p q = absurd (omega arith)
    more v h ih (suc d) zero p q = absurd (omega arith)
    more v h ih (suc d) (suc e) p q = in_more d v h ∙ ap (λ (bs : List ℕ). (128 + v % 128) ∷ bs) (ih d e (omega arith) (omega arith)) ∙ sym (in_more e v h)

-- a number below 128 is one byte
shortest-one : (v : ℕ) → v < 128 → shortest v ≡ v ∷ []
unfolding shortest
shortest-one v h = in_one v v h

-- any other is its lowest group, with the top bit, before what is above it
shortest-more : (v : ℕ) → 128 ≤ v → shortest v ≡ (128 + v % 128) ∷ shortest (v / 128)
unfolding shortest
shortest-more v h = in_deep v v (suc v) (omega arith) (omega arith) ∙ in_more v v h ∙ ap (λ (bs : List ℕ). (128 + v % 128) ∷ bs) (in_deep (v / 128) v (v / 128) (omega arith) (omega arith))

-- the shortest form has as many bytes as the number's significant bits ask
shortest-length : (v : ℕ) → length (shortest v) ≡ byte_count v
shortest-length =
    by_groups (λ v. length (shortest v) ≡ byte_count v)
    (λ v h. ap length (shortest-one v h) ∙ sym (byte_count_one v h))
    (λ v h ih. ap length (shortest-more v h) ∙ ap suc ih ∙ sym (byte_count_more v h))

-- the groups of the shortest form are the number, whatever follows
module _ (rest : List ℕ) where
  abbrev AreRead : ℕ → Type 0
  AreRead v = groups (shortest v ++ rest) ≡ Some (grouped v (byte_count v))

  shortest-groups : (v : ℕ) → AreRead v
  shortest-groups = by_groups AreRead one more
    where
      one : (v : ℕ) → v < 128 → AreRead v
      one v h = ap (λ (bs : List ℕ). groups (bs ++ rest)) (shortest-one v h) ∙ groups-last v rest h ∙ ap (λ (n : ℕ). Some (grouped v n)) (sym (byte_count_one v h))

      more : (v : ℕ) → 128 ≤ v → AreRead (v / 128) → AreRead v
      more v h ih =
          ap (λ (bs : List ℕ). groups (bs ++ rest)) (shortest-more v h)
          ∙ groups-more (128 + v % 128) (shortest (v / 128) ++ rest) (omega arith)
          ∙ ap (option_map (lowest ((128 + v % 128) % 128))) ih
          ∙ ap Some (ap₂ grouped (omega arith) (sym (byte_count_more v h)))

shortest-sound : (v : ℕ) → v ≤ greatest → sound (grouped v (byte_count v)) ≡ true
unfolding sound
shortest-sound v h = simp (le-leb v greatest h, eq-eqb (byte_count v) (byte_count v) refl)

-- the shortest form is read back, at any place and whatever follows
pub shortest-read : (before rest : List ℕ) (v : ℕ) → v ≤ greatest → number (before ++ (shortest v ++ rest)) (length before) ≡ got v (length before + byte_count v)
unfolding number
shortest-read before rest v h =
    ap (λ (bs : List ℕ). number_from (groups bs) (length before)) (drop-append_seam before (shortest v ++ rest))
    ∙ ap (λ (g : Option Groups). number_from g (length before)) (shortest-groups rest v)
    ∙ ap (λ (t : Bool). checked_from t (grouped v (byte_count v)) (length before)) (shortest-sound v h)

-- groups are one or more
abbrev pub SomeGroup : Option Groups → Type 0
SomeGroup None = Unit
SomeGroup (Some g) = 1 ≤ g.count

pub some_group : (s : List ℕ) → SomeGroup (groups s)
unfolding groups
some_group [] = tt
some_group (b ∷ bs) = step (leb 128 b) (groups bs)
  where
    step : (t : Bool) (r : Option Groups) → SomeGroup (by_top b r t)
    step true None = tt
    step true (Some g) = omega arith
    step false r = omega arith

-- bytes are below 256, as the elements of a `&[u8]` are (past the end `get_or` gives 0)
abbrev pub Bytes : List ℕ → Type 0
Bytes s = (i : ℕ) → get_or s i 0 < 256

-- as many bytes as a number's shortest form takes, which make the number, are its shortest form
abbrev Exact : List ℕ → Option Groups → Type 0
Exact s None = Unit
Exact s (Some g) = g.count ≡ byte_count g.value → take g.count s ≡ shortest g.value

exact_last : (b : ℕ) (bs : List ℕ) → b < 128 → Exact (b ∷ bs) (Some (grouped b 1))
exact_last b bs h _ = sym (shortest-one b h)

-- a number of two groups or more is 128 or more
two-groups : (v n : ℕ) → 1 ≤ n → suc n ≡ byte_count v → 128 ≤ v
two-groups v n h e = step (ltb v 128) refl
  where
    step : (t : Bool) → ltb v 128 ≡ t → 128 ≤ v
    step true q = absurd (omega (arith, byte_count_one v (ltb-true v 128 q)))
    step false q = ltb-false v 128 q

exact_lowest : (b : ℕ) (bs : List ℕ) → 128 ≤ b → b < 256 → (g : Groups) → 1 ≤ g.count → Exact bs (Some g) → Exact (b ∷ bs) (Some (lowest (b % 128) g))
exact_lowest b bs h l g c ih e =
    let v : ℕ = b % 128 + 128 * g.value in
    let big : 128 ≤ v = two-groups v g.count c e in
    let rest : v / 128 ≡ g.value = omega arith in
    let more : byte_count v ≡ suc (byte_count g.value) = byte_count_more v big ∙ ap (λ (x : ℕ). suc (byte_count x)) rest in
    let first : b ≡ 128 + v % 128 = omega arith in
    ap₂ (λ (x : ℕ) (xs : List ℕ). x ∷ xs) first (ih (omega arith) ∙ ap shortest (sym rest)) ∙ sym (shortest-more v big)

exact_more : (b : ℕ) (bs : List ℕ) → 128 ≤ b → b < 256 → (r : Option Groups) → SomeGroup r → Exact bs r → Exact (b ∷ bs) (option_map (lowest (b % 128)) r)
exact_more b bs h l None c ih = tt
exact_more b bs h l (Some g) c ih = exact_lowest b bs h l g c ih

groups_exact : (s : List ℕ) → Bytes s → Exact s (groups s)
unfolding groups
groups_exact [] bytes = tt
groups_exact (b ∷ bs) bytes = step (groups_exact bs (λ i. bytes (suc i))) (leb 128 b) refl
  where
    step : Exact bs (groups bs) → (t : Bool) → leb 128 b ≡ t → Exact (b ∷ bs) (by_top b (groups bs) t)
    step ih true e = exact_more b bs (leb-true 128 b e) (bytes 0) (groups bs) (some_group bs) ih
    step ih false e = exact_last b bs (leb-false 128 b e)

bytes-from : (s : List ℕ) (at : ℕ) → Bytes s → Bytes (drop at s)
bytes-from s at bytes i = rw (get_or-drop at s i 0) (bytes (at + i))

sound-parts : (g : Groups) → sound g ≡ true → (g.value ≤ greatest) × (g.count ≡ byte_count g.value)
unfolding sound
sound-parts g e = (grind (arith, nat_tests), grind (arith, nat_tests))

-- bytes of s from a place to the next are exactly the shortest form of v
pub record Exactly (s : List ℕ) (at v next : ℕ) : Type 0 where
  pub not_above : v ≤ greatest
  pub next-is : next ≡ at + byte_count v
  pub next-within : next ≤ length s
  pub bytes_are : take (byte_count v) (drop at s) ≡ shortest v

module _ (s : List ℕ) (at : ℕ) where
  sound_exactly : (g : Groups) → Exact (drop at s) (Some g) → sound g ≡ true → Exactly s at g.value (at + g.count)
  sound_exactly g x t =
      let p = sound-parts g t in
      let bytes : take g.count (drop at s) ≡ shortest g.value = x p.1 in
      let long : min g.count (length (drop at s)) ≡ byte_count g.value = sym (length-take g.count (drop at s)) ∙ ap length bytes ∙ shortest-length g.value in
      let remaining = length-drop at s in
      let some_byte = byte_count_some g.value in
      record {
        not_above = p.0;
        next-is = ap (λ (n : ℕ). at + n) p.1;
        next-within = omega arith;
        bytes_are = ap (λ (n : ℕ). take n (drop at s)) (sym p.1) ∙ bytes;
      }

  -- bytes that are read as a number are exactly its shortest form
  pub read_exactly : (v next : ℕ) → Bytes s → number s at ≡ got v next → Exactly s at v next
  unfolding number
  read_exactly v next bytes read = from (groups (drop at s)) (groups_exact (drop at s) (bytes-from s at bytes)) read
    where
      checked : (g : Groups) → Exact (drop at s) (Some g) → (t : Bool) → sound g ≡ t → checked_from t g at ≡ got v next → Exactly s at v next
      checked g x true q e = let same : g.value ≡ v = cc in let place : at + g.count ≡ next = cc in subst₂ (Exactly s at) same place (sound_exactly g x q)
      checked g x false q e = cc

      from : (r : Option Groups) → Exact (drop at s) r → number_from r at ≡ got v next → Exactly s at v next
      from None x e = cc
      from (Some g) x e = checked g x (sound g) refl e
