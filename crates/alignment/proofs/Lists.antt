-- The lists of the file, item behind item, and what follows them. Assumes nothing.
use Rattle.std.specs.Prelude.{◌≡◌, refl, List, [], ◌∷◌, ◌++◌, ℕ, suc, Ok, Err}
use Rattle.std.proofs.Common.{sym, ap, ◌∙◌, append_assoc}
use mathlib.Core.List.{append-nil}
use Rattle.file_numbers.specs.Reading.{Got, got, refused, and_then, Reading, ◌>>=◌, many}
use Rattle.reader.specs.Standing.{Standing}
use Rattle.road.specs.declared.refusal.Refusal.{Refusal}
use Rattle.fields.specs.Reads.{Reads}
use Rattle.alignment.proofs.Onward.{Left, told, onward, refused_there}

module _ {A B : Type 0} (one : ℕ → Reading A) (k : List A → Reading B) where
  -- some items were read, so many more follow, and then what the list leads to
  abbrev pub more : ℕ → List A → Reading B
  more n xs = ◌>>=◌ (many one n) λ ys. k (xs ++ ys)

  no_more : (xs : List A) (s : List ℕ) (at : ℕ) → more 0 xs s at ≡ k xs s at
  unfolding many
  no_more xs s at = ap (λ (l : List A). k l s at) (append-nil xs)

  one-more : (n : ℕ) (xs : List A) (s : List ℕ) (at : ℕ) → more (suc n) xs s at ≡ ◌>>=◌ (one n) (λ a. more n (xs ++ a ∷ [])) s at
  unfolding many
  one-more n xs s at = outer (one n s at)
    where
      inner : (a : A) (g : Got (List A)) → and_then (and_then g λ rest m. got (a ∷ rest) m) (λ ys m. k (xs ++ ys) s m) ≡ and_then g λ ys m. k ((xs ++ a ∷ []) ++ ys) s m
      inner a (got ys m) = ap (λ (l : List A). k l s m) (sym (append_assoc xs (a ∷ []) ys))
      inner a (refused i p) = refl

      outer : (g : Got A) → and_then (and_then g λ a m. and_then (many one n s m) λ rest l. got (a ∷ rest) l) (λ ys m. k (xs ++ ys) s m) ≡ and_then g λ a m. more n (xs ++ a ∷ []) s m
      outer (got a m) = inner a (many one n s m)
      outer (refused i p) = refl

  module _ {whole : Reading B} {first now : Standing} (xs : List A) where
    -- the list is read
    pub list_ends : {left : ℕ} → left ≡ 0 → Left whole first (more left xs) now → Left whole first (k xs) now
    list_ends none l = told l (ap (λ (i : ℕ). more i xs now.bytes now.place) none ∙ no_more xs now.bytes now.place)

    module _ (n : ℕ) {left : ℕ} (one_fewer : left ≡ suc n) (l : Left whole first (more left xs) now) where
      next_item : Left whole first (◌>>=◌ (one n) λ a. more n (xs ++ a ∷ [])) now
      next_item = told l (ap (λ (i : ℕ). more i xs now.bytes now.place) one_fewer ∙ one-more n xs now.bytes now.place)

      -- an item was read
      pub item : {a : A} {next : Standing} → Reads (one n) now next (Ok a) → Left whole first (more n (xs ++ a ∷ [])) next
      item r = onward (λ a. more n (xs ++ a ∷ [])) next_item r

      pub item_refused : {e : Refusal} {next : Standing} → Reads (one n) now next (Err e) → Reads whole first next (Err e)
      item_refused r = refused_there (λ a. more n (xs ++ a ∷ [])) next_item r
