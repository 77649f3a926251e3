-- The rows of pegs, one behind another.
use Rattle.std.specs.Prelude.{◌≡◌, ℕ, ◌+◌, ◌<◌, length, take}
use Rattle.std.proofs.Math.Path.{refl, ap}
use Rattle.std.proofs.Common.{sym, ◌∙◌, add-one, take-suc}
use mathlib.Core.List.{List, [], ◌∷◌, ◌++◌, append_assoc, append-nil}
use Rattle.road.specs.Base.{joined}
use Rattle.road.specs.File.{Road}
use Rattle.road.specs.Line.{line}
use Rattle.peg_list.specs.Pegs.{peg_at, lines}

pub joined-append : {A : Type 0} (f : A → List ℕ) (xs ys : List A) → joined f (xs ++ ys) ≡ joined f xs ++ joined f ys
unfolding joined
joined-append f [] ys = refl
joined-append f (x ∷ xs) ys = ap (λ (l : List ℕ). f x ++ l) (joined-append f xs ys) ∙ sym (append_assoc (f x) (joined f xs) (joined f ys))

module _ (r : Road) (pegs : List ℕ) where
  -- the row of peg i behind those of the pegs before it
  pub one_line : (i : ℕ) → i < length pegs → lines r (take (i + 1) pegs) ≡ lines r (take i pegs) ++ line r (peg_at pegs i)
  unfolding lines joined
  one_line i h =
      ap (λ (k : ℕ). joined (line r) (take k pegs)) (add-one i)
      ∙ ap (joined (line r)) (take-suc pegs i 0 h)
      ∙ joined-append (line r) (take i pegs) (peg_at pegs i ∷ [])
      ∙ ap (λ (l : List ℕ). joined (line r) (take i pegs) ++ l) (append-nil (line r (peg_at pegs i)))

  pub no_lines : lines r (take 0 pegs) ≡ []
  unfolding lines joined
  no_lines = refl
