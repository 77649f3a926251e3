-- A line, number by number; and that a segment that shows the road has the numbers of its line.
use Rattle.std.specs.Prelude.{◌≡◌, refl, List, [], ◌∷◌, ◌++◌, ℕ, zero, suc, ◌+◌, ◌*◌, ◌≤◌, ◌<◌, ℤ, pos, length, take, get_or}
use Rattle.std.proofs.Common.{sym, ap, ◌∙◌, arith, append_assoc, append-nil, length-append, add-one}
use Rattle.std.proofs.Math.Seq.{take-suc}
use Rattle.integers.proofs.RoundingLaws.{rounded-value}
use Rattle.decimal.specs.Decimal.{decimal, spaced}
use Rattle.decimal.specs.Length.{Short, short-length, spaced-length}
use Rattle.laws_of_lists.specs.All.{All}
use Rattle.laws_of_lists.specs.All as all
use Rattle.road.specs.File.{Road}
use Rattle.road.specs.Exact.{left, right}
use Rattle.road.specs.Line.{printed, printed_edge}
use Rattle.segment.specs.Segment.{Shows, numbers_in, list_of}
use Rattle.segment.specs.declared.Segment.{Segment}

-- numbers, each with a space behind it
unfoldable pub fields : List ℤ → List ℕ
fields [] = []
fields (v ∷ vs) = (decimal v ++ (32 ∷ [])) ++ fields vs

fields-behind : (vs : List ℤ) (v : ℤ) → fields (vs ++ (v ∷ [])) ≡ fields vs ++ (decimal v ++ (32 ∷ []))
unfolding fields
fields-behind [] v = append-nil (decimal v ++ (32 ∷ []))
fields-behind (w ∷ vs) v = ap (λ (l : List ℕ). (decimal w ++ (32 ∷ [])) ++ l) (fields-behind vs v) ∙ sym (append_assoc (decimal w ++ (32 ∷ [])) (fields vs) (decimal v ++ (32 ∷ [])))

pub fields-more : (vs : List ℤ) (i : ℕ) → i < length vs → fields (take (i + 1) vs) ≡ fields (take i vs) ++ (decimal (get_or vs i (pos 0)) ++ (32 ∷ []))
fields-more vs i h = ap (λ (k : ℕ). fields (take k vs)) (add-one i) ∙ ap fields (take-suc vs i (pos 0) h) ∙ fields-behind (take i vs) (get_or vs i (pos 0))

-- short numbers take at most 12 bytes each
pub fields-short : (vs : List ℤ) (i : ℕ) → All Short vs → length (fields (take i vs)) ≤ 12 * i
unfolding fields
fields-short vs zero a = omega arith
fields-short [] (suc i) a = omega arith
fields-short (v ∷ vs) (suc i) (all.more h a) =
    omega (arith, length-append (decimal v ++ (32 ∷ [])) (fields (take i vs)), length-append (decimal v) (32 ∷ []), short-length v h, fields-short vs i a)

-- all but the byte behind the last number
unfoldable pub unended : List ℤ → List ℕ
unended [] = []
unended (v ∷ []) = decimal v
unended (v ∷ w ∷ vs) = decimal v ++ (32 ∷ unended (w ∷ vs))

pub fields-end : (v : ℤ) (vs : List ℤ) → fields (v ∷ vs) ≡ unended (v ∷ vs) ++ (32 ∷ [])
unfolding fields unended
fields-end v [] = append-nil (decimal v ++ (32 ∷ []))
fields-end v (w ∷ vs) =
    ap (λ (l : List ℕ). (decimal v ++ (32 ∷ [])) ++ l) (fields-end w vs)
    ∙ append_assoc (decimal v) (32 ∷ []) (unended (w ∷ vs) ++ (32 ∷ []))
    ∙ sym (append_assoc (decimal v) (32 ∷ unended (w ∷ vs)) (32 ∷ []))

pub spaced-end : (v : ℤ) (vs : List ℤ) → unended (v ∷ vs) ++ (10 ∷ []) ≡ spaced (v ∷ vs)
unfolding spaced unended
spaced-end v [] = refl
spaced-end v (w ∷ vs) = append_assoc (decimal v) (32 ∷ unended (w ∷ vs)) (10 ∷ []) ∙ ap (λ (l : List ℕ). decimal v ++ (32 ∷ l)) (spaced-end w vs)

pub short-line : {v : ℤ} {vs : List ℤ} → All Short (v ∷ vs) → length (spaced (v ∷ vs)) ≤ 12 * suc (length vs)
short-line {v} {vs} (all.more h a) = spaced-length v vs h a

-- ---- the exact road's line
pub numbers_show : {r : Road} {s : Segment} {x : ℕ} → Shows r s x → list_of (numbers_in s x) ≡ printed r x
unfolding numbers_in printed printed_edge
numbers_show S = simp (rounded-value S.height, rounded-value S.grade, rounded-value (S.crossfall left), rounded-value (S.crossfall right), rounded-value (S.drop left), rounded-value (S.drop right), rounded-value S.curvature)
