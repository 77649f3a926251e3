-- The line of a refusal, part by part.
use Rattle.std.specs.Prelude.{◌≡◌, List, [], ◌∷◌, ◌++◌, ℕ, ◌+◌, ◌≤◌, ◌<◌, length, take, drop}
use Rattle.std.proofs.Common.{ap, ◌∙◌, append_assoc, arith, take_at}
use Rattle.decimal.specs.Decimal.{digits, decimal, spaced}
use Rattle.decimal.specs.Length.{digits-length}
use Rattle.decimal.specs.Written.{Wrote, written}
use Rattle.road.specs.Listing.{refusal_line}

-- a number of 64 bits takes at most twenty digits
pub digits-short : (n : ℕ) → n < 18446744073709551616 → length (digits n) ≤ 20
digits-short n h = digits-length 19 n (omega arith)

pub ruleset short = (digits-short)

-- mark, number and place
pub refusal-parts : (n p : ℕ) → ((82 ∷ 32 ∷ []) ++ (digits n ++ (32 ∷ []))) ++ (digits p ++ (10 ∷ [])) ≡ refusal_line n p
unfolding refusal_line spaced decimal
refusal-parts n p = ap (λ (l : List ℕ). 82 ∷ 32 ∷ l) (append_assoc (digits n) (32 ∷ []) (digits p ++ (10 ∷ [])))

-- a line written from a buffer's start on stands there
pub front_is : {b a x : List ℕ} {r : ℕ} → Wrote b a 0 x r → take r a ≡ x
unfolding written
front_is {b} {a} {x} {r} w = ap (take r) w.bytes ∙ take_at x (drop (0 + length x) b) r (omega (arith, w.end))
