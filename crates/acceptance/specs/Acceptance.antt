-- A file that reads is judged under the limits of its road; one that does not keeps its refusal.
use Rattle.std.specs.Prelude.{◌≡◌, List, ℕ}
use Rattle.std.proofs.Common.{sym, ap, ◌∙◌}
use Rattle.file_numbers.specs.Reading.{got, refused}
use Rattle.road.specs.File.{Road, read}
use Rattle.road.specs.Faults.{value, refusal, of_got}
use Rattle.road.specs.Limits.{limits, limits_of}
use Rattle.road.specs.Rules.{Verdict, passes, breaks, judged, under, accepted}
use Rattle.road.specs.declared.Limits.{Limits}
use Rattle.road.specs.Said.{said-value, said-refusal}
use Rattle.laws_of_acceptance.specs.Guaranteed.{Guaranteed, guaranteed}

pub accepted-read : (s : List ℕ) (r : Road) (next : ℕ) → read s ≡ got r next → (v : Verdict) → v ≡ judged (limits r) r → accepted s ≡ under v r next
unfolding accepted
accepted-read s r next e v told = simp (e, told)

pub accepted-refused : (s : List ℕ) (n p : ℕ) → read s ≡ refused n p → accepted s ≡ refused n p
unfolding accepted
accepted-refused s n p e = rw e

-- the same of what the reading, the limits of the head and the judge have answered
module _ (s : List ℕ) where
  pub unread : {n p : ℕ} → refusal n p ≡ of_got (read s) → refusal n p ≡ of_got (accepted s)
  unread {n} {p} e = ap of_got (sym (accepted-refused s n p (said-refusal (read s) e)))

  module _ {r : Road} (e : value r ≡ of_got (read s)) {l : Limits} (own : l ≡ limits_of r.head) where
    told : {v : Verdict} → v ≡ judged l r → let g = said-value (read s) e in accepted s ≡ under v r g.end
    unfolding limits
    told {v} j = let g = said-value (read s) e in accepted-read s r g.end g.was v (j ∙ ap (λ (l : Limits). judged l r) own)

    pub turned_away : {n p : ℕ} → breaks n p ≡ judged l r → refusal n p ≡ of_got (accepted s)
    turned_away j = ap of_got (sym (told j))

    pub let_through : passes ≡ judged l r → value r ≡ of_got (accepted s)
    let_through j = ap of_got (sym (told j))

    pub guaranteed-road : passes ≡ judged l r → Guaranteed r
    guaranteed-road j = guaranteed s r (said-value (read s) e).end (told j)

pub ruleset answers = (unread, turned_away, let_through)
