-- The numbers below the end that are days, and so many of them.
use Rattle.std.proofs.Common.{rules, ◌≡◌, refl, sym, ap, ap₂, ◌∙◌, Bool, true, false, cond, ℕ, zero, suc, ◌+◌, List, [], ◌∷◌, map, map-id, length, length-append, arith}
use borrow.Author.Tests.{tests}
use Rattle.std.specs.List.{range_with_len, filter}
use Rattle.std.proofs.lemmas.Iterator.{YieldsList-from_range}
use Rattle.std.proofs.lemmas.Iterator.Consumers.{YieldsList-from_filter, count_from_yields_List}
use Rattle.std.proofs.lemmas.List.FromFn.{filter_of_map_range_with_len_more}
use Rattle.days.specs.Day.{is_day}
use Rattle.days.specs.Calendar.{one, days_below}
use Rattle.count_days.proofs.days_below.Goals as goal

-- a day is one more
one-more : (b : Bool) (n : ℕ) → length (cond b (n ∷ []) []) ≡ one b
one-more true n = refl
one-more false n = refl

counted : (n : ℕ) → length (filter is_day (map (λ k. k) (range_with_len 0 n))) ≡ days_below n
unfolding days_below
counted zero = refl
counted (suc n) =
    let next : suc n ≡ n + 1 = omega arith in
    let before = filter is_day (map (λ k. k) (range_with_len 0 n)) in
    ap (λ (m : ℕ). length (filter is_day (map (λ k. k) (range_with_len 0 m)))) next
    ∙ ap length (filter_of_map_range_with_len_more is_day (λ k. k) 0 n n (omega arith))
    ∙ length-append before (cond (is_day n) (n ∷ []) [])
    ∙ ap₂ (λ (x y : ℕ). x + y) (counted n) (one-more (is_day n) n)

pub returns : goal.returns
returns c =
    count_from_yields_List c.filter.result _ c.count.ensures.ran (YieldsList-from_filter _ is_day (YieldsList-from_range 0 c.args.end c.args.end (cc) (omega arith)) c.filter.ensures.closure (λ x b q k. search (rules, tests))) ∙ ap (λ (l : List ℕ). length (filter is_day l)) (sym (map-id (range_with_len 0 c.args.end))) ∙ counted c.args.end
