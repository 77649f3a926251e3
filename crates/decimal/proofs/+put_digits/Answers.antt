-- The last four digits stand behind those of the front part.
use Rattle.std.proofs.Common.{◌≡◌, sym, ap, ◌∙◌, subst, List, ◌++◌, ℕ, ◌+◌, ◌-◌, ◌/◌, ◌%◌, ◌≤◌, length, arith, rules}
use borrow.Rule.Slice.PartMut.{put_mid}
use Rattle.decimal.specs.Decimal.{digits}
use Rattle.decimal.specs.Digits.{last_digits, length_last, digits_split, length_split, last_rest}
use Rattle.decimal.specs.Written.{Wrote, wrote-append, wrote-copied, wrote-length}
use Rattle.decimal.proofs.+put_digits.Goals as goal
use Rattle.decimal.proofs.+put_digits.Goals.{After-put_digits-front}

-- a number of five digits or more, the last four as they are made
in-two : {x : List ℕ} (n : ℕ) → 10000 ≤ n → x ≡ last_digits 4 (n % 10000) → digits (n / 10000) ++ x ≡ digits n
in-two n h made = ap (λ (l : List ℕ). digits (n / 10000) ++ l) (made ∙ last_rest 4 n) ∙ sym (digits_split 4 n h)

pub put_lead-requires-then-n-lt100000000 : goal.put_lead-requires-then-n-lt100000000
put_lead-requires-then-n-lt100000000 t c = (omega arith, (omega (arith, length_split 4 c.args.n (omega arith), c.requires), omega arith))

pub returns-then-n-lt100000000 : goal.returns-then-n-lt100000000
returns-then-n-lt100000000 t c =
    let w = c.put_lead-then-n-lt100000000 in
    subst (λ (l : List ℕ). Wrote c.args.buf.now w.new.buf 0 l w.result) (in-two c.args.n (omega arith) c.four.ensures) w.ensures

pub put_digits-front-requires : goal.put_digits-front-requires
put_digits-front-requires t c = let d = c.decreases in (omega arith, omega (arith, length_split 4 c.args.n (omega arith), c.requires))

-- the front part leaves room for four digits
room-behind : {b a : List ℕ} {r : ℕ} (n : ℕ) → 10000 ≤ n → length (digits n) ≤ length b → Wrote b a 0 (digits (n / 10000)) r → r + 4 ≤ length a
room-behind {b} {a} {r} n h room w = let l = length_split 4 n h in omega (arith, w.end, wrote-length w (omega arith))

pub overflow_add-front : goal.overflow_add-front
overflow_add-front t c = let r = room-behind c.args.n (omega arith) c.requires c.put_digits-front.ensures in search rules

pub slice_bounds-copy_from_slice-end : goal.slice_bounds-copy_from_slice-end
slice_bounds-copy_from_slice-end t c = let r = room-behind c.args.n (omega arith) c.requires c.put_digits-front.ensures in search rules

pub returns : goal.returns
returns t c =
    let n = c.args.n in
    let f = c.put_digits-front in
    let y = c.copy_from_slice in
    let made : y.new.self ≡ last_digits 4 (n % 10000) = y.ensures.after ∙ c.four-2.ensures in
    let four = ap length made ∙ length_last 4 (n % 10000) in
    let l = length_split 4 n (omega arith) in
    let whole = put_mid f.result (f.result + 4 - f.result) f.new.buf y.new.self in
    let w = wrote-append f.ensures (wrote-copied {k = f.result + 4 - f.result} (omega (arith, four)) (omega arith)) (omega (arith, c.requires)) in
    subst (λ (x : List ℕ). Wrote c.args.buf.now whole 0 x (f.result + 4)) (in-two n (omega arith) made) w
