-- A number below 10 is its own last digit.
use Rattle.std.proofs.Common.{◌≡◌, ap, [], ◌∷◌, ℕ, ◌+◌, ◌%◌, arith}
use Rattle.decimal.specs.Digits.{last_digits}
use Rattle.decimal.proofs.one.Goals as goal

pub returns : goal.returns
unfolding last_digits
returns c =
    let n = c.args.n in
    let e : n ≡ n % 10 = omega (arith, c.requires) in
    ap (λ (d : ℕ). (48 + d) ∷ []) e
