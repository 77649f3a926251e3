-- A number takes a byte or more, and ends in the input.
use Rattle.std.proofs.Common.{rules, arith, sym, ◌<◌, ◌≤◌, length, length-take, length-drop}
use Rattle.file_numbers.specs.Bits.{byte_count_some}
use Rattle.file_numbers.specs.Shape.{read_exactly}
use Rattle.cases.proofs.split_number.Goals as goal
use Rattle.cases.proofs.split_number.Goals.{In_ok-n}

inside : (c : In_ok-n) → (0 < c.in_ok-n.n.next) × (c.in_ok-n.n.next ≤ length c.args.input.now)
inside c =
    let n = c.in_ok-n.n in
    let e = read_exactly c.args.input.now 0 n.value n.next (λ i. (c.type_inv.input i).fits) (sym c.in_ok-n.ensures) in
    (omega (arith, e.next-is, byte_count_some n.value), e.next-within)

pub slice_bounds-result-count : goal.slice_bounds-result-count
slice_bounds-result-count c = (inside (goal.at.slice_bounds-result-count c).In_ok-n).1

pub slice_bounds-result-start : goal.slice_bounds-result-start
slice_bounds-result-start c = let i = inside (goal.at.slice_bounds-result-start c).In_ok-n in search rules

pub returns-clause-shorter : goal.returns-clause-shorter
returns-clause-shorter c = let i = inside (goal.at.returns-clause-shorter c).In_ok-n in simp (length-take, length-drop) (omega arith)
