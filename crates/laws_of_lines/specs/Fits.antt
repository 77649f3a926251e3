-- A line of an accepted road at a station up to T is at most 96 bytes long.
use Rattle.std.specs.Prelude.{ℕ, ◌≤◌, length, pos}
use Rattle.std.proofs.Common.{arith}
use Rattle.integers.specs.Bridge.{abs_sum}
use Rattle.road.specs.File.{Road}
use Rattle.integers.specs.Rounding.{rounded}
use Rattle.road.specs.Exact.{total, Side, left, right, height, grade, crossfall, edge_drop, curvature}
use Rattle.road.specs.Line.{printed_edge, printed, line}
use Rattle.laws_of_lists.specs.All as all
use Rattle.laws_of_acceptance.specs.Positive.{Accepted}
use Rattle.decimal.specs.Length.{Short, spaced-length}
use Rattle.laws_of_search.specs.Small.{rounded-small}
use Rattle.laws_of_acceptance.specs.Ranges.{total-small}
use Rattle.laws_of_pieces.specs.Sizes.{height-small, grade-small, crossfall-small, drop-small, curvature-small}

module _ {r : Road} (A : Accepted r) (s : ℕ) (l : s ≤ total r) where
  edge-short : (d : Side) → Short (printed_edge d r s)
  unfolding printed_edge
  edge-short d = omega (arith, abs_sum (rounded (height r s)) (rounded (edge_drop d r s)) (rounded-small (height r s) 27240000 (height-small A s l)) (rounded-small (edge_drop d r s) 840 (drop-small A d s l)))

  pub line-fits : length (line r s) ≤ 96
  unfolding line printed
  line-fits =
      let T = total-small A in
      spaced-length (pos s) _ (omega arith)
      (all.more {a = rounded (height r s)} (omega (arith, rounded-small (height r s) 27240000 (height-small A s l)))
      (all.more {a = rounded (grade r s)} (omega (arith, rounded-small (grade r s) 360000 (grade-small A s)))
      (all.more {a = rounded (crossfall left r s)} (omega (arith, rounded-small (crossfall left r s) 240000 (crossfall-small A left s l)))
      (all.more {a = rounded (crossfall right r s)} (omega (arith, rounded-small (crossfall right r s) 240000 (crossfall-small A right s l)))
      (all.more (edge-short left)
      (all.more (edge-short right)
      (all.more {a = rounded (curvature r s)} (omega (arith, rounded-small (curvature r s) 3000000000 (curvature-small A s l))) all.none)))))))
