-- Past the rows of a table every cell is 0.
use Rattle.std.specs.Prelude.{◌≡◌, refl, ℕ, zero, suc, ◌-◌, ◌/◌, ◌<◌, List, [], ◌∷◌, replicate, get_or}
use Rattle.std.proofs.Common.{arith}
use Rattle.std.proofs.lemmas.List.{get_or-replicate}
use Rattle.road.specs.Limits.{cell}
use Rattle.limits.proofs.row_of.Goals as goal

same_cells : (rows : List (List ℕ)) (row columns column : ℕ) → column < columns → get_or (get_or rows row (replicate columns 0)) column 0 ≡ get_or (get_or rows row []) column 0
same_cells [] row columns column h = get_or-replicate columns column 0 0 h
same_cells (cells ∷ rows) zero columns column h = refl
same_cells (cells ∷ rows) (suc row) columns column h = same_cells rows row columns column h

pub returns : goal.returns
unfolding cell
returns g c = λ column h. rw (c.unwrap_or.ensures, c.copied.ensures, c.get.ensures.lookup.4 (omega arith) (replicate g.row.COLUMNS 0), c.saturating_sub.ensures) (same_cells c.args.rows.now ((c.args.speed - 40) / 10) g.row.COLUMNS column h)
