-- `take_row` empties the row and merges that of the second relation (`taken_row`). Assumes nothing.
use Rattle.std.proofs.Common.{arith}
use Rattle.grid.proofs.TransposeLaws.{taken_row}
use Rattle.grid.proofs.algebra.take_row.Goals as goal

pub returns : goal.returns
returns c =
    let a = c.args in
    taken_row a.n a.w a.x a.cells.now a.masks.now _ _ (omega arith) (omega arith) (c.merge.ensures (λ e. absurd (omega arith)))
