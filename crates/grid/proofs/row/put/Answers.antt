-- `put` stores the word joined, and puts it into the mask (`put_is`). Assumes nothing.
use Rattle.std.proofs.Common.{refl, ◌*◌, arith}
use Rattle.grid.proofs.RowLaws.{one_mask, put_is}
use Rattle.grid.proofs.row.put.Goals as goal

pub returns : goal.returns
returns c =
    let a = c.args in
    rw (one_mask a.c (omega arith))
    (put_is a.w a.t (a.t * a.w) a.c a.v _ _ a.cells.now a.masks.now (omega arith) (omega arith) (omega arith) refl c.join.ensures)
