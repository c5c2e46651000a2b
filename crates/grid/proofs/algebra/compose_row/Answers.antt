-- `compose_row` makes the row and stores it (`row_replaced`). Assumes nothing.
use Rattle.std.proofs.Common.{◌∙◌, ◌+◌, length-set, arith}
use Rattle.grid.proofs.ProductLaws.{row_replaced}
use Rattle.grid.proofs.algebra.compose_row.Goals as goal

pub returns : goal.returns
returns c =
    let a = c.args in
    let p = c.product_row in
    let long = p.auto.masks ∙ length-set a.masks.now (a.n + a.n) 0 in
    row_replaced a.n a.w a.x a.cells.now a.masks.now (omega arith) (omega arith) _ _ _ _
    (omega arith) long p.ensures (c.merge.ensures (λ e. absurd (omega arith)))
