-- `compose` goes row by row. The loop's invariant: the rows below x are those of the product, and of the two relations nothing else has changed
-- (`Through`). It rests on `compose_more` and `compose_skip`. Assumes nothing.
use Rattle.std.proofs.Common.{◌≡◌, ◌∙◌, ◌*◌, ◌≤◌, ◌<◌, arith}
use Rattle.grid.proofs.RelationLaws.{through_all}
use Rattle.grid.proofs.ProductLaws.{compose_more, compose_skip, within_product}
use Rattle.grid.proofs.algebra.compose.Goals as goal
use Rattle.grid.proofs.algebra.compose.Goals.{then-masks-x-ne0, else-masks-x-ne0}

pub loop-x-preserved : goal.loop-x-preserved
loop-x-preserved c =
    let a = c.args in
    let l = c.loop-x in
    let nl : a.n ≤ a.w * 64 = omega arith in
    let xl : l.x < a.n = omega arith in
    elim c.if-masks-x-ne0.branch [
      | then-masks-x-ne0 v ↦
          rw (v.cells-is, v.masks-is) (compose_more a.n a.w l.x a.cells.now a.masks.now l.cells l.masks nl xl l.invariant _ _ v.compose_row.ensures)
      | else-masks-x-ne0 v ↦
          rw (v.cells-is, v.masks-is) (compose_skip a.n a.w l.x a.cells.now a.masks.now l.cells l.masks nl xl l.invariant v.if-masks-x-ne0.false)
    ]

pub returns : goal.returns
returns c =
    let a = c.args in
    let l = c.loop-x in
    let e : l.x ≡ a.n = omega arith in
    through_all a.n a.w _ a.cells.now a.masks.now l.cells l.masks (omega arith) (rw e at l.invariant)
    ∙ within_product a.n a.w a.cells.now a.masks.now
