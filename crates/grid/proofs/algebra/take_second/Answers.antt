-- `take_second` goes row by row. The loop's invariant: the rows below x are those of the second relation, and nothing else has changed (`Through`).
-- Assumes nothing.
use Rattle.std.proofs.Common.{◌≡◌, arith}
use Rattle.grid.proofs.RelationLaws.{through_all}
use Rattle.grid.proofs.TransposeLaws.{taken_more}
use Rattle.grid.proofs.algebra.take_second.Goals as goal

pub loop-x-preserved : goal.loop-x-preserved
loop-x-preserved c =
    let a = c.args in
    let l = c.loop-x in
    taken_more a.n a.w l.x a.cells.now a.masks.now l.cells l.masks _ _ (omega arith) l.invariant c.take_row.ensures

pub returns : goal.returns
returns c =
    let a = c.args in
    let l = c.loop-x in
    let e : l.x ≡ a.n = omega arith in
    through_all a.n a.w _ a.cells.now a.masks.now l.cells l.masks (omega arith) (rw e at l.invariant)
