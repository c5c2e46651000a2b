-- `unite` merges row by row. The loop's invariant: the rows below x are united, and nothing else has changed (`Through`). Assumes nothing.
use Rattle.std.proofs.Common.{◌≡◌, ap, ◌∙◌, ◌+◌, max, arith}
use Rattle.k2.specs.PairSets.{union}
use Rattle.grid.specs.Grid.{first_rows}
use Rattle.grid.proofs.RelationLaws.{row_at, through_merge, unite_row, through_all, within_union}
use Rattle.grid.proofs.algebra.unite.Goals as goal

pub merge-requires : goal.merge-requires
merge-requires c =
    let l = c.loop-x in
    (row_at l.x c.requires l.auto.cells l.auto.masks (omega arith), row_at (c.args.n + l.x) c.requires l.auto.cells l.auto.masks (omega arith))

pub loop-x-preserved : goal.loop-x-preserved
unfolding union
loop-x-preserved c =
    let a = c.args in
    let ws = a.cells.now in
    let ms = a.masks.now in
    let l = c.loop-x in
    through_merge a.n a.w l.x _ ws ms l.cells l.masks (omega arith) l.invariant _ _ _ (c.merge.ensures (λ e. absurd (omega arith)))
    (λ y h. ap (max (first_rows a.w ws ms l.x y)) (unite_row a.n a.w l.x _ ws ms l.cells l.masks (omega arith) l.invariant y h))

pub returns : goal.returns
returns c =
    let a = c.args in
    let l = c.loop-x in
    let e : l.x ≡ a.n = omega arith in
    through_all a.n a.w _ a.cells.now a.masks.now l.cells l.masks (omega arith) (rw e at l.invariant) ∙ within_union a.n _ _
