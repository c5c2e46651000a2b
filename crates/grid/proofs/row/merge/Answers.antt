-- `merge` joins the words in the mask of row r. The loop's invariant: those before the next are joined (`Joined`). Assumes nothing.
use Rattle.std.proofs.Common.{refl, ◌*◌, arith}
use Rattle.grid.specs.Grid.{first_rows}
use Rattle.grid.proofs.OnesLaws.{begun, went}
use Rattle.grid.proofs.RowLaws.{joined-none, joined-more, joined_all}
use Rattle.grid.proofs.RelationLaws.{rows_other}
use Rattle.grid.proofs.row.merge.Goals as goal

pub loop-c-init : goal.loop-c-init
loop-c-init c =
    let a = c.args in
    let B = begun c.into_iter-c-iterator.ensures.into_iter_gives c.of-c-items.ensures in
    (B.0, λ n. joined-none a.w (a.t * a.w) (a.r * a.w) _ _ _ a.cells.now B.1)

pub loop-c-preserved : goal.loop-c-preserved
loop-c-preserved c =
    let a = c.args in
    let l = c.loop-c in
    let k = c.in-Some.c in
    let S = went c.next.new.self l.invariant.0 c.in-Some.ensures.steps in (
      S.left,
      λ n. joined-more a.w (a.t * a.w) (a.r * a.w) k _ _ c.join.result a.cells.now l.cells S.inside
          (omega arith) S.is_one _ S.next (rows_other a.t a.r a.w n) (rw S.here at (l.invariant.1 n)) c.join.ensures,
    )

pub returns : goal.returns
unfolding first_rows
returns c =
    let a = c.args in
    let l = c.loop-c in
    λ n. joined_all a.w a.t (a.t * a.w) (a.r * a.w) _ _ _ a.cells.now
    l.cells a.masks.now (rw l.invariant.0.end_is at c.in-None.ensures.steps.1) (omega arith) refl (l.invariant.1 n)
