-- `spread` goes row by row. The loop's invariant: the rows below x are those of the relation, and the others are empty. The measure is the rows left. It
-- rests on `laid_more`. Assumes nothing.
use mathlib.Core.Path.{◌∙◌}
use native.Mathlib.Omega.{arith}
use Rattle.k2.specs.PairSets.{Cells}
use Rattle.grid.specs.Grid.{first}
use Rattle.grid.proofs.SpreadLaws.{laid_none, laid_more, laid_all}
use Rattle.grid.proofs.spreading.spread.Goals as goal

pub loop-x-init : goal.loop-x-init
loop-x-init c =
    let start = c in
    let a = start.args in
    let F : Cells = first a.n a.w a.cells.now a.masks.now in
    let k = c.clear in
    record { inside = omega arith; rows_long = k.auto.rows ∙ start.requires.1; laid = laid_none F _ k.ensures }

pub loop-x-preserved : goal.loop-x-preserved
loop-x-preserved c =
    let start = c in
    let a = start.args in
    let l = c.loop-x in
    let R = c.spread_row in
    record {
      inside = omega arith;
      rows_long = R.auto.rows ∙ l.invariant.rows_long;
      laid = laid_more a.n a.w a.cells.now a.masks.now l.x l.rows _ (omega arith) l.invariant.laid R.ensures;
    }

pub returns : goal.returns
returns c =
    let a = c.args in
    let l = c.loop-x in
    laid_all a.n a.w a.cells.now a.masks.now l.x l.rows (omega arith) l.invariant.laid
