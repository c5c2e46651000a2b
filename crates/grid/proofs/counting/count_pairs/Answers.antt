-- `count_pairs` goes row by row. The loop's invariant: t is the number of the pairs of the rows below x. The measure is the rows left. It rests on
-- `rows_count`. Assumes nothing.
use mathlib.Core.Path.{sym, ap, ◌∙◌}
use native.Mathlib.Omega.{arith}
use lib.ListN.{length}
use Rattle.grid.specs.Grid.{first}
use Rattle.grid.proofs.ListingLaws.{rows_none, rows_all}
use Rattle.grid.proofs.CountLaws.{rows_count}
use Rattle.grid.proofs.counting.count_pairs.Goals as goal

pub loop-x-init : goal.loop-x-init
loop-x-init c =
    let a = c.args in
    record {
      inside = omega arith;
      t_most = omega arith;
      t_is = sym (ap length (rows_none (first a.n a.w a.cells.now a.masks.now) a.n));
    }

pub loop-x-preserved : goal.loop-x-preserved
loop-x-preserved c =
    let a = c.args in
    let l = c.loop-x in
    let R = c.count_row-t in
    record {
      inside = omega arith;
      t_most = omega (arith, l.invariant.t_most, R.ensures.0);
      t_is = rows_count a.n a.w l.x l.t R.result a.cells.now a.masks.now (omega arith) l.invariant.t_is R.ensures.1;
    }

pub returns : goal.returns
returns c =
    let a = c.args in
    let l = c.loop-x in
    l.invariant.t_is ∙ ap length (rows_all a.n l.x (first a.n a.w a.cells.now a.masks.now) (omega arith))
