-- `list` goes row by row. The loop's invariant: the pairs of the rows below x are written, and t is their number. The measure is the rows left. It
-- rests on `rows_next`. Assumes nothing.
use mathlib.Core.Path.{refl, ◌∙◌}
use native.Mathlib.Omega.{arith}
use Rattle.k2.specs.PairSets.{Cells}
use Rattle.grid.specs.Grid.{first}
use Rattle.answers.specs.ListingLaws.{grown_none, grown_more, grown_to, grown_all}
use Rattle.grid.proofs.ListingLaws.{rows_none, rows_next, rows_all}
use Rattle.grid.proofs.listing.list.Goals as goal

pub loop-x-init : goal.loop-x-init
loop-x-init c =
    let a = c.args in
    record {
      inside = omega arith;
      t_most = omega arith;
      as_long = refl;
      grown = grown_none 0 _ a.out.now (rows_none (first a.n a.w a.cells.now a.masks.now) a.n);
    }

pub loop-x-preserved : goal.loop-x-preserved
loop-x-preserved c =
    let a = c.args in
    let l = c.loop-x in
    let R = c.list_row-t in
    record {
      inside = omega arith;
      t_most = omega (arith, l.invariant.t_most, R.ensures.0);
      as_long = R.auto.out ∙ l.invariant.as_long;
      grown = grown_more 0 l.t R.result _ _ _ a.out.now l.out _ l.invariant.as_long l.invariant.grown R.ensures.1
          (rows_next a.n a.w l.x a.cells.now a.masks.now (omega arith));
    }

pub returns : goal.returns
returns c =
    let a = c.args in
    let l = c.loop-x in
    let F : Cells = first a.n a.w a.cells.now a.masks.now in
    grown_all l.t _ a.out.now l.out
    (grown_to 0 l.t _ _ a.out.now l.out (rows_all a.n l.x F (omega arith)) l.invariant.grown)
