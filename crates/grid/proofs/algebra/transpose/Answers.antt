-- `transpose` empties the second relation, turns row after row into it and takes it over. The loop's invariant: the rows below x are turned (`Turning`).
-- The measure is the rows left. Assumes nothing.
use mathlib.Core.Path.{◌≡◌, refl, ap, ◌∙◌}
use native.Mathlib.Omega.{arith}
use Rattle.k2.specs.PairSets.{transpose}
use Rattle.grid.proofs.TransposeLaws.{turning_none, turning_more, turning_all, first-same}
use Rattle.grid.proofs.algebra.transpose.Goals as goal

pub loop-x-init : goal.loop-x-init
loop-x-init c =
    let a = c.args in
    let s = c.start_second in
    record {
      inside = omega arith;
      cells_as_long = refl;
      masks_as_long = refl;
      turning = turning_none a.n a.w a.cells.now _ _ (λ k h. refl) s.ensures.1;
    }

pub loop-x-preserved : goal.loop-x-preserved
loop-x-preserved c =
    let after-turn-row = c in
    let at_loop = after-turn-row in
    let start = at_loop in
    let a = start.args in
    let l = at_loop.loop-x in
    let m = after-turn-row.turn_row in
    record {
      inside = omega arith;
      cells_as_long = m.auto.cells ∙ l.invariant.cells_as_long;
      masks_as_long = m.auto.masks ∙ l.invariant.masks_as_long;
      turning = turning_more a.n a.w a.cells.now _ l.x l.cells l.masks _ _ (omega arith) (omega arith) l.invariant.turning m.ensures;
    }

pub returns : goal.returns
returns c =
    let after-take-second = c in
    let at_loop = after-take-second in
    let after-start-second = at_loop in
    let start = after-start-second in
    let a = start.args in
    let l = at_loop.loop-x in
    let e : l.x ≡ a.n = omega arith in
    after-take-second.take_second.ensures ∙ turning_all a.n a.w a.cells.now _ l.cells l.masks (rw e at l.invariant.turning)
    ∙ ap transpose (first-same a.n a.w a.cells.now a.masks.now _ after-start-second.start_second.ensures.0)
