-- `last` leaves the value of the last number in rows: that of the operands taken off, from the first of which on the work is lent. Assumes nothing.
use Prim.Native.Nat.{◌*◌, ◌≤◌}
use native.Mathlib.Omega.{arith}
use Rattle.k2.specs.Trees.{tree_unit}
use Rattle.pairs.specs.Steps.{Takes}
use Rattle.pairs.proofs.StepLaws.{starts_early, takes_early}
use Rattle.pairs.proofs.RunLaws.{ends_term}
use Rattle.pairs.proofs.last.Goals as goal

pub offset_bounds-work-start : goal.offset_bounds-work-start
offset_bounds-work-start c =
    let a = c.args in
    let T : Takes (tree_unit a.n) a.item a.stack c.take_off-taken.result = c.take_off-taken.ensures _ c.requires.2 in
    let E : c.take_off-taken.result.below ≤ 18 = takes_early c.requires.1 T in
    let S : c.take_off-taken.result.start ≤ 18 * tree_unit a.n = starts_early T.totals E in
    omega (arith, S, c.requires.0.room)

pub slice_bounds-outcome_rows-count : goal.slice_bounds-outcome_rows-count
slice_bounds-outcome_rows-count c =
    let a = c.args in
    let T : Takes (tree_unit a.n) a.item a.stack c.take_off-taken.result = c.take_off-taken.ensures _ c.requires.2 in
    let E : c.take_off-taken.result.below ≤ 18 = takes_early c.requires.1 T in
    let S : c.take_off-taken.result.start ≤ 18 * tree_unit a.n = starts_early T.totals E in
    omega (arith, S, c.requires.0.room)

pub slice_bounds-outcome_rows-start : goal.slice_bounds-outcome_rows-start
slice_bounds-outcome_rows-start c =
    let a = c.args in
    let T : Takes (tree_unit a.n) a.item a.stack c.take_off-taken.result = c.take_off-taken.ensures _ c.requires.2 in
    let E : c.take_off-taken.result.below ≤ 18 = takes_early c.requires.1 T in
    let S : c.take_off-taken.result.start ≤ 18 * tree_unit a.n = starts_early T.totals E in
    omega (arith, S, c.requires.0.room)

pub returns : goal.returns
returns c =
    let a = c.args in
    let T : Takes (tree_unit a.n) a.item a.stack c.take_off-taken.result = c.take_off-taken.ensures _ c.requires.2 in
    let E : c.take_off-taken.result.below ≤ 18 = takes_early c.requires.1 T in
    let S : c.take_off-taken.result.start ≤ 18 * tree_unit a.n = starts_early T.totals E in
    let P = c.requires in
    let I = c.outcome_rows in
    ends_term a.n a.item a.links.now a.used.now a.work.now a.rows.now
    I.new.rows I.result a.stack P.0.few P.0.room P.0.used_long P.0.rows_long
    c.take_off-taken.result T E I.ensures
