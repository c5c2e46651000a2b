-- `operator` takes its operands off the stack and lends the work from the first of them on to the operation; `goes_operator` does the rest. Assumes nothing.
use native.Mathlib.Omega.{arith}
use mathlib.Core.Path.{◌≡◌}
use Prim.Native.Nat.{◌-◌, ◌*◌, ◌≤◌}
use lib.ListN.{length, take, drop}
use Rattle.k2.specs.Trees.{tree_unit}
use Rattle.pairs.specs.Steps.{Takes}
use Rattle.pairs.proofs.StepLaws.{starts_early, takes_early, goes_operator}
use Rattle.pairs.proofs.operator.Goals as goal

pub offset_bounds-work-start : goal.offset_bounds-work-start
offset_bounds-work-start c =
    let a = c.args in
    let T : Takes (tree_unit a.n) a.item a.stack c.take_off-taken.result = c.take_off-taken.ensures _ c.requires.2 in
    let E : c.take_off-taken.result.below ≤ 18 = takes_early c.requires.1 T in
    let S : c.take_off-taken.result.start ≤ 18 * tree_unit a.n = starts_early T.totals E in
    omega (arith, S, c.requires.0.room)

pub slice_bounds-operate-count : goal.slice_bounds-operate-count
slice_bounds-operate-count c =
    let a = c.args in
    let T : Takes (tree_unit a.n) a.item a.stack c.take_off-taken.result = c.take_off-taken.ensures _ c.requires.2 in
    let E : c.take_off-taken.result.below ≤ 18 = takes_early c.requires.1 T in
    let S : c.take_off-taken.result.start ≤ 18 * tree_unit a.n = starts_early T.totals E in
    omega (arith, S, c.requires.0.room)

pub slice_bounds-operate-start : goal.slice_bounds-operate-start
slice_bounds-operate-start c =
    let a = c.args in
    let T : Takes (tree_unit a.n) a.item a.stack c.take_off-taken.result = c.take_off-taken.ensures _ c.requires.2 in
    let E : c.take_off-taken.result.below ≤ 18 = takes_early c.requires.1 T in
    let S : c.take_off-taken.result.start ≤ 18 * tree_unit a.n = starts_early T.totals E in
    omega (arith, S, c.requires.0.room)

pub returns : goal.returns
returns c =
    let a = c.args in
    let T : Takes (tree_unit a.n) a.item a.stack c.take_off-taken.result = c.take_off-taken.ensures _ c.requires.2 in
    let E : c.take_off-taken.result.below ≤ 18 = takes_early c.requires.1 T in
    let S : c.take_off-taken.result.start ≤ 18 * tree_unit a.n = starts_early T.totals E in
    let P = c.requires in
    let q = c.take_off-taken.result in
    let I = c.operate-made in
    let h : q.start ≤ length a.work.now = omega (arith, S, P.0.room) in
    let kept : length I.new.work ≡ length (take (length a.work.now - q.start) (drop q.start a.work.now)) = I.auto.work in
    goes_operator a.n a.item a.links.now a.used.now a.work.now
    I.new.work a.stack q I.result c.bounded-size.result P.0.few P.0.room
    T h c.bounded-size.ensures.0 c.bounded-size.ensures.1 kept
    (length a.rows.now) P.0.rows_long I.ensures P.0.used_long E P.2.slots
