-- A turn passes over one row (`pair_row`). Assumes nothing.
use Rattle.std.proofs.Common.{arith, ◌≤◌, ◌<◌, ◌/◌, refl, ◌%◌}
use Rattle.bits.specs.BitSetLaws.{gap_join}
use Rattle.rowpairs.specs.Evaluation.{relation_in}
use Rattle.rowpairs.proofs.CellLaws.{pair_gap, pair_hit, pair_past, pair_row}
use Rattle.rowpairs.proofs.leaving.next_pair.Goals as goal

pub returns-then-n-x : goal.returns-then-n-x
returns-then-n-x c = record {
  low = omega (arith, c.loop-p.invariant.low_end, c.loop-p.invariant.inside);
  high = omega arith;
  gap =
      gap_join _ _ _ _ c.loop-p.invariant.gap (pair_past c.args.cells.now c.args.masks.now c.args.n c.loop-p.p _ (omega (arith, c.if-n-x.true)));
  hit = λ h. absurd (omega arith);
}

pub returns-then-y-n : goal.returns-then-y-n
returns-then-y-n c =
    let y = c.next_column-y.result in
    let C = c.next_column-y.ensures c.args.masks.now refl in
    let low : c.loop-p.p % 1024 ≤ y = C.low c.if-y-n.true in
    let below : y < 1024 = omega (arith, c.if-y-n.true, c.requires.0) in
    let inside : c.loop-p.p < 1048576 = c.loop-p-test.true in
    record {
      low = omega (arith, c.loop-p.invariant.low_end, low);
      high = omega (arith, below, inside);
      gap =
          gap_join _ _ _ _ c.loop-p.invariant.gap (pair_gap (relation_in c.args.cells.now c.args.masks.now c.args.n)
          (c.loop-p.p / 1024) c.loop-p.p y refl (omega (arith, below)) C.gap);
      hit = λ h. pair_hit (relation_in c.args.cells.now c.args.masks.now c.args.n) (c.loop-p.p / 1024) y below (C.hit c.if-y-n.true);
    }

pub loop-p-preserved : goal.loop-p-preserved
loop-p-preserved c =
    let inside : c.loop-p.p < 1048576 = c.loop-p-test.true in
    let C = c.next_column-y.ensures c.args.masks.now refl in
    record {
      low_end = omega (arith, c.loop-p.invariant.low_end);
      inside = omega (arith, inside);
      gap =
          gap_join _ _ _ _ c.loop-p.invariant.gap (pair_row c.args.cells.now c.args.masks.now c.args.n c.loop-p.p C (omega (arith, c.if-y-n.false)));
    }
