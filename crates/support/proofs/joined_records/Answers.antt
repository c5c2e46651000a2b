-- `joined_records` goes over the records. The loop's invariant: the records below x are marked as they are joined. The measure is
-- the records left. It rests on `reaches_joined`. Assumes nothing.
use native.Mathlib.Omega.{arith}
use mathlib.Core.Path.{◌∙◌}
use lib.ListN.{length-set}
use Rattle.support.specs.Support.{reaches}
use Rattle.rowpairs.specs.Evaluation.{relation_in}
use Rattle.support.proofs.LoopLaws.{marked_more, below_all, reaches_joined}
use Rattle.support.proofs.joined_records.Goals as goal

pub record_row-row-requires : goal.record_row-row-requires
record_row-row-requires c y h =
    let below = below_all c.args.n c.args.anchors.now c.requires.2 y h in
    omega (arith, below, c.requires.0.small)

pub loop-x-preserved : goal.loop-x-preserved
loop-x-preserved c =
    let l = c.loop-x in
    let a = c.args in
    let m = c.joins_some in
    record {
      inside = omega arith;
      n_most = l.invariant.n_most;
      records_long = length-set l.records l.x m.result ∙ l.invariant.records_long;
      reached = marked_more (reaches (relation_in a.cells.now a.masks.now a.n) a.anchors.now) l.records
          l.x m.result (omega (arith, l.invariant.n_most, l.invariant.records_long))
          (reaches_joined (relation_in a.cells.now a.masks.now a.n) l.x a.anchors.now
          (m.ensures a.anchors.now c.record_row-row.ensures.1 (below_all a.n a.anchors.now c.requires.2)))
          l.invariant.reached;
    }
