-- One label more is put in (`contains_more`). Assumes nothing.
use Rattle.std.proofs.Common.{arith}
use Rattle.generations.proofs.LabelLaws.{above_none, contains_none, contains_more}
use Rattle.generations.proofs.labels.set_of.Goals as goal

pub loop-i-init : goal.loop-i-init
loop-i-init c = (omega arith, contains_none c.args.labels.now)

pub overflow_shl-set : goal.overflow_shl-set
overflow_shl-set c = omega (arith, above_none c.args.labels.now c.requires c.loop-i.i c.loop-i-test.true)

pub loop-i-preserved : goal.loop-i-preserved
loop-i-preserved c =
    let h = c.loop-i-test.true in
    (omega arith, contains_more c.loop-i.set c.args.labels.now c.loop-i.i h (above_none c.args.labels.now c.requires c.loop-i.i h) c.loop-i.invariant.1)
