-- The label at i decides (`above_here`), or those after it (`above_next`). Assumes nothing.
use Rattle.std.proofs.Common.{arith, ◌∙◌, sym}
use Rattle.generations.proofs.LabelLaws.{above_here, above_next, above_end}
use Rattle.generations.proofs.labels.any_above.Goals as goal

pub returns-then-labels-i-ge-LABELS : goal.returns-then-labels-i-ge-LABELS
returns-then-labels-i-ge-LABELS c = sym (c.loop-i.invariant.1 ∙ above_here c.args.labels.now c.loop-i.i c.loop-i-test.true c.if-labels-i-ge-LABELS.true)

pub loop-i-preserved : goal.loop-i-preserved
loop-i-preserved c =
    (omega arith, c.loop-i.invariant.1 ∙ above_next c.args.labels.now c.loop-i.i c.loop-i-test.true (omega (arith, c.if-labels-i-ge-LABELS.false)))

pub returns : goal.returns
returns c = sym (c.loop-i.invariant.1 ∙ above_end c.args.labels.now c.loop-i.i (omega (arith, c.loop-i-test.false)))
