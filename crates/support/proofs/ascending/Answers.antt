-- `ascending` goes over the records with the least that the next may be. The loop's invariant: the list is in order exactly if the rest is from that least on.
-- The measure is the records left. Assumes nothing.
use native.Mathlib.Omega.{arith}
use mathlib.Core.Path.{sym, ◌∙◌}
use Rattle.support.proofs.LoopLaws.{order_broken, order_next, order_past}
use Rattle.support.proofs.ascending.Goals as goal

pub returns-then-x-least : goal.returns-then-x-least
returns-then-x-least c =
    let l = c.loop-i in
    sym (l.invariant.1 ∙ order_broken l.least c.args.records.now l.i (omega arith) c.if-x-least.true)

pub loop-i-preserved : goal.loop-i-preserved
loop-i-preserved c =
    let l = c.loop-i in
    (omega arith, l.invariant.1 ∙ order_next l.least c.args.records.now l.i (omega arith) c.if-x-least.false)

pub returns : goal.returns
returns c = let l = c.loop-i in sym (l.invariant.1 ∙ order_past l.least c.args.records.now l.i (omega arith))
