-- The loop's invariant: any loop on from here, with the turns that are left, is a loop from the start (`SendsOn`),
-- and the arrays are as long as they were. The measure is the number of turns left. Assumes nothing.
use mathlib.Core.Path.{◌∙◌}
use native.Mathlib.Omega.{arith}
use Rattle.lines.specs.LoopLaws.{sends_more, sends_stop, sends_fail, sends_spent}
use Rattle.lines.proofs.send_all.Goals as goal

pub returns-then-not-turned : goal.returns-then-not-turned
returns-then-not-turned c =
    let l = c.loop-lines in
    let t = c.turn-turned in
    sends_fail l.lines t.result.written _ _ _ (omega arith) l.invariant.sends t.ensures

pub returns-then-not-turned-2 : goal.returns-then-not-turned-2
returns-then-not-turned-2 c =
    let l = c.loop-lines in
    let t = c.turn-turned in
    sends_stop l.lines t.result.written _ _ _ (omega arith) l.invariant.sends t.ensures

pub loop-lines-preserved : goal.loop-lines-preserved
loop-lines-preserved c =
    let l = c.loop-lines in
    let t = c.turn-turned in
    record {
      sends = sends_more l.lines t.result.written _ _ _ (omega arith) l.invariant.sends t.ensures;
      line-long = t.auto.line ∙ l.invariant.line-long;
      out_long = t.auto.out ∙ l.invariant.out_long;
    }

pub returns : goal.returns
returns c = let l = c.loop-lines in sends_spent l.lines (omega arith) l.invariant.sends
