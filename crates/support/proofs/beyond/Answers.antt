-- `beyond` goes over the records. The loop's invariant: some record of the list is not below n exactly if one of the rest is. The measure is the records left.
-- Assumes nothing.
use native.Mathlib.Omega.{arith}
use mathlib.Core.Path.{sym, ◌∙◌}
use lib.Dec.{leb}
use borrow.Author.Tests.{le-leb, lt-leb}
use Rattle.support.proofs.LoopLaws.{some_found, some_next, some_past}
use Rattle.support.proofs.beyond.Goals as goal

pub returns-then-n-records : goal.returns-then-n-records
returns-then-n-records c =
    let l = c.loop-i in
    let a = c.args in
    sym (l.invariant.1 ∙ some_found (leb a.n) a.records.now l.i (omega arith) (le-leb _ _ c.if-n-records.true))

pub loop-i-preserved : goal.loop-i-preserved
loop-i-preserved c =
    let l = c.loop-i in
    let a = c.args in
    (omega arith, l.invariant.1 ∙ some_next (leb a.n) a.records.now l.i (omega arith) (lt-leb _ _ c.if-n-records.false))

pub returns : goal.returns
returns c = let a = c.args in let l = c.loop-i in sym (l.invariant.1 ∙ some_past (leb a.n) a.records.now l.i (omega arith))
