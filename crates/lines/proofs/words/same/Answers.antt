-- byte by byte. The loop's invariant: what is left is the same as the whole is. The measure is the bytes left.
-- Assumes nothing.
use mathlib.Core.Path.{sym, ◌∙◌}
use native.Mathlib.Omega.{arith}
use Rattle.lines.specs.TypedLaws.{same_next, same_not, same_none, same_length}
use Rattle.lines.proofs.words.same.Goals as goal

pub returns-then-a-b : goal.returns-then-a-b
returns-then-a-b c = sym (same_length c.args.a.now c.args.b.now c.if-a-b.true)

pub returns-then-a-i : goal.returns-then-a-i
returns-then-a-i c =
    let l = c.loop-i in
    let a = c.args in
    sym (same_not a.a.now a.b.now l.i (omega arith) (omega arith) c.if-a-i.true) ∙ l.invariant.left

pub loop-i-preserved : goal.loop-i-preserved
loop-i-preserved c =
    let l = c.loop-i in
    let a = c.args in
    record {
      inside = omega arith;
      left = same_next a.a.now a.b.now l.i (omega arith) (omega arith) c.if-a-i.false ∙ l.invariant.left;
    }

pub returns : goal.returns
returns c =
    let l = c.loop-i in
    sym (same_none c.args.a.now c.args.b.now l.i (omega arith) (omega arith)) ∙ l.invariant.left
