-- figure by figure. The loop's invariant: what is read so far is a number, and with the figures that
-- are left it is what the whole word is (`read_after`). The measure is the bytes left. Assumes nothing.
use mathlib.Core.Path.{sym, ◌∙◌}
use Prim.Native.Nat.{◌+◌, ◌-◌, ◌*◌}
use native.Mathlib.Omega.{arith}
use lib.ListN.{drop, get_or}
use Rattle.lines.specs.ReadLaws.{number_begun, number_empty, number_next, number_below, number_above, number_over, number_none}
use Rattle.lines.proofs.words.as_number.Goals as goal

pub returns-then-w-eq0 : goal.returns-then-w-eq0
returns-then-w-eq0 c = sym (number_empty c.args.w.now c.if-w-eq0.true)

pub returns-then-c-lt48 : goal.returns-then-c-lt48
returns-then-c-lt48 c =
    let l = c.loop-i in
    let w = c.args.w.now in
    sym (number_below l.value w l.i (omega arith) (omega arith)) ∙ l.invariant.left ∙ number_begun w (omega arith)

pub returns-then-c-gt57 : goal.returns-then-c-gt57
returns-then-c-gt57 c =
    let l = c.loop-i in
    let w = c.args.w.now in
    sym (number_above l.value w l.i (omega arith) (omega arith) (omega arith)) ∙ l.invariant.left ∙ number_begun w (omega arith)

pub returns-then-value-gt-MOST_NUMBER : goal.returns-then-value-gt-MOST_NUMBER
returns-then-value-gt-MOST_NUMBER c =
    let l = c.loop-i in
    let w = c.args.w.now in
    let d = get_or w l.i 0 in
    sym (number_over (l.value * 10 + (d - 48)) (drop (l.i + 1) w) (omega arith))
    ∙ number_next l.value w l.i (omega arith) (omega arith) (omega arith) ∙ l.invariant.left ∙ number_begun w (omega arith)

pub loop-i-preserved : goal.loop-i-preserved
loop-i-preserved c =
    let l = c.loop-i in
    let w = c.args.w.now in
    record {
      small = omega arith;
      inside = omega arith;
      left = number_next l.value w l.i (omega arith) (omega arith) (omega arith) ∙ l.invariant.left;
    }

pub returns : goal.returns
returns c =
    let l = c.loop-i in
    let w = c.args.w.now in
    sym (number_none l.value w l.i (omega arith) (omega arith)) ∙ l.invariant.left ∙ number_begun w (omega arith)
