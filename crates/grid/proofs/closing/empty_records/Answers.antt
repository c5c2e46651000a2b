-- `empty_records` copies word by word. The loop's invariant: the words before c are copied (`Copied`). The measure is the words left. It rests on
-- `copied_word`. Assumes nothing.
use mathlib.Core.Path.{◌∙◌}
use native.Mathlib.Omega.{arith}
use lib.ListN.{length-set}
use Rattle.grid.proofs.MarkLaws.{copied_word}
use Rattle.grid.proofs.closing.empty_records.Goals as goal

pub loop-c-preserved : goal.loop-c-preserved
loop-c-preserved c =
    let at_loop = c in
    let a = at_loop.args in
    let l = at_loop.loop-c in
    record {
      inside = omega arith;
      records_long = length-set l.records l.c _ ∙ l.invariant.records_long;
      copied = copied_word l.c a.marks.now l.records (omega arith) l.invariant.copied;
    }
