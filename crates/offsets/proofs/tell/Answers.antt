-- The words of one record more (`told_more`). Assumes nothing.
use Rattle.std.proofs.Common.{arith, ◌+◌, ◌*◌, ◌∙◌}
use Rattle.std.proofs.Math.ListN.{set, length-set}
use Rattle.offsets.proofs.TellLaws.{told_more, past_same}
use Rattle.offsets.proofs.tell.Goals as goal

pub loop-x-preserved : goal.loop-x-preserved
loop-x-preserved c =
    let l = c.loop-x in
    let a = c.args in
    record {
      inside = omega arith;
      as_long = length-set (set l.list (l.x * 2) _) (l.x * 2 + 1) _ ∙ length-set l.list (l.x * 2) _ ∙ l.invariant.as_long;
      told =
          told_more a.n a.d.now l.list l.x c.least_word-a.result c.most_word-b.result
          c.loop-x-test.true (omega (arith, l.invariant.as_long, c.requires.1.1)) c.least_word-a.ensures c.most_word-b.ensures l.invariant.told;
      past = past_same (a.n * 2) (l.x * 2) (l.x * 2 + 1) _ _ l.list a.list.now (omega arith) (omega arith) l.invariant.past;
    }
