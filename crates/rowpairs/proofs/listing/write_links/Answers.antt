-- One pair more is written (`written_more`). Assumes nothing.
use Rattle.std.proofs.Common.{arith, ◌∙◌}
use Rattle.std.proofs.Math.ListN.{length-set}
use Rattle.rowpairs.proofs.LoneLetterLaws.{written_more}
use Rattle.rowpairs.proofs.listing.write_links.Goals as goal

pub loop-i-preserved : goal.loop-i-preserved
loop-i-preserved c =
    let o = c.lesser-count.ensures in
    record {
      inside = omega arith;
      as_long = length-set c.loop-i.list c.loop-i.i _ ∙ c.loop-i.invariant.as_long;
      wrote =
          written_more c.loop-i.i c.args.words.now c.loop-i.list c.args.list.now (omega (arith, o.0)) (omega (arith, o.1)) c.loop-i.invariant.wrote;
    }
