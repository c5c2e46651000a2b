-- `answers::copy_u8` meets its contract. The loop's invariant: the first i bytes of the from are written. The measure is what is left of the from.
-- A turn's store is one byte more, by `wrote_byte` and `Wrote-then`. Assumes nothing.
use Rattle.std.proofs.Common.{add-zero, arith}
use Rattle.std.proofs.lemmas.List.{take_all}
use Rattle.answers.specs.WrittenLaws.{wrote_none, wrote_as, wrote_more}
use Rattle.answers.proofs.copy_u8.Goals as goal

pub loop-i-init : goal.loop-i-init
loop-i-init c = record { inside = omega arith; wrote = rw add-zero (wrote_none c.args.at c.args.to.now (omega arith)) }

pub loop-i-preserved : goal.loop-i-preserved
loop-i-preserved c =
    let here = c.loop-i in
    record {
      inside = omega arith;
      wrote = wrote_more c.args.at here.i c.args.from.now c.args.to.now here.to here.invariant.wrote (omega arith) (omega arith);
    }

pub returns : goal.returns
returns c = wrote_as (take_all c.loop-i.i c.args.from.now c.loop-i-test.false) c.loop-i.invariant.wrote
