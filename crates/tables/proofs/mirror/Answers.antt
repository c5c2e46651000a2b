-- It rests on `mirrored_pair`.
use Rattle.std.proofs.Common.{arith, length-set}
use Rattle.tables.proofs.RowLaws.{mirrored_pair}
use Rattle.tables.proofs.mirror.Goals as goal

pub loop-c-preserved : goal.loop-c-preserved
loop-c-preserved c =
    record {
      inside = omega arith;
      even = omega arith;
      enter_long = simp (length-set, length-set) c.loop-c.invariant.enter_long;
      turned = mirrored_pair c.loop-c.invariant.turned (omega arith) c.loop-c.invariant.even (omega arith);
    }
