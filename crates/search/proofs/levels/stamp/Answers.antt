-- The lowest state is marked.
use Rattle.std.proofs.Common.{arith, length-set}
use Rattle.automaton.proofs.LowestLaws.{lowest, left_of}
use Rattle.search.proofs.MarkLaws.{stamp_more}
use Rattle.search.proofs.levels.stamp.Goals as goal

pub loop-left-preserved : goal.loop-left-preserved
loop-left-preserved c =
    let l = c.loop-left in
    let L = lowest l.left (omega arith) l.invariant.left_below in
    let s = L.small in
    record {
      left_below = omega (arith, L.falls);
      among = λ j o. l.invariant.among j (left_of L j o);
      as_long = simp length-set l.invariant.as_long;
      stamped = stamp_more l.invariant.stamped l.invariant.among L (omega arith);
    }
