-- The lowest state's row is joined.
use Rattle.std.proofs.Common.{arith}
use Rattle.automaton.proofs.LowestLaws.{lowest, left_of}
use Rattle.search.proofs.MaskLaws.{spread_none, spread_more}
use Rattle.search.proofs.states.spread.Goals as goal

pub loop-left-init : goal.loop-left-init
loop-left-init c = record { left_below = omega arith; among = λ j o. o; spread = spread_none _ _ }

pub loop-left-preserved : goal.loop-left-preserved
loop-left-preserved c =
    let l = c.loop-left in
    let L = lowest l.left (omega arith) l.invariant.left_below in
    record {
      left_below = omega (arith, L.falls);
      among = λ j o. l.invariant.among j (left_of L j o);
      spread = spread_more l.invariant.spread l.invariant.among L;
    }
