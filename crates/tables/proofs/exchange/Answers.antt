-- The lowest bit that is left is taken (`lowest`).
use Rattle.std.proofs.Common.{◌≡◌, ◌-◌, arith}
use Rattle.std.specs.Int.Bits.{bit_and}
use Rattle.std.specs.Int.Count.{count_trailing_zeros}
use Rattle.automaton.proofs.LowestLaws.{Lowest, lowest}
use Rattle.tables.proofs.RowLaws.{exchanging_more, exchanging_all}
use Rattle.tables.proofs.exchange.Goals as goal

pub loop-left-preserved : goal.loop-left-preserved
loop-left-preserved c =
    let turn : Lowest c.loop-left.left (count_trailing_zeros 64 c.loop-left.left) (bit_and c.loop-left.left (c.loop-left.left - 1)) =
    lowest c.loop-left.left (omega arith) c.loop-left.invariant.low in
    exchanging_more c.loop-left.invariant turn

pub returns : goal.returns
returns c =
    let e : c.loop-left.left ≡ 0 = omega arith in
    exchanging_all (rw e at c.loop-left.invariant)
