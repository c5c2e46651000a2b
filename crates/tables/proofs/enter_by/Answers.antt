-- The lowest bit that is left is taken (`lowest`).
use Rattle.std.proofs.Common.{◌≡◌, ◌-◌, arith}
use Rattle.std.specs.Int.Bits.{bit_and}
use Rattle.std.specs.Int.Count.{count_trailing_zeros}
use Rattle.automaton.proofs.LowestLaws.{Lowest, lowest}
use Rattle.tables.proofs.RowLaws.{entering_more, entering_all, entering_lt}
use Rattle.tables.proofs.enter_by.Goals as goal

pub bounds-enter-c : goal.bounds-enter-c
bounds-enter-c c =
    let turn : Lowest c.loop-left.left (count_trailing_zeros 64 c.loop-left.left) (bit_and c.loop-left.left (c.loop-left.left - 1)) =
    lowest c.loop-left.left (omega arith) c.loop-left.invariant.low in
    omega (arith, turn.small, entering_lt c.loop-left.invariant turn, c.loop-left.invariant.long, c.requires.1)

pub bounds-enter-c-in-loop-left : goal.bounds-enter-c-in-loop-left
bounds-enter-c-in-loop-left c =
    let turn : Lowest c.loop-left.left (count_trailing_zeros 64 c.loop-left.left) (bit_and c.loop-left.left (c.loop-left.left - 1)) =
    lowest c.loop-left.left (omega arith) c.loop-left.invariant.low in
    omega (arith, turn.small, entering_lt c.loop-left.invariant turn, c.loop-left.invariant.long, c.requires.1)

pub loop-left-preserved : goal.loop-left-preserved
loop-left-preserved c =
    let turn : Lowest c.loop-left.left (count_trailing_zeros 64 c.loop-left.left) (bit_and c.loop-left.left (c.loop-left.left - 1)) =
    lowest c.loop-left.left (omega arith) c.loop-left.invariant.low in
    entering_more c.loop-left.invariant turn c.requires.1

pub returns : goal.returns
returns c =
    let e : c.loop-left.left ≡ 0 = omega arith in
    entering_all (rw e at c.loop-left.invariant)
