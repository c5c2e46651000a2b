-- `next` looks at what is left of the first word, and then at whole words. The loop's invariant: no bit from `lo` to word q. It rests on
-- `next_here`: the trailing zeros of a word tell its lowest digit that is set. Assumes nothing.
use Prim.Native.Nat.{◌*◌}
use Rattle.k2.specs.Bits.{bit_at}
use Rattle.bits.specs.BitSets.{Gap}
use Rattle.bits.proofs.next.Given as goal

abbrev pub invariant-loop-q : goal.invariant-loop-q
invariant-loop-q l = Gap (bit_at l.words) l.lo (l.q * 64)
