-- `block` gathers a byte from each of eight words. The loop's invariant: v has the bytes of the r words passed (`Bytes`). The measure is the
-- words left. Assumes nothing.
use Prim.Native.Nat.{◌≤◌}
use Rattle.packing.proofs.StoreLaws.{Bytes}
use Rattle.packing.proofs.making.block.Given as goal

abbrev pub invariant-loop-r : goal.invariant-loop-r
invariant-loop-r l = (l.r ≤ 8) × Bytes l.rows l.i l.k l.r l.v
