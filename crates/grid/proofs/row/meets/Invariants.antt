-- `meets` goes over the words in the mask. The loop's invariant: no column before the next word is in both. It rests on `both_some` and `both_none`.
-- Assumes nothing.
use Rattle.std.proofs.Common.{◌*◌}
use Rattle.k2.specs.Bits.{bit_at}
use Rattle.bits.specs.BitSets.{both, Gap}
use Rattle.grid.specs.Grid.{row_of}
use Rattle.grid.specs.Steps.{low}
use Rattle.grid.proofs.OnesLaws.{Left}
use Rattle.grid.proofs.row.meets.Given as goal

abbrev pub invariant-loop-c : goal.invariant-loop-c
invariant-loop-c l = Left l.mask l.w l.c-iterator × Gap (both (row_of l.cells l.b l.mask) (bit_at l.row)) 0 (low l.c-iterator.left * 64)
