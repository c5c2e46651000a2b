-- `fresh` goes over the words in the mask. The loop's invariant: `found` is a column that is not seen, or those before the next word are (`LookedTo`). It
-- rests on `looked_word`. Assumes nothing.
use Rattle.std.proofs.Common.{◌*◌}
use Rattle.k2.specs.Bits.{bit_at}
use Rattle.grid.specs.Grid.{row_of}
use Rattle.grid.specs.Steps.{low}
use Rattle.grid.proofs.OnesLaws.{Left}
use Rattle.grid.proofs.SearchLaws.{LookedTo}
use Rattle.grid.proofs.closing.fresh.Given as goal

abbrev pub invariant-loop-c : goal.invariant-loop-c
invariant-loop-c l =
    Left l.mask l.w l.c-iterator × LookedTo l.n l.w (low l.c-iterator.left * 64) (row_of l.cells (l.x * l.w) l.mask) (bit_at l.seen) l.found
