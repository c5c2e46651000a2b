-- `spread_row` writes the words in the mask. The loop's invariant: those of the row before the next are written, and the others are empty. It rests on
-- `spread_more`. Assumes nothing.
use Rattle.std.proofs.Common.{◌*◌}
use Rattle.grid.specs.Grid.{row_of}
use Rattle.grid.specs.Steps.{low, cut_row, Spread}
use Rattle.grid.proofs.OnesLaws.{Left}
use Rattle.grid.proofs.spreading.spread_row.Given as goal

abbrev pub invariant-loop-c : goal.invariant-loop-c
invariant-loop-c l =
    Left l.mask l.w l.c-iterator × Spread l.x (cut_row l.n (row_of l.cells (l.x * l.w) l.mask)) (low l.c-iterator.left) l.initial.rows l.rows
