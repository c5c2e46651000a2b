-- `count_row` counts the bits of the words in the mask. The loop's invariant: s is the number of the columns before the next word. It rests on `count_more`.
-- Assumes nothing.
use Rattle.std.proofs.Common.{◌≡◌, ◌*◌, ◌≤◌, min, length}
use Rattle.grid.specs.Grid.{row_of}
use Rattle.grid.specs.Steps.{low, cut_row, columns}
use Rattle.grid.proofs.OnesLaws.{Left}
use Rattle.grid.proofs.counting.count_row.Given as goal

abbrev pub invariant-loop-c : goal.invariant-loop-c
invariant-loop-c l =
    Left l.mask l.w l.c-iterator × (l.s ≤ min (low l.c-iterator.left) l.w * 64)
    × (l.s ≡ length (columns (cut_row l.n (row_of l.cells (l.x * l.w) l.mask)) (l.x * 1024) (low l.c-iterator.left * 64)))
