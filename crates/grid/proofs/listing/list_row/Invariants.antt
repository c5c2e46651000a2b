-- `list_row` goes over the words in the mask. The loop's invariant: the columns before the next word are written. It rests on `cut_word` and `cut_gap`.
-- Assumes nothing.
use Rattle.std.proofs.Common.{◌+◌, ◌*◌, ◌≤◌, min}
use Rattle.answers.specs.Listing.{Grown}
use Rattle.grid.specs.Grid.{row_of}
use Rattle.grid.specs.Steps.{low, cut_row, columns}
use Rattle.grid.proofs.OnesLaws.{Left}
use Rattle.grid.proofs.listing.list_row.Given as goal

abbrev pub invariant-loop-c : goal.invariant-loop-c
invariant-loop-c l =
    Left l.mask l.w l.c-iterator × (l.s ≤ l.t + min (low l.c-iterator.left) l.w * 64)
    × Grown l.t l.s (columns (cut_row l.n (row_of l.cells (l.x * l.w) l.mask)) (l.x * 1024) (low l.c-iterator.left * 64)) l.initial.out l.out
