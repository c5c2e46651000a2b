-- `product_row` goes over the columns of row x, word by word. The loops' invariants: the rows of the middle records before the next word, or before the next
-- column of the word, are gathered (`Gathered`). Assumes nothing.
use Rattle.std.proofs.Common.{◌+◌, ◌*◌, min}
use Rattle.grid.specs.Steps.{low}
use Rattle.grid.proofs.OnesLaws.{Left}
use Rattle.grid.proofs.ProductLaws.{Gathered}
use Rattle.grid.proofs.algebra.product_row.Given as goal

abbrev pub invariant-loop-c : goal.invariant-loop-c
invariant-loop-c l =
    Left l.mask l.w l.c-iterator × Gathered l.n l.w l.x l.fn.cells l.fn.masks (low l.c-iterator.left * 64) l.cells l.masks

abbrev pub invariant-loop-k : goal.invariant-loop-k
invariant-loop-k l =
    Left l.word 64 l.k-iterator
    × Gathered l.n l.w l.x l.fn.cells l.fn.masks (l.c * 64 + min (low l.k-iterator.left) 64) l.cells l.masks
