-- `turn_row` goes over the columns of row x, word by word. The loops' invariants: those before the next word, or before the next column of the word, are put
-- in exchanged (`TurnedTo`). Assumes nothing.
use Rattle.std.proofs.Common.{◌+◌, ◌*◌, min}
use Rattle.grid.specs.Steps.{low}
use Rattle.grid.proofs.OnesLaws.{Left}
use Rattle.grid.proofs.TransposeLaws.{TurnedTo}
use Rattle.grid.proofs.algebra.turn_row.Given as goal

abbrev pub invariant-loop-c : goal.invariant-loop-c
invariant-loop-c l =
    Left l.mask l.w l.c-iterator × TurnedTo l.n l.w l.x l.fn.cells l.fn.masks (low l.c-iterator.left * 64) l.cells l.masks

abbrev pub invariant-loop-k : goal.invariant-loop-k
invariant-loop-k l =
    Left l.word 64 l.k-iterator
    × TurnedTo l.n l.w l.x l.fn.cells l.fn.masks (l.c * 64 + min (low l.k-iterator.left) 64) l.cells l.masks
