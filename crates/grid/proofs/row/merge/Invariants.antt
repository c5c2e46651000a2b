-- `merge` joins the words in the mask of row r. The loop's invariant: those before the next are joined (`Joined`). Assumes nothing.
use Rattle.std.proofs.Common.{◌*◌, ◌≢◌}
use Rattle.grid.specs.Steps.{low}
use Rattle.grid.proofs.OnesLaws.{Left}
use Rattle.grid.proofs.RowLaws.{Joined}
use Rattle.grid.proofs.row.merge.Given as goal

abbrev pub invariant-loop-c : goal.invariant-loop-c
invariant-loop-c l =
    Left l.source l.w l.c-iterator
    × (l.t ≢ l.r → Joined l.w (l.t * l.w) (l.r * l.w) (low l.c-iterator.left) l.mask l.source l.initial.cells l.cells)
