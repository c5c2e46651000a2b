-- `close_all` goes over the records whose rows are not empty, word by word. The loops' invariants: the rows are on from where they were (`Goes`), and those of
-- the records before word c, or before the next one of that word, are closed, or empty from the first (`Settled`). Assumes nothing.
use Rattle.std.proofs.Common.{ℕ, ◌+◌, ◌*◌, ◌<◌, min, get_or}
use Rattle.k2.specs.Bits.{bit_at}
use Rattle.grid.specs.Grid.{first}
use Rattle.grid.specs.Closings.{Goes}
use Rattle.grid.specs.Steps.{low}
use Rattle.grid.proofs.OnesLaws.{Left}
use Rattle.grid.proofs.ClosureLaws.{Settled}
use Rattle.grid.proofs.closing.close_all.Given as goal

abbrev pub invariant-loop-c : goal.invariant-loop-c
invariant-loop-c l =
    Goes l.initial.closing l.closing
    × ((u : ℕ) → u < l.c * 64 → Settled l.n (first l.n l.w l.fn.cells l.fn.masks) (bit_at l.closing.marks.now) u)

abbrev pub invariant-loop-k : goal.invariant-loop-k
invariant-loop-k l =
    Left (get_or l.filled l.c 0) 64 l.k-iterator × Goes l.initial.closing l.closing
    × ((u : ℕ) → u < l.c * 64 + min (low l.k-iterator.left) 64 → Settled l.n (first l.n l.w l.fn.cells l.fn.masks) (bit_at l.closing.marks.now) u)
