-- `set_diagonal` sets a bit for each record of the set. The loop's invariant: those below i are joined to themselves. The measure is the records
-- left. It rests on `diagonal_more` and `diagonal_skip`. Assumes nothing.
use mathlib.Core.Path.{◌≡◌}
use Rattle.k2.specs.Bits.{bit_at}
use Rattle.k2.specs.PairSets.{Cells, union, diagonal}
use Rattle.rows.specs.Rows.{flat}
use Rattle.rows.specs.Steps.{below}
use Rattle.rows.proofs.set_diagonal.Given as goal

abbrev pub invariant-loop-i : goal.invariant-loop-i
invariant-loop-i l =
    (x : Cells) → bit_at l.initial.rows ≡ flat x → bit_at l.rows ≡ flat (union x (diagonal (below l.i (bit_at l.records))))
