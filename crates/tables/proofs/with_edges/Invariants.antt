-- The set is joined to the rows of the states that are not left. The measure is what is left.
use Rattle.tables.proofs.RowLaws.{Joining}
use Rattle.tables.proofs.with_edges.Given as goal

abbrev pub invariant-loop-left : goal.invariant-loop-left
invariant-loop-left l = Joining l.initial.rows l.from l.to l.left l.rows

abbrev pub decreases-loop-left : goal.decreases-loop-left
decreases-loop-left l = l.left
