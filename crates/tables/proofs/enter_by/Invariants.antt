-- The bit is joined to the rows of the letters whose labels are not left. The measure is what is left.
use Rattle.tables.proofs.RowLaws.{Entering}
use Rattle.tables.proofs.enter_by.Given as goal

abbrev pub invariant-loop-left : goal.invariant-loop-left
invariant-loop-left l = Entering l.initial.enter l.labels l.sense l.bit l.left l.enter

abbrev pub decreases-loop-left : goal.decreases-loop-left
decreases-loop-left l = l.left
