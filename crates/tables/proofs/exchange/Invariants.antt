-- Each table has the other's rows at the states that are not left. The measure is what is left.
use Rattle.tables.proofs.RowLaws.{Exchanging}
use Rattle.tables.proofs.exchange.Given as goal

abbrev pub invariant-loop-left : goal.invariant-loop-left
invariant-loop-left l = Exchanging l.initial.a l.initial.b l.own l.left l.a l.b

abbrev pub decreases-loop-left : goal.decreases-loop-left
decreases-loop-left l = l.left
