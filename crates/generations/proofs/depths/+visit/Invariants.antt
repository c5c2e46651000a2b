-- `visit` looks at the records from which links lead to y, and then knows the depth of y. The loop's invariant: y is entered, and the links passed lead from
-- records that are done and no deeper than was seen (`Looking`). The measure of the calls is how many records are new, that of the loop the place in
-- the index. It rests on `looking_more`, `visited_loop` and `visited_done`. Assumes nothing.
use Rattle.generations.specs.Inner.{new_count}
use Rattle.generations.proofs.DepthLaws.{Looking}
use Rattle.generations.proofs.depths.+visit.Given as goal

abbrev pub decreases-visit : goal.decreases-visit
decreases-visit l = new_count l.depths.now

abbrev pub invariant-loop-cursor : goal.invariant-loop-cursor
invariant-loop-cursor l = Looking l.links l.y l.fn.depths l.depths l.depth l.cursor

abbrev pub decreases-loop-cursor : goal.decreases-loop-cursor
decreases-loop-cursor l = l.cursor
