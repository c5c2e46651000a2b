-- The cursor stands at one of the arcs out of the record (`Cursor`), and the choice is that of the arcs from it on (`Chosen`). The measure is the cursor, which
-- falls.
use Rattle.std.proofs.Common.{length}
use Rattle.arcs.specs.Arcs.{arc_from}
use Rattle.arcs.specs.Index.{Cursor}
use Rattle.search.specs.Steps.{Chosen}
use Rattle.search.proofs.walk.choose.Given as goal

abbrev pub invariant-loop-cursor : goal.invariant-loop-cursor
invariant-loop-cursor l =
    Cursor (arc_from l.fn.arcs) (length l.fn.arcs) l.fn.aim.at l.cursor
    × Chosen l.fn.arcs l.fn.enter l.fn.work l.fn.seen l.fn.aim.n l.fn.aim.at l.fn.aim.follows l.fn.aim.distance
    (length l.fn.arcs) l.cursor l.best.word l.best.states

abbrev pub decreases-loop-cursor : goal.decreases-loop-cursor
decreases-loop-cursor l = l.cursor
