-- `take_second` goes row by row. The loop's invariant: the rows below x are those of the second relation, and nothing else has changed (`Through`).
-- Assumes nothing.
use Rattle.grid.specs.Grid.{second_rows}
use Rattle.grid.proofs.RelationLaws.{Through}
use Rattle.grid.proofs.algebra.take_second.Given as goal

abbrev pub invariant-loop-x : goal.invariant-loop-x
invariant-loop-x l =
    Through l.n l.w l.x (second_rows l.n l.w l.initial.cells l.initial.masks) l.initial.cells l.initial.masks l.cells l.masks
