-- `compose` goes row by row. The loop's invariant: the rows below x are those of the product, and of the two relations nothing else has changed
-- (`Through`). It rests on `compose_more` and `compose_skip`. Assumes nothing.
use Rattle.grid.proofs.RelationLaws.{Through}
use Rattle.grid.proofs.ProductLaws.{composed}
use Rattle.grid.proofs.algebra.compose.Given as goal

abbrev pub invariant-loop-x : goal.invariant-loop-x
invariant-loop-x l =
    Through l.n l.w l.x (composed l.n l.w l.initial.cells l.initial.masks) l.initial.cells l.initial.masks l.cells l.masks
