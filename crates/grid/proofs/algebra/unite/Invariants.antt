-- `unite` merges row by row. The loop's invariant: the rows below x are united, and nothing else has changed (`Through`). Assumes nothing.
use Rattle.k2.specs.PairSets.{union}
use Rattle.grid.specs.Grid.{first_rows, second_rows}
use Rattle.grid.proofs.RelationLaws.{Through}
use Rattle.grid.proofs.algebra.unite.Given as goal

abbrev pub invariant-loop-x : goal.invariant-loop-x
invariant-loop-x l =
    let ws = l.initial.cells in
    let ms = l.initial.masks in
    Through l.n l.w l.x (union (first_rows l.w ws ms) (second_rows l.n l.w ws ms)) ws ms l.cells l.masks
