-- `add_row` joins the words in the mask to those of the set. The loop's invariant: the columns before the next word are added (`Adding`). Assumes nothing.
use Rattle.grid.proofs.SearchLaws.{Adding}
use Rattle.grid.specs.Steps.{low}
use Rattle.grid.proofs.OnesLaws.{Left}
use Rattle.grid.proofs.closing.add_row.Given as goal

abbrev pub invariant-loop-c : goal.invariant-loop-c
invariant-loop-c l = Left l.mask l.w l.c-iterator × Adding l.w l.b l.mask (low l.c-iterator.left) l.cells l.initial.set l.set
