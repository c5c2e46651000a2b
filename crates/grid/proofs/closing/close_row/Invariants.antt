-- `close_row` searches from row x. The loop's invariant: row x and the set of what is seen are a search's, and the other rows are as they were (`Searching`).
-- Records with empty rows are seen from the first. The measure is the records not seen. It rests on `searching_more`, `row_done` and `row_back`. Assumes
-- nothing.
use Rattle.std.proofs.Common.{◌-◌}
use Rattle.k2.specs.Bits.{bit_at, ones_below}
use Rattle.grid.proofs.SearchLaws.{Searching}
use Rattle.grid.proofs.closing.close_row.Given as goal

abbrev pub invariant-loop-z : goal.invariant-loop-z
invariant-loop-z l = Searching l.n l.w l.x (bit_at l.marks) (bit_at l.seen) l.initial.cells l.initial.masks l.cells l.masks

abbrev pub decreases-loop-z : goal.decreases-loop-z
decreases-loop-z l = ones_below (λ y. 1 - bit_at l.seen y) l.n
