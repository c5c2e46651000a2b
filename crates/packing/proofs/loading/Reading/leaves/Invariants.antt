-- `leaves` puts the cells of one square of side 2 after another. The loop's invariant: the cells of the squares passed are in the rows. It rests on
-- `reads_cell`. Assumes nothing.
use Rattle.std.proofs.Common.{◌≡◌, length, take}
use Rattle.k2.specs.Bits.{bit_at}
use Rattle.k2.specs.PairSets.{Cells, union}
use Rattle.rows.specs.Rows.{flat}
use Rattle.packing.specs.Reading.{squares_of, AllRead}
use Rattle.packing.proofs.loading.Reading.leaves.Given as goal

abbrev pub invariant-loop-at : goal.invariant-loop-at
invariant-loop-at g l = (length l.rows ≡ length l.initial.rows)
    × ((a t : Cells) → bit_at l.initial.rows ≡ flat a → AllRead l.self.sense l.self.tree.now 1 l.squares t
    → bit_at l.rows ≡ flat (union a (squares_of 1 (take l.at-index l.squares) t)))
