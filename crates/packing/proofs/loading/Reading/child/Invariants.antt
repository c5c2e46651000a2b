-- `child` adds the ones before the block of p's word, those of the block's words before it, and those in it up to p (`child_count`). The loop's invariant: n is
-- the number of ones before the word reached. Assumes nothing.
use Rattle.std.proofs.Common.{◌≡◌, ◌+◌, ◌*◌}
use Rattle.k2.specs.Bits.{bit_at, ones_below}
use Rattle.packing.proofs.loading.Reading.child.Given as goal

abbrev pub invariant-loop-w : goal.invariant-loop-w
invariant-loop-w g l = l.n ≡ ones_below (bit_at l.self.tree.now) ((l.block * g.row.BLOCK + l.w-index) * 64)
