-- The index is empty, and has room for the arcs.
use Rattle.std.proofs.Common.{ℕ, arith}
use Rattle.std.proofs.Math.ListN.{length-replicate}
use Rattle.k2.specs.BitLaws.{zeros_at}
use Rattle.search.proofs.walk.forward.Goals as goal

pub index_by_left-requires : goal.index_by_left-requires
index_by_left-requires c = (c.requires.0, omega (arith, length-replicate {A = ℕ} 2048 0), zeros_at 2048)

pub index_by_left-requires-2 : goal.index_by_left-requires-2
index_by_left-requires-2 c = (c.requires.0, omega (arith, length-replicate {A = ℕ} 9216 0, c.requires.0), zeros_at 9216)
