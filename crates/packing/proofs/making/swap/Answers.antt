-- `swap` exchanges two sets of bits: `swap_law`. Assumes nothing.
use native.Mathlib.Omega.{arith}
use Rattle.packing.proofs.WordLaws.{swap_law}
use Rattle.packing.proofs.making.swap.Goals as goal

pub returns : goal.returns
returns c = swap_law _ _ _ (omega arith) (omega arith) c.requires.1
