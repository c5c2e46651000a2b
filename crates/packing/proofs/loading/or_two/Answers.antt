-- `or_two` puts in digits that stand in one word (`or_short`). Assumes nothing.
use native.Mathlib.Omega.{arith}
use Rattle.packing.proofs.StoreLaws.{or_short}
use Rattle.packing.proofs.loading.or_two.Goals as goal

pub returns : goal.returns
returns c = or_short _ _ _ 2 (let p = c.requires.0 in omega arith) c.requires.2 c.requires.1
