-- `or_word` puts the lower digits into one word and the others into the next: `or_word`. Assumes nothing.
use native.Mathlib.Omega.{arith}
use Rattle.packing.proofs.StoreLaws.{or_word}
use Rattle.packing.proofs.making.or_word.Goals as goal

pub returns : goal.returns
returns c = or_word _ _ _ (omega arith) c.requires
