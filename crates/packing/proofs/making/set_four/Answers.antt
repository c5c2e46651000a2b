-- `set_four` clears four digits of a word and puts others in: `set-four`. Assumes nothing.
use Rattle.packing.proofs.StoreLaws.{set-four}
use Rattle.packing.proofs.making.set_four.Goals as goal

pub returns : goal.returns
returns c = set-four _ _ _ c.requires.1 c.requires.0
