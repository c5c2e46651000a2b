-- The remainder by a label's unit is the definition. Assumes nothing.
use Rattle.std.proofs.Common.{rules}
use Rattle.links.specs.Parts.{link_pair}
use Rattle.links.proofs.pair_of.Goals as goal

pub returns : goal.returns
unfolding link_pair
returns c = search rules
