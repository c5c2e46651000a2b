-- The word of the index is what `first_arc` says.
use Rattle.std.proofs.Common.{refl}
use Rattle.arcs.specs.Index.{first_arc}
use Rattle.arcs.proofs.first_arc.Goals as goal

pub returns : goal.returns
unfolding first_arc
returns c = refl
