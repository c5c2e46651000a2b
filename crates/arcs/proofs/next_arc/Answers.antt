-- The word of the index is what `next_arc` says.
use Rattle.std.proofs.Common.{refl}
use Rattle.arcs.specs.Index.{next_arc}
use Rattle.arcs.proofs.next_arc.Goals as goal

pub returns : goal.returns
unfolding next_arc
returns c = refl
