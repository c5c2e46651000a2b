-- The word is what `arc_of` says, in either sense.
use Rattle.std.proofs.Common.{arith}
use Rattle.arcs.specs.ArcLaws.{arc_forward, arc_against}
use Rattle.arcs.proofs.arc.Goals as goal

pub returns-then-sense-eq0 : goal.returns-then-sense-eq0
returns-then-sense-eq0 c = arc_forward _ _ (omega arith)

pub returns : goal.returns
returns c = arc_against _ _ c.if-sense-eq0.false
