-- Of the links passed no letter enters a state (`NoUse`). The measure is what is left of the links.
use Rattle.std.proofs.Common.{◌≤◌, length}
use Rattle.arcs.specs.Arcs.{NoUse}
use Rattle.arcs.proofs.next_of_use.Given as goal

abbrev pub invariant-loop-i : goal.invariant-loop-i
invariant-loop-i l = (l.at ≤ l.i) × (l.i ≤ length l.links) × NoUse l.links l.enter l.at l.i
