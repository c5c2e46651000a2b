-- The passes that are left make of the distances so far what all of them make. The measure is how many are left. Assumes nothing.
use Rattle.std.proofs.Common.{◌≡◌, false}
use Rattle.offsets.specs.Relax.{settled}
use Rattle.offsets.proofs.settle.Given as goal

abbrev pub invariant-loop-left : goal.invariant-loop-left
invariant-loop-left l = settled l.n l.left l.ties (l.d, l.on) ≡ settled l.n l.rounds l.ties (l.initial.d, false)

abbrev pub decreases-loop-left : goal.decreases-loop-left
decreases-loop-left l = l.left
