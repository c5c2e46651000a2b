-- The distances so far, relaxed by the ties that are left, are those that all ties make. The measure is how many are left. Assumes nothing.
use Rattle.std.proofs.Common.{◌≡◌, ◌-◌, false, length, drop}
use Rattle.offsets.specs.Relax.{relax_all}
use Rattle.offsets.proofs.pass.Given as goal

abbrev pub invariant-loop-i : goal.invariant-loop-i
invariant-loop-i l = relax_all l.n l.ties (l.initial.d, false) ≡ relax_all l.n (drop l.i l.ties) (l.d, l.changed)

abbrev pub decreases-loop-i : goal.decreases-loop-i
decreases-loop-i l = length l.ties - l.i
