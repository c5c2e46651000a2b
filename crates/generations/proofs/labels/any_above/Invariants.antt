-- `any_above` looks at the labels in turn. The loop's invariant: whether one is above 25 hangs on those that are left. The measure is how many are left.
-- It rests on `above_next`. Assumes nothing.
use mathlib.Core.Path.{◌≡◌}
use Prim.Native.Nat.{◌≤◌}
use lib.ListN.{length, drop}
use Rattle.generations.specs.Generations.{above}
use Rattle.generations.proofs.labels.any_above.Given as goal

abbrev pub invariant-loop-i : goal.invariant-loop-i
invariant-loop-i l = (l.i ≤ length l.labels) × (above l.labels ≡ above (drop l.i l.labels))
