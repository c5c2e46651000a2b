-- `set_of` puts the labels in, one after another. The loop's invariant: the set has those passed (`Contains`). The measure is how many are left.
-- It rests on `contains_more`. Assumes nothing.
use Prim.Native.Nat.{◌≤◌}
use lib.ListN.{length, take}
use Rattle.generations.specs.Inner.{Contains}
use Rattle.generations.proofs.labels.set_of.Given as goal

abbrev pub invariant-loop-i : goal.invariant-loop-i
invariant-loop-i l = (l.i ≤ length l.labels) × Contains l.set (take l.i l.labels)
