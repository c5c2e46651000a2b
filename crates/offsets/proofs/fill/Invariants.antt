-- `fill` writes the numbers in turn. The loop's invariant: the numbers before i are as they are to be. The measure is what is left.
-- Assumes nothing.
use mathlib.Core.Path.{◌≡◌}
use Prim.Native.Nat.{◌≤◌}
use lib.ListN.{length}
use Rattle.offsets.proofs.StartLaws.{Begun}
use Rattle.offsets.proofs.fill.Given as goal

abbrev pub invariant-loop-i : goal.invariant-loop-i
invariant-loop-i l = (l.i ≤ length l.d) × ((length l.d ≡ length l.initial.d) × Begun l.n l.base l.i l.d)
