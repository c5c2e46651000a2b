-- `beyond` goes over the records. The loop's invariant: some record of the list is not below n exactly if one of the rest is. The measure is the records left.
-- Assumes nothing.
use mathlib.Core.Path.{◌≡◌}
use Prim.Native.Nat.{◌≤◌}
use lib.Dec.{leb}
use lib.ListN.{length, drop}
use Rattle.support.specs.Support.{some}
use Rattle.support.proofs.beyond.Given as goal

abbrev pub invariant-loop-i : goal.invariant-loop-i
invariant-loop-i l = (l.i ≤ length l.records) × (some (leb l.n) l.records ≡ some (leb l.n) (drop l.i l.records))
