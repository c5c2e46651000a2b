-- `ascending` goes over the records with the least that the next may be. The loop's invariant: the list is in order exactly if the rest is from that least on.
-- The measure is the records left. Assumes nothing.
use mathlib.Core.Path.{◌≡◌}
use Prim.Native.Nat.{◌≤◌}
use lib.ListN.{length, drop}
use Rattle.support.specs.Support.{orderly}
use Rattle.support.proofs.ascending.Given as goal

abbrev pub invariant-loop-i : goal.invariant-loop-i
invariant-loop-i l = (l.i ≤ length l.records) × (orderly 0 l.records ≡ orderly l.least (drop l.i l.records))
