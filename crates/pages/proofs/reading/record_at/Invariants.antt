-- `record_at`: the loop's invariant is that v is the value of the first i bytes; the measure is how many are left. A turn is one figure more (`value_more`).
-- Assumes nothing.
use mathlib.Core.Path.{◌≡◌}
use Prim.Native.Nat.{◌≤◌}
use lib.ListN.{take, drop}
use Rattle.pages.specs.Lines.{value}
use Rattle.pages.proofs.reading.record_at.Given as goal

abbrev pub invariant-loop-i : goal.invariant-loop-i
invariant-loop-i l = (l.i ≤ 5) × (l.v ≡ value (take l.i (drop l.at l.pages)))
