-- `same_line`: the loop's invariant is that the first i bytes are the same; the measure is how many are left. Assumes nothing.
use mathlib.Core.Path.{◌≡◌}
use Prim.Native.Nat.{◌≤◌}
use lib.ListN.{take, drop}
use Rattle.pages.proofs.reading.same_line.Given as goal

abbrev pub invariant-loop-i : goal.invariant-loop-i
invariant-loop-i l = (l.i ≤ 73) × (take l.i (drop l.at l.pages) ≡ take l.i l.line)
