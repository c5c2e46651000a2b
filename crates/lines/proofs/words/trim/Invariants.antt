-- `lines::words::trim` meets its contract. The loop's invariant: the first n bytes without the blanks at their end are what the whole is without its.
-- The measure is n. Assumes nothing.
use mathlib.Core.Path.{◌≡◌}
use Prim.Native.Nat.{◌≤◌}
use lib.ListN.{length, take}
use Rattle.lines.specs.Typed.{trim}
use Rattle.lines.proofs.words.trim.Given as goal

abbrev pub invariant-loop-n : goal.invariant-loop-n
invariant-loop-n l = record { inside : l.n ≤ length l.s; left : trim (take l.n l.s) ≡ trim l.s }

abbrev pub decreases-loop-n : goal.decreases-loop-n
decreases-loop-n l = l.n
