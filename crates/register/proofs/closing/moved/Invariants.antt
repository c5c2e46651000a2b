use mathlib.Core.Path.{◌≡◌}
use Prim.Native.Nat.{◌≤◌}
use lib.ListN.{length}
use Rattle.register.specs.Closing.{Moved}
use Rattle.register.proofs.closing.moved.Given as goal

-- the locks of the first i records stand at their new numbers
abbrev pub invariant-loop-i : goal.invariant-loop-i
invariant-loop-i l = record { inside : l.i ≤ l.n; long : length l.moved ≡ 1024; stand : Moved l.marks l.ranks l.i l.moved }
