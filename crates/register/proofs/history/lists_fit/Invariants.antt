use mathlib.Core.Path.{◌≡◌}
use Prim.Native.Nat.{◌+◌, ◌*◌, ◌≤◌}
use lib.ListN.{length as size, take}
use Rattle.register.specs.History.{calls_of, closings}
use Rattle.register.proofs.history.lists_fit.Given as goal

-- what is left, and 1,024 for each closing up so far, is the length
abbrev pub invariant-loop-i : goal.invariant-loop-i
invariant-loop-i l = record { inside : l.i ≤ size l.words; stand : l.left + 1024 * closings (calls_of (take l.i l.words)) ≡ l.length }
