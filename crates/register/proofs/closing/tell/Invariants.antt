use mathlib.Core.Path.{◌≡◌}
use mathlib.Core.List.{◌++◌}
use Prim.Native.Nat.{◌≤◌}
use lib.ListN.{drop}
use Rattle.book.specs.Book.{new_numbers}
use Rattle.register.specs.Closing.{in_use}
use Rattle.register.proofs.closing.tell.Given as goal

-- the numbers of the first i records stand, and then what stood there
abbrev pub invariant-loop-i : goal.invariant-loop-i
invariant-loop-i l = record { inside : l.i ≤ l.n; stand : l.numbers ≡ new_numbers (in_use l.marks) l.i ++ drop l.i l.fn.numbers }
