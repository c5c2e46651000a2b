use mathlib.Core.Path.{◌≡◌}
use Prim.Native.Nat.{ℕ, ◌≤◌}
use lib.ListN.{length}
use Rattle.book.specs.Book.{rank}
use Rattle.register.specs.Closing.{in_use, new_of}
use Rattle.register.proofs.closing.ranks.Given as goal

-- the ranks of all numbers up to i stand
abbrev pub invariant-loop-i : goal.invariant-loop-i
invariant-loop-i l =
    record { inside : l.i ≤ length l.marks; long : length l.ranks ≡ 1025; stand : (x : ℕ) → x ≤ l.i → new_of l.ranks x ≡ rank (in_use l.marks) x }
