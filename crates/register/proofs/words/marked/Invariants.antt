use Prim.Native.Nat.{ℕ, ◌≤◌, ◌<◌}
use lib.ListN.{length, get_or}
use Rattle.register.specs.Marks.{free_mark, withdrawn_mark}
use Rattle.register.specs.Inner.{Tested}
use Rattle.register.proofs.words.marked.Given as goal

-- ok is whether the words before i are marks
abbrev pub invariant-loop-i : goal.invariant-loop-i
invariant-loop-i l = record { inside : l.i ≤ length l.words; front : Tested ((j : ℕ) → j < l.i → get_or l.words j free_mark ≤ withdrawn_mark) l.ok }
