use Rattle.std.proofs.Common.{length, ◌-◌, ◌+◌, ◌≤◌, take}
use Rattle.answers.specs.Written.{Wrote}
use Rattle.answers.proofs.copy_u32.Given as goal

-- the first i of the list are written
abbrev pub invariant-loop-i : goal.invariant-loop-i
invariant-loop-i l = record { inside : l.i ≤ length l.from; wrote : Wrote l.at (take l.i l.from) l.fn.to l.to (l.at + l.i) }

abbrev pub decreases-loop-i : goal.decreases-loop-i
decreases-loop-i l = length l.from - l.i
