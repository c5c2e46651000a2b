-- The number so far, and then the ties that are left, make the number of all. The measure is how many are left. Assumes nothing.
use Rattle.std.proofs.Common.{◌≡◌, ◌-◌, length, drop}
use Rattle.offsets.specs.Inner.{judge_all}
use Rattle.offsets.proofs.judge.Given as goal

abbrev pub invariant-loop-i : goal.invariant-loop-i
invariant-loop-i l = judge_all l.n l.state l.ties 0 ≡ judge_all l.n l.state (drop l.i l.ties) l.found

abbrev pub decreases-loop-i : goal.decreases-loop-i
decreases-loop-i l = length l.ties - l.i
