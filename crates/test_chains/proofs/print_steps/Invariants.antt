-- i is at most the count. The measure is the number of steps to come.
use Rattle.std.proofs.Common.{◌≤◌}
use Rattle.test_chains.proofs.print_steps.Given as goal

abbrev pub invariant-loop-i : goal.invariant-loop-i
invariant-loop-i l = l.i ≤ l.count
