-- i is at most the list's length. The measure is the number of words to come.
use Rattle.std.proofs.Common.{◌≤◌, length}
use Rattle.test_ends.proofs.print_list.Given as goal

abbrev pub invariant-loop-i : goal.invariant-loop-i
invariant-loop-i l = l.i ≤ length l.list
