-- The loop's invariant: i is at most n, and n at most the length. The measure is what is left of n. Assumes nothing.
use Rattle.std.proofs.Common.{◌≤◌, length}
use Rattle.test_reading.proofs.write_numbers.Given as goal

abbrev pub invariant-loop-i : goal.invariant-loop-i
invariant-loop-i l = (l.i ≤ l.n) × (l.n ≤ length l.code)
