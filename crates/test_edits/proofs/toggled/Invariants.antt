-- The loop's invariant: no more calls were accepted than made. The measure is the number of calls left. Assumes nothing.
use Rattle.std.proofs.Common.{◌≤◌}
use Rattle.test_edits.proofs.toggled.Given as goal

abbrev pub invariant-loop-k : goal.invariant-loop-k
invariant-loop-k l = (l.k ≤ l.times) × (l.t.accepted ≤ l.k)
