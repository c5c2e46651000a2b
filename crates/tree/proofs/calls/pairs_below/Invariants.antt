-- `pairs_below` looks at each pair. The loop's invariant: the ends of the pairs passed are below n. The measure is the pairs left. Assumes
-- nothing.
use Prim.Native.Nat.{ℕ, ◌/◌, ◌%◌, ◌≤◌, ◌<◌}
use lib.ListN.{length, get_or}
use Rattle.tree.proofs.calls.pairs_below.Given as goal

abbrev pub invariant-loop-i : goal.invariant-loop-i
invariant-loop-i l = (l.i ≤ length l.pairs) × ((k : ℕ) → k < l.i → (get_or l.pairs k 0 / 1024 < l.n) × (get_or l.pairs k 0 % 1024 < l.n))
