-- `first_joined` looks at the records in turn. The loop's invariant: none of those passed is joined to itself. The measure is how
-- many are left. Assumes nothing.
use Prim.Native.Nat.{ℕ, ◌<◌, ◌≤◌}
use Rattle.generations.specs.Inner.{Joined}
use Rattle.generations.proofs.first_joined.Given as goal

abbrev pub invariant-loop-x : goal.invariant-loop-x
invariant-loop-x l = (l.x ≤ l.n) × ((k : ℕ) → k < l.x → Joined l.rows k → ⊥)
