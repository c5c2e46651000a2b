-- `count_in_use` looks at the marks in turn. The loop's invariant: the count is that of the records passed that are in use. The measure is how many are left.
-- It rests on `count_used` and `count_out`. Assumes nothing.
use mathlib.Core.Path.{◌≡◌}
use mathlib.Core.List.{List}
use Prim.Native.Nat.{ℕ, ◌≤◌}
use lib.ListN.{length}
use Rattle.generations.specs.Inner.{chosen}
use Rattle.generations.proofs.count_in_use.Given as goal

-- what holds whenever the loop is at its head
pub record Loop (marks : List ℕ) (n count y : ℕ) : Type 0 where
  pub inside : y ≤ n
  pub count_most : count ≤ y
  pub counted : (ds : List ℕ) → count ≡ length (chosen marks ds y)

abbrev pub invariant-loop-y : goal.invariant-loop-y
invariant-loop-y l = Loop l.marks l.n l.count l.y
