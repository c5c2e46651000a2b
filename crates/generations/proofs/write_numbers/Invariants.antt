-- `write_numbers` looks at the records in turn. The loop's invariant: the numbers of those passed that are in use are written (`Wrote`). The measure is how
-- many are left. It rests on `wrote_used` and `wrote_out`. Assumes nothing.
use mathlib.Core.List.{List}
use mathlib.Core.Path.{◌≡◌}
use Prim.Native.Nat.{ℕ, ◌≤◌}
use lib.ListN.{length}
use Rattle.answers.specs.Written.{Wrote}
use Rattle.generations.specs.Inner.{chosen}
use Rattle.generations.proofs.write_numbers.Given as goal

-- what holds whenever the loop is at its head
pub record Loop (marks depths : List ℕ) (n : ℕ) (list₀ list : List ℕ) (count y : ℕ) : Type 0 where
  pub inside : y ≤ n
  pub count_most : count ≤ y
  pub as_long : length list ≡ length list₀
  pub wrote : Wrote 0 (chosen marks depths y) list₀ list count

abbrev pub invariant-loop-y : goal.invariant-loop-y
invariant-loop-y l = Loop l.marks l.depths l.n l.initial.list l.list l.count l.y
