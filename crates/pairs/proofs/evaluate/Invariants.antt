-- `evaluate` runs all numbers but the last. The loop's invariant: the first i numbers of the code have been run (`Going`), one is left at least, and work and
-- rows are as long as they were. The measure is what is left of the code. Assumes nothing.
use mathlib.Core.List.{List}
use mathlib.Core.Path.{◌≡◌}
use Prim.Native.Nat.{ℕ, ◌+◌, ◌-◌, ◌≤◌}
use lib.ListN.{length}
use Rattle.pairs.specs.declared.Stack.{Stack}
use Rattle.pairs.specs.Steps.{Going}
use Rattle.pairs.proofs.evaluate.Given as goal

-- what holds whenever the loop is at its head
pub record Loop (work₀ : List ℕ) (n : ℕ) (links used rows₀ code work rows : List ℕ) (stack : Stack) (i : ℕ) : Type 0 where
  pub inside : i + 1 ≤ length code
  pub work_as_long : length work ≡ length work₀
  pub rows_as_long : length rows ≡ length rows₀
  pub going : Going n links used code work stack i

abbrev pub invariant-loop-i : goal.invariant-loop-i
invariant-loop-i l = Loop l.initial.work l.n l.links l.used l.initial.rows l.code l.work l.rows l.stack l.i

abbrev pub decreases-loop-i : goal.decreases-loop-i
decreases-loop-i l = length l.code - l.i
