-- `count_pairs` goes row by row. The loop's invariant: t is the number of the pairs of the rows below x. The measure is the rows left. It rests on
-- `rows_count`. Assumes nothing.
use mathlib.Core.List.{List}
use mathlib.Core.Path.{◌≡◌}
use Prim.Native.Nat.{ℕ, ◌*◌, ◌≤◌}
use lib.ListN.{length}
use Rattle.k2.specs.PairSets.{rows_pairs}
use Rattle.grid.specs.Grid.{first}
use Rattle.grid.proofs.counting.count_pairs.Given as goal

-- what holds whenever the loop is at its head
pub record Loop (cells masks : List ℕ) (n w t x : ℕ) : Type 0 where
  pub inside : x ≤ n
  pub t_most : t ≤ x * 1024
  pub t_is : t ≡ length (rows_pairs (first n w cells masks) n x)

abbrev pub invariant-loop-x : goal.invariant-loop-x
invariant-loop-x l = Loop l.cells l.masks l.n l.w l.t l.x
