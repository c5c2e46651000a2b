-- `spread` goes row by row. The loop's invariant: the rows below x are those of the relation, and the others are empty. The measure is the rows left. It
-- rests on `laid_more`. Assumes nothing.
use mathlib.Core.List.{List}
use mathlib.Core.Path.{◌≡◌}
use Prim.Native.Nat.{ℕ, ◌≤◌}
use lib.ListN.{length}
use Rattle.grid.specs.Grid.{first}
use Rattle.grid.proofs.SpreadLaws.{Laid}
use Rattle.grid.proofs.spreading.spread.Given as goal

-- what holds whenever the loop is at its head
pub record Loop (cells masks : List ℕ) (n w : ℕ) (rows : List ℕ) (x : ℕ) : Type 0 where
  pub inside : x ≤ n
  pub rows_long : length rows ≡ 16384
  pub laid : Laid x (first n w cells masks) rows

abbrev pub invariant-loop-x : goal.invariant-loop-x
invariant-loop-x l = Loop l.cells l.masks l.n l.w l.rows l.x
