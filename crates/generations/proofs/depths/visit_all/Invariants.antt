-- `visit_all` looks at the records below n in turn. The loop's invariant: those passed are done, and none is entered (`Settled`). The measure is how many are
-- left. It rests on `settled_more` and `settled_loop`. Assumes nothing.
use mathlib.Core.List.{List}
use mathlib.Core.Path.{◌≡◌}
use Prim.Native.Nat.{ℕ, ◌≤◌}
use lib.ListN.{length}
use Rattle.generations.proofs.DepthLaws.{Settled}
use Rattle.generations.proofs.depths.visit_all.Given as goal

-- what holds whenever the loop is at its head
pub record Loop (links : List ℕ) (n : ℕ) (depths : List ℕ) (y : ℕ) : Type 0 where
  pub inside : y ≤ n
  pub depths_long : length depths ≡ 1024
  pub settled : Settled links depths y

abbrev pub invariant-loop-y : goal.invariant-loop-y
invariant-loop-y l = Loop l.links l.n l.depths l.y
