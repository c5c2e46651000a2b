-- `transpose` empties the second relation, turns row after row into it and takes it over. The loop's invariant: the rows below x are turned (`Turning`).
-- The measure is the rows left. Assumes nothing.
use mathlib.Core.List.{List}
use mathlib.Core.Path.{◌≡◌}
use Prim.Native.Nat.{ℕ, ◌≤◌}
use lib.ListN.{length}
use Rattle.grid.proofs.TransposeLaws.{Turning}
use Rattle.grid.proofs.algebra.transpose.Given as goal

-- what holds whenever the loop is at its head
pub record Loop (cells₀ masks₀ : List ℕ) (n w : ℕ) (cells masks : List ℕ) (x : ℕ) : Type 0 where
  pub inside : x ≤ n
  pub cells_as_long : length cells ≡ length cells₀
  pub masks_as_long : length masks ≡ length masks₀
  pub turning : Turning n w x cells₀ masks₀ cells masks

abbrev pub invariant-loop-x : goal.invariant-loop-x
invariant-loop-x l = Loop l.initial.cells l.initial.masks l.n l.w l.cells l.masks l.x
