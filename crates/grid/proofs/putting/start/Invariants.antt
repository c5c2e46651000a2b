-- `start` makes the masks 0. The loop's invariant: those below x are. The measure is the masks left. Assumes nothing.
use mathlib.Core.List.{List}
use Prim.Native.Nat.{ℕ, ◌<◌, ◌≤◌}
use lib.ListN.{length, get_or}
use mathlib.Core.Path.{◌≡◌}
use Rattle.grid.proofs.putting.start.Given as goal

-- what holds whenever the loop is at its head
pub record Loop (masks₀ : List ℕ) (n : ℕ) (masks : List ℕ) (x : ℕ) : Type 0 where
  pub inside : x ≤ n
  pub as_long : length masks ≡ length masks₀
  pub cleared : (k : ℕ) → k < x → get_or masks k 0 ≡ 0

abbrev pub invariant-loop-x : goal.invariant-loop-x
invariant-loop-x l = Loop l.initial.masks l.n l.masks l.x
