-- `start_second` goes mask by mask. The loop's invariant: those of the second relation's rows below x are 0. The measure is the rows left. Assumes nothing.
use mathlib.Core.List.{List}
use mathlib.Core.Path.{◌≡◌}
use Prim.Native.Nat.{ℕ, ◌+◌, ◌≤◌, ◌<◌}
use lib.ListN.{length, get_or}
use Rattle.grid.proofs.algebra.start_second.Given as goal

-- what holds whenever the loop is at its head
pub record Loop (masks₀ : List ℕ) (n : ℕ) (masks : List ℕ) (x : ℕ) : Type 0 where
  pub inside : x ≤ n
  pub as_long : length masks ≡ length masks₀
  pub first-same : (k : ℕ) → k < n → get_or masks k 0 ≡ get_or masks₀ k 0
  pub second_empty : (k : ℕ) → k < x → get_or masks (n + k) 0 ≡ 0

abbrev pub invariant-loop-x : goal.invariant-loop-x
invariant-loop-x l = Loop l.initial.masks l.n l.masks l.x
