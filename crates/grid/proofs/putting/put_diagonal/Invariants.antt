-- `put_diagonal` goes record by record. The loop's invariant: the records below x are joined to themselves. The measure is the records left.
-- Assumes nothing.
use mathlib.Core.List.{List}
use Prim.Native.Nat.{ℕ, ◌≤◌}
use Rattle.grid.specs.Grid.{first, within}
use Rattle.k2.specs.Bits.{bit_at}
use Rattle.k2.specs.PairSets.{union, diagonal}
use lib.ListN.{length}
use mathlib.Core.Path.{◌≡◌}
use Rattle.grid.proofs.putting.put_diagonal.Given as goal

-- what holds whenever the loop is at its head
pub record Loop (used cells₀ masks₀ : List ℕ) (n w : ℕ) (cells masks : List ℕ) (x : ℕ) : Type 0 where
  pub inside : x ≤ n
  pub cells_as_long : length cells ≡ length cells₀
  pub masks_as_long : length masks ≡ length masks₀
  pub put : first n w cells masks ≡ union (first n w cells₀ masks₀) (within n (within x (diagonal (bit_at used))))

abbrev pub invariant-loop-x : goal.invariant-loop-x
invariant-loop-x l = Loop l.used l.initial.cells l.initial.masks l.n l.w l.cells l.masks l.x
