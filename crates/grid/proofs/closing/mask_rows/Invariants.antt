-- `mask_rows` has the squares of each row in turn. The loop's invariant: the rows below have their masks. The measure is the rows left. Assumes nothing.
use mathlib.Core.Path.{◌≡◌}
use mathlib.Core.List.{List}
use Prim.Native.Nat.{ℕ, ◌≤◌, ◌<◌}
use lib.ListN.{length, get_or}
use Rattle.k2.specs.Bits.{bit_at}
use Rattle.rows.specs.Steps.{Masked}
use Rattle.grid.proofs.closing.mask_rows.Given as goal

-- what holds whenever the loop is at its head
pub record Loop (rows : List ℕ) (n : ℕ) (masks₀ masks : List ℕ) (row : ℕ) : Type 0 where
  pub inside : row ≤ n
  pub as_long : length masks ≡ length masks₀
  pub masked : (u : ℕ) → u < row → Masked (bit_at rows) u (get_or masks u 0)

abbrev pub invariant-loop-row : goal.invariant-loop-row
invariant-loop-row l = Loop l.rows l.n l.initial.masks l.masks l.row
