-- `occupied` sets a bit for each record whose mask is not 0. The loop's invariant: the bits are those of the records below x (`Filled`). The measure is
-- the records left. It rests on `filled_more` and `filled_same`. Assumes nothing.
use mathlib.Core.List.{List}
use mathlib.Core.Path.{◌≡◌}
use Prim.Native.Nat.{ℕ, ◌≤◌}
use lib.ListN.{length}
use Rattle.k2.specs.Bits.{bit_at}
use Rattle.grid.specs.Steps.{Filled}
use Rattle.grid.proofs.closing.occupied.Given as goal

-- what holds whenever the loop is at its head
pub record Loop (masks : List ℕ) (n : ℕ) (records : List ℕ) (x : ℕ) : Type 0 where
  pub inside : x ≤ n
  pub records_long : length records ≡ 16
  pub filled : Filled x masks (bit_at records)

abbrev pub invariant-loop-x : goal.invariant-loop-x
invariant-loop-x l = Loop l.masks l.n l.records l.x
