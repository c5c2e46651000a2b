-- `fill_eight` fills eight blocks in turn. The loop's invariant: the cells of the blocks before column c + k are there. The measure is the blocks
-- left. If the words of all eight are 0, they add nothing (`eight_none`). Assumes nothing.
use mathlib.Core.List.{List}
use mathlib.Core.Path.{◌≡◌}
use Prim.Native.Nat.{ℕ, ◌+◌, ◌*◌, ◌^◌, ◌≤◌}
use lib.ListN.{length}
use Rattle.k2.specs.Bits.{bit_at}
use Rattle.k2.specs.PairSets.{Cells, IsSet}
use Rattle.k2.specs.Heap.{cells}
use Rattle.rows.specs.Rows.{flat}
use Rattle.packing.specs.Image.{raised, blocks_to}
use Rattle.packing.proofs.making.fill_eight.Given as goal

-- what holds whenever the loop is at its head
pub record Loop (rows : List ℕ) (r c g base : ℕ) (heap₀ heap : List ℕ) (k : ℕ) : Type 0 where
  pub inside : k ≤ 8
  pub as_long : length heap ≡ length heap₀
  pub filled : (a : Cells) → IsSet (2 ^ (g + 3)) a → bit_at rows ≡ flat a → bit_at heap₀ ≡ raised base (cells (g + 3) (blocks_to (r * 128 + c) a))
      → bit_at heap ≡ raised base (cells (g + 3) (blocks_to (r * 128 + c + k) a))

abbrev pub invariant-loop-k : goal.invariant-loop-k
invariant-loop-k l = Loop l.rows l.r l.c l.g l.base l.initial.heap l.heap l.k
