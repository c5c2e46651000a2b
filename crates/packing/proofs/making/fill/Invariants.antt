-- `fill` goes through the blocks row by row. The loops' invariant: the cells of the blocks passed are there; past the last block of a row there are
-- no cells (`to_row`). The measures are the rows, and the columns, left. Assumes nothing.
use mathlib.Core.Path.{◌≡◌}
use mathlib.Core.List.{List}
use Prim.Native.Nat.{ℕ, ◌+◌, ◌-◌, ◌*◌, ◌%◌, ◌^◌, ◌≤◌}
use lib.ListN.{length}
use Rattle.bits.specs.BitSets.{none}
use Rattle.k2.specs.Bits.{bit_at}
use Rattle.k2.specs.PairSets.{Cells, IsSet}
use Rattle.k2.specs.Heap.{cells}
use Rattle.rows.specs.Rows.{flat}
use Rattle.packing.specs.Image.{raised, blocks_to}
use Rattle.packing.proofs.making.fill.Given as goal

-- in row r of blocks, those before column c are filled
pub record RowFilled (rows : List ℕ) (g base : ℕ) (heap₀ : List ℕ) (r : ℕ) (heap : List ℕ) (c : ℕ) : Type 0 where
  pub inside : c ≤ 128
  pub eights : c % 8 ≡ 0
  pub as_long : length heap ≡ length heap₀
  pub filled : (a : Cells) → IsSet (2 ^ (g + 3)) a → bit_at rows ≡ flat a → bit_at heap₀ ≡ raised base (cells (g + 3) (blocks_to (r * 128) a))
      → bit_at heap ≡ raised base (cells (g + 3) (blocks_to (r * 128 + c) a))

abbrev pub invariant-loop-c : goal.invariant-loop-c
invariant-loop-c l = RowFilled l.rows l.g l.base l.initial.heap l.r l.heap l.c

abbrev pub decreases-loop-c : goal.decreases-loop-c
decreases-loop-c l = 128 - l.c

-- what holds whenever the loop is at its head
pub record Loop (rows : List ℕ) (g base : ℕ) (heap₀ : List ℕ) (side : ℕ) (heap : List ℕ) (r : ℕ) : Type 0 where
  pub inside : r ≤ side
  pub as_long : length heap ≡ length heap₀
  pub filled : (a : Cells) → IsSet (2 ^ (g + 3)) a → bit_at rows ≡ flat a → bit_at heap₀ ≡ none
      → bit_at heap ≡ raised base (cells (g + 3) (blocks_to (r * 128) a))

abbrev pub invariant-loop-r : goal.invariant-loop-r
invariant-loop-r l = Loop l.rows l.g l.base l.initial.heap l.side l.heap l.r
