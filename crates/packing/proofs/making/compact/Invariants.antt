-- `compact` goes through the words in order. The loop's invariant: of the groups before word i, the g that are not all 0 are at the front
-- (`Compacting`). The measure is the words left. At the end the front is the words of these groups (`compact_end`). Assumes nothing.
use mathlib.Core.Path.{◌≡◌}
use mathlib.Core.List.{List}
use Prim.Native.Nat.{ℕ, ◌-◌, ◌*◌, ◌≤◌}
use lib.ListN.{length}
use Rattle.k2.specs.Bits.{bit_at}
use Rattle.packing.specs.Image.{Compacting}
use Rattle.packing.proofs.making.compact.Given as goal

pub record Compacted (heap₀ heap : List ℕ) (g i : ℕ) : Type 0 where
  pub inside : i ≤ length heap₀
  pub few : g ≤ 16 * i
  pub as_long : length heap ≡ length heap₀
  pub front : Compacting (bit_at heap₀) (16 * i) g heap

abbrev pub invariant-loop-i : goal.invariant-loop-i
invariant-loop-i l = Compacted l.initial.heap l.heap l.g l.i

abbrev pub decreases-loop-i : goal.decreases-loop-i
decreases-loop-i l = length l.initial.heap - l.i
