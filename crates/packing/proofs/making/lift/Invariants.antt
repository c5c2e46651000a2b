-- `lift` goes through the words from the last to the second, and then through the groups of the first. The loop's invariant: the bits that
-- tell of the groups of the words from word i on are there (`above`). The measure is i. Assumes nothing.
use mathlib.Core.Path.{◌≡◌}
use mathlib.Core.List.{List}
use Prim.Native.Nat.{ℕ, ◌+◌, ◌-◌, ◌*◌, ◌≤◌, min}
use lib.ListN.{length}
use Rattle.k2.specs.Bits.{bit_at}
use Rattle.packing.specs.Image.{above, Heaped}
use Rattle.packing.proofs.making.lift.Given as goal

pub record Lifted (heap₀ heap : List ℕ) (i : ℕ) : Type 0 where
  pub one_left : 1 ≤ i
  pub inside : i ≤ length heap₀
  pub as_long : length heap ≡ length heap₀
  pub lifted : (b : ℕ) (f : ℕ → ℕ) → Heaped b f → 4 * b + 4 ≤ 64 * length heap₀ → bit_at heap₀ ≡ above b f → bit_at heap ≡ above (min b (16 * i - 1)) f

abbrev pub invariant-loop-i : goal.invariant-loop-i
invariant-loop-i l = Lifted l.initial.heap l.heap l.i

abbrev pub decreases-loop-i : goal.decreases-loop-i
decreases-loop-i l = l.i
