-- `lift_first` takes the groups of the first word from the last on. The loop's invariant: the bits from place q on are those of f (`above`).
-- The measure is q. It rests on `lift_some` and `lift_none`. Assumes nothing.
use mathlib.Core.List.{List}
use mathlib.Core.Path.{◌≡◌}
use Prim.Native.Nat.{ℕ, ◌≤◌, min}
use lib.ListN.{length}
use Rattle.k2.specs.Bits.{bit_at}
use Rattle.packing.specs.Image.{above, Heaped}
use Rattle.packing.proofs.making.lift_first.Given as goal

-- what holds whenever the loop is at its head
pub record Loop (heap₀ heap : List ℕ) (q : ℕ) : Type 0 where
  pub inside : q ≤ 15
  pub as_long : length heap ≡ length heap₀
  pub lifted : (b : ℕ) (f : ℕ → ℕ) → Heaped b f → bit_at heap₀ ≡ above (min b 15) f → bit_at heap ≡ above (min b q) f

abbrev pub invariant-loop-q : goal.invariant-loop-q
invariant-loop-q l = Loop l.initial.heap l.heap l.q

abbrev pub decreases-loop-q : goal.decreases-loop-q
decreases-loop-q l = l.q
