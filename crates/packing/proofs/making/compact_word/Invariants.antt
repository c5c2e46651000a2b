-- `compact_word` takes the groups of a word that are not all 0, the lowest first. The loop's invariant: w holds what is left of the word, and the
-- groups passed are at the front (`Left`); each turn leaves a group less, so at most sixteen are put in. The measure is w. Assumes nothing.
use mathlib.Core.Path.{◌≡◌}
use mathlib.Core.List.{List}
use Prim.Native.Nat.{ℕ, ◌+◌, ◌-◌, ◌*◌, ◌^◌, ◌≤◌, ◌<◌}
use lib.ListN.{length}
use Rattle.packing.specs.Image.{Compacting}
use Rattle.packing.proofs.CompactLaws.{Left}
use Rattle.packing.proofs.making.compact_word.Given as goal

pub record WordCompacted (heap₀ : List ℕ) (i g : ℕ) (heap : List ℕ) (r w : ℕ) : Type 0 where
  pub from_here : g ≤ r
  pub sixteen : r ≤ g + 16
  pub fewer_left : w < 2 ^ (4 * (g + 16 - r))
  pub as_long : length heap ≡ length heap₀
  pub left : (f : ℕ → ℕ) → Compacting f (16 * i) g heap₀ → Left f i r w heap

abbrev pub invariant-loop-w : goal.invariant-loop-w
invariant-loop-w l = WordCompacted l.initial.heap l.i l.g l.heap l.r l.w

abbrev pub decreases-loop-w : goal.decreases-loop-w
decreases-loop-w l = l.w
