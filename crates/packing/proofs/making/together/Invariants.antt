-- `together` takes the words one after another. The loop's invariant: w has each bit that one of the words passed has. The measure is the words left.
-- Assumes nothing.
use mathlib.Core.List.{List}
use mathlib.Core.Path.{◌≡◌}
use Prim.Native.Nat.{ℕ, ◌+◌, ◌*◌, ◌≤◌, ◌<◌}
use lib.ListN.{get_or}
use Rattle.packing.specs.Image.{Together}
use Rattle.packing.proofs.making.together.Given as goal

-- what holds whenever the loop is at its head
pub record Loop (words : List ℕ) (i step count w k : ℕ) : Type 0 where
  pub inside : k ≤ count
  pub all_zero : w ≡ 0 → (j : ℕ) → j < k → get_or words (i + step * j) 0 ≡ 0
  pub together : Together words i step k w

abbrev pub invariant-loop-k : goal.invariant-loop-k
invariant-loop-k l = Loop l.words l.i l.step l.count l.w l.k
