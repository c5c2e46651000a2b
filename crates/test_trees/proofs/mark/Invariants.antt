-- `mark` sets a bit for each record below n. The loop's invariant: those below i are set. The measure is the records left. It rests on `below_more`. Assumes
-- nothing.
use mathlib.Core.List.{List}
use mathlib.Core.Path.{◌≡◌}
use Prim.Native.Nat.{ℕ, ◌≤◌}
use lib.ListN.{length}
use Rattle.k2.specs.Bits.{bit_at}
use Rattle.bits.specs.BitSets.{none}
use Rattle.test_trees.specs.Terms.{below}
use Rattle.test_trees.proofs.mark.Given as goal

-- what holds whenever the loop is at its head
pub record Loop (used₀ : List ℕ) (n : ℕ) (used : List ℕ) (i : ℕ) : Type 0 where
  pub inside : i ≤ n
  pub as_long : length used ≡ length used₀
  pub marked : bit_at used₀ ≡ none → bit_at used ≡ below i

abbrev pub invariant-loop-i : goal.invariant-loop-i
invariant-loop-i l = Loop l.initial.used l.n l.used l.i
