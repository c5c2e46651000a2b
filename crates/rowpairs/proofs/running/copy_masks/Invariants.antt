-- Those below i are copied. The measure is how many are left. Assumes nothing.
use Rattle.std.proofs.Common.{◌≡◌, ℕ, ◌≤◌, ◌<◌, List, length, get_or}
use Rattle.rowpairs.proofs.running.copy_masks.Given as goal

-- what holds whenever the loop is at its head
pub record Loop (from to₀ : List ℕ) (n : ℕ) (to : List ℕ) (i : ℕ) : Type 0 where
  pub inside : i ≤ n
  pub as_long : length to ≡ length to₀
  pub copied : (k : ℕ) → k < i → get_or to k 0 ≡ get_or from k 0

abbrev pub invariant-loop-i : goal.invariant-loop-i
invariant-loop-i l = Loop l.from l.initial.to l.n l.to l.i
