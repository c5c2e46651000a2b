-- The first i numbers have been run (`Going`), and work and masks are as long as they were. The measure is what is left of the code. Assumes nothing.
use Rattle.std.proofs.Common.{◌≡◌, ℕ, ◌-◌, ◌≤◌, List, length}
use Rattle.rowpairs.specs.Evaluation.{Going}
use Rattle.rowpairs.proofs.running.run.Given as goal

-- what holds whenever the loop is at its head
pub record Loop (links marks cells₀ masks₀ : List ℕ) (n : ℕ) (code cells masks : List ℕ) (count i : ℕ) : Type 0 where
  pub inside : i ≤ length code
  pub cells_as_long : length cells ≡ length cells₀
  pub masks_as_long : length masks ≡ length masks₀
  pub going : Going n links marks code cells masks count i

abbrev pub invariant-loop-i : goal.invariant-loop-i
invariant-loop-i l = Loop l.links l.marks l.initial.cells l.initial.masks l.n l.code l.cells l.masks l.count l.i

abbrev pub decreases-loop-i : goal.decreases-loop-i
decreases-loop-i l = length l.code - l.i
