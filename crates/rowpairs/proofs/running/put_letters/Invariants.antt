-- The links of the labels passed are in (`PutBelow`), and cells and masks are as long as they were. The measure is the labels left. Assumes nothing.
use Rattle.std.proofs.Common.{◌≡◌, ℕ, ◌≤◌, List, length}
use Rattle.rowpairs.specs.Labels.{PutBelow}
use Rattle.rowpairs.proofs.running.put_letters.Given as goal

-- what holds whenever the loop is at its head
pub record Loop (links : List ℕ) (forward against : ℕ) (cells₀ masks₀ : List ℕ) (n w : ℕ) (cells masks : List ℕ) (label : ℕ) : Type 0 where
  pub inside : label ≤ 26
  pub cells_as_long : length cells ≡ length cells₀
  pub masks_as_long : length masks ≡ length masks₀
  pub put_below : PutBelow n w links forward against cells₀ masks₀ cells masks label

abbrev pub invariant-loop-label : goal.invariant-loop-label
invariant-loop-label l = Loop l.links l.forward l.against l.initial.cells l.initial.masks l.n l.w l.cells l.masks l.label
