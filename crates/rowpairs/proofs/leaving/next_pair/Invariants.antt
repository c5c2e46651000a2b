-- From the start to the place reached the relation has no pair. The measure is how many pair words are left. Assumes nothing.
use Rattle.std.proofs.Common.{ℕ, ◌-◌, ◌≤◌, List}
use Rattle.bits.specs.BitSets.{Gap}
use Rattle.rows.specs.Rows.{flat}
use Rattle.query.specs.Asking.{max_pairs}
use Rattle.rowpairs.specs.Evaluation.{relation_in}
use Rattle.rowpairs.proofs.leaving.next_pair.Given as goal

-- what holds whenever the loop is at its head
pub record Loop (cells masks : List ℕ) (n from p : ℕ) : Type 0 where
  pub low_end : from ≤ p
  pub inside : p ≤ max_pairs
  pub gap : Gap (flat (relation_in cells masks n)) from p

abbrev pub invariant-loop-p : goal.invariant-loop-p
invariant-loop-p l = Loop l.cells l.masks l.n l.from l.p

abbrev pub decreases-loop-p : goal.decreases-loop-p
decreases-loop-p l = 1048576 - l.p
