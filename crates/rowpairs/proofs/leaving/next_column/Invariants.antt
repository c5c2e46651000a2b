-- For every list of masks whose mask of the row is the one given, the row has no column from y to the place reached. The measure is how many columns are
-- left. Assumes nothing.
use Rattle.std.proofs.Common.{◌≡◌, ℕ, ◌-◌, ◌≤◌, List, get_or}
use Rattle.bits.specs.BitSets.{Gap}
use Rattle.rowpairs.specs.Evaluation.{relation_in}
use Rattle.rowpairs.proofs.leaving.next_column.Given as goal

-- what holds whenever the loop is at its head
pub record Loop (cells : List ℕ) (mask n x y from : ℕ) : Type 0 where
  pub low_end : y ≤ from
  pub inside : from ≤ 1087
  pub gap : (ms : List ℕ) → get_or ms x 0 ≡ mask → Gap (relation_in cells ms n x) y from

abbrev pub invariant-loop-from : goal.invariant-loop-from
invariant-loop-from l = Loop l.cells l.mask l.n l.x l.y l.from

abbrev pub decreases-loop-from : goal.decreases-loop-from
decreases-loop-from l = l.n - l.from
