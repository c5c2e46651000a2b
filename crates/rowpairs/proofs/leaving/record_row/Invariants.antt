-- The bits are the first i of the records. The measure is the records left. Assumes nothing.
use Rattle.std.proofs.Common.{◌≡◌, ℕ, ◌≤◌, List, length, take}
use Rattle.k2.specs.Bits.{bit_at}
use Rattle.rowpairs.specs.Evaluation.{Members}
use Rattle.rowpairs.proofs.leaving.record_row.Given as goal

-- what holds whenever the loop is at its head
pub record Loop (records row : List ℕ) (i : ℕ) : Type 0 where
  pub inside : i ≤ length records
  pub row_long : length row ≡ 16
  pub members : Members (take i records) (bit_at row)

abbrev pub invariant-loop-i : goal.invariant-loop-i
invariant-loop-i l = Loop l.records l.row l.i
