-- `put_pair_line`: the loop's invariant is that the cells of the first i words are written, 12 bytes each; the measure is the number of words left. Then blanks
-- and the line feed (`wrote_pairs`). Assumes nothing.
use mathlib.Core.List.{List}
use mathlib.Core.Path.{◌≡◌}
use Prim.Native.Nat.{ℕ, ◌+◌, ◌-◌, ◌*◌, ◌≤◌}
use lib.ListN.{length, take}
use Rattle.report.specs.Report.{lines}
use Rattle.answers.specs.Written.{Wrote}
use Rattle.pages.specs.Pages.{pair_cell}
use Rattle.pages.proofs.printing.put_pair_line.Given as goal

-- what holds whenever the loop is at its head
pub record Loop (words : List ℕ) (count : ℕ) (out₀ : List ℕ) (at : ℕ) (out : List ℕ) (end i : ℕ) : Type 0 where
  pub inside : i ≤ count
  pub as_long : length out ≡ length out₀
  pub end_is : end ≡ at + 12 * i
  pub wrote : Wrote at (lines pair_cell (take i words)) out₀ out end

abbrev pub invariant-loop-i : goal.invariant-loop-i
invariant-loop-i l = Loop l.words l.count l.initial.out l.at l.out l.end l.i

abbrev pub decreases-loop-i : goal.decreases-loop-i
decreases-loop-i l = l.count - l.i
