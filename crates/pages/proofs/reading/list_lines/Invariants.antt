-- `list_lines`: the loop's invariant is that the words of the first i lines are written; the measure is how many lines are left. Assumes nothing.
use mathlib.Core.List.{List}
use mathlib.Core.Path.{◌≡◌}
use Prim.Native.Nat.{ℕ, ◌≤◌}
use lib.ListN.{length}
use Rattle.answers.specs.Written.{Wrote}
use Rattle.pages.specs.Lines.{words_before}
use Rattle.pages.proofs.reading.list_lines.Given as goal

-- what holds whenever the loop is at its head
pub record Loop (pages : List ℕ) (lines : ℕ) (list₀ list : List ℕ) (end i : ℕ) : Type 0 where
  pub inside : i ≤ lines
  pub as_long : length list ≡ length list₀
  pub wrote : Wrote 0 (words_before pages i) list₀ list end

abbrev pub invariant-loop-i : goal.invariant-loop-i
invariant-loop-i l = Loop l.pages l.lines l.initial.list l.list l.end l.i
