-- `cells_at`: the loop's invariant is that the words of the line are the k found, and then those of the cells from cell k on; the measure is how many cells are
-- left. A turn is one cell more (`cells_next`), a blank cell the end (`cells_end`). Assumes nothing.
use mathlib.Core.Path.{◌≡◌}
use mathlib.Core.List.{List, ◌++◌}
use Prim.Native.Nat.{ℕ, ◌+◌, ◌-◌, ◌*◌, ◌≤◌}
use lib.ListN.{length, take, drop}
use Rattle.pages.specs.Lines.{cell_words}
use Rattle.pages.proofs.reading.cells_at.Given as goal

-- what holds whenever the loop is at its head
pub record Loop (pages : List ℕ) (at : ℕ) (words₀ words : List ℕ) (k : ℕ) : Type 0 where
  pub inside : k ≤ 6
  pub as_long : length words ≡ length words₀
  pub found : cell_words 6 (drop at pages) ≡ take k words ++ cell_words (6 - k) (drop (at + 12 * k) pages)

abbrev pub invariant-loop-k : goal.invariant-loop-k
invariant-loop-k l = Loop l.pages l.at l.initial.words l.words l.k

abbrev pub decreases-loop-k : goal.decreases-loop-k
decreases-loop-k l = 6 - l.k
