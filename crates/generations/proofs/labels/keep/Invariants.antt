-- `keep` looks at the words in turn. The loop's invariant: the words kept are those passed whose label is in the set (`labelled`). The measure is how many are
-- left. It rests on `keep_yes` and `keep_no`. Assumes nothing.
use mathlib.Core.List.{List}
use mathlib.Core.Path.{◌≡◌}
use Prim.Native.Nat.{ℕ, ◌≤◌}
use lib.ListN.{length, take}
use Rattle.rows.specs.RowSets.{labelled}
use Rattle.generations.proofs.labels.keep.Given as goal

-- what holds whenever the loop is at its head
pub record Loop (words : List ℕ) (set : ℕ) (kept₀ kept : List ℕ) (count i : ℕ) : Type 0 where
  pub inside : i ≤ length words
  pub count_most : count ≤ i
  pub as_long : length kept ≡ length kept₀
  pub labelled : take count kept ≡ labelled set (take i words)

abbrev pub invariant-loop-i : goal.invariant-loop-i
invariant-loop-i l = Loop l.words l.set l.initial.kept l.kept l.count l.i
