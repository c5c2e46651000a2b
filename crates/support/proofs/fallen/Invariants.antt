-- `fallen` goes over the records. The loop's invariant: the words written are the records below x that are lost. The measure is the
-- records left. Assumes nothing.
use mathlib.Core.Bool.{Bool}
use mathlib.Core.List.{List}
use mathlib.Core.Path.{◌≡◌}
use Prim.Native.Nat.{ℕ, ◌≤◌}
use lib.ListN.{length, take}
use Rattle.book.specs.Causes.{max_records}
use Rattle.support.specs.Support.{chosen}
use Rattle.support.specs.Inner.{lost}
use Rattle.support.proofs.fallen.Given as goal

-- what holds whenever the loop is at its head
pub record Loop (core n : ℕ) (before after : List Bool) (words : List ℕ) (count x : ℕ) : Type 0 where
  pub inside : x ≤ n
  pub n_most : n ≤ max_records
  pub count_most : count ≤ x
  pub words_long : length words ≡ max_records
  pub chosen_below : take count words ≡ chosen (lost before after core) x

abbrev pub invariant-loop-x : goal.invariant-loop-x
invariant-loop-x l = Loop l.core l.n l.before l.after l.words l.count l.x
