-- `put_letters` goes over the words. The loop's invariant: the pairs of the first i words are in. The measure is the words left. It rests on
-- `put_more` and `crossed_next`. Assumes nothing.
use mathlib.Core.Path.{◌≡◌}
use mathlib.Core.List.{List}
use Prim.Native.Nat.{ℕ, ◌≤◌}
use lib.ListN.{length, take}
use Rattle.k2.specs.PairSets.{union}
use Rattle.rows.specs.RowSets.{crossed_words}
use Rattle.grid.specs.Grid.{first, within}
use Rattle.grid.proofs.putting.put_letters.Given as goal

-- what holds whenever the loop is at its head
pub record Loop (words : List ℕ) (forward against : ℕ) (cells₀ masks₀ : List ℕ) (n w : ℕ) (cells masks : List ℕ) (i : ℕ) : Type 0 where
  pub inside : i ≤ length words
  pub cells_as_long : length cells ≡ length cells₀
  pub masks_as_long : length masks ≡ length masks₀
  pub put : first n w cells masks ≡ union (first n w cells₀ masks₀) (within n (crossed_words (take i words) forward against))

abbrev pub invariant-loop-i : goal.invariant-loop-i
invariant-loop-i l = Loop l.words l.forward l.against l.initial.cells l.initial.masks l.n l.w l.cells l.masks l.i
