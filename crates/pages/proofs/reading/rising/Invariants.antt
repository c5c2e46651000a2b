-- `rising`: the loop's invariant is that the first i words ascend, and `next` is the number after them; the measure is how many are left. A turn is one word
-- more (`rising-more`); a word that does not ascend is one that no ascending list has (`rising_not`). Assumes nothing.
use mathlib.Core.List.{List}
use mathlib.Core.Path.{◌≡◌}
use Prim.Native.Nat.{ℕ, ◌≤◌}
use lib.ListN.{take}
use Rattle.k2.specs.PairSetLaws.{Within}
use Rattle.pages.specs.Lines.{pair_words, after}
use Rattle.pages.proofs.reading.rising.Given as goal

-- what holds whenever the loop is at its head
pub record Loop (words : List ℕ) (count low next i : ℕ) : Type 0 where
  pub inside : i ≤ count
  pub next_is : next ≡ after low (take i words)
  pub within : Within low (take i words) pair_words

abbrev pub invariant-loop-i : goal.invariant-loop-i
invariant-loop-i l = Loop l.words l.count l.low l.next l.i
