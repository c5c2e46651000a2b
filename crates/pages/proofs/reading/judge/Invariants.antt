-- `judge`: the loop's invariant is that every line before line i stands, `count` is the number of pairs on them and `low` the number after the
-- last; the measure is how many lines are left. Pages have no line that falls (`bad_line`), and lines that all stand, as many as their pairs
-- take, are pages (`good_lines`). Assumes nothing.
use mathlib.Core.List.{List}
use mathlib.Core.Path.{◌≡◌}
use Prim.Native.Nat.{ℕ, ◌*◌, ◌≤◌, ◌<◌}
use lib.ListN.{length}
use Rattle.pages.specs.Lines.{pair_words, words_before, after, Stands}
use Rattle.pages.proofs.reading.judge.Given as goal

-- what holds whenever the loop is at its head
pub record Loop (text pages : List ℕ) (lines count low i : ℕ) : Type 0 where
  pub inside : i ≤ lines
  pub count_is : count ≡ length (words_before pages i)
  pub low_is : low ≡ after 0 (words_before pages i)
  pub low_most : low ≤ pair_words
  pub count_most : count ≤ 6 * i
  pub stands : (k : ℕ) → k < i → Stands text pages k lines (after 0 (words_before pages k))

abbrev pub invariant-loop-i : goal.invariant-loop-i
invariant-loop-i l = Loop l.text l.pages l.lines l.count l.low l.i
