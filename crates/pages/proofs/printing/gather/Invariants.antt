-- `gather`: the loop's invariant is that what is ahead of the start is the words found, and then what is ahead of the place reached; the measure is how many
-- more fit a line. A turn finds one more (`gathered_more`). Assumes nothing.
use mathlib.Core.Path.{◌≡◌}
use mathlib.Core.List.{List, ◌++◌}
use Prim.Native.Nat.{ℕ, ◌-◌, ◌≤◌, ◌<◌}
use lib.ListN.{length, take, get_or}
use Rattle.pages.specs.Lines.{pair_words, held, ahead}
use Rattle.pages.proofs.printing.gather.Given as goal

-- what holds whenever the loop is at its head
pub record Loop (cells masks : List ℕ) (n from : ℕ) (words₀ words : List ℕ) (count place : ℕ) : Type 0 where
  pub inside : count ≤ 6
  pub place_most : place ≤ pair_words
  pub as_long : length words ≡ length words₀
  pub small : (i : ℕ) → i < count → get_or words i 0 < pair_words
  pub found : ahead (held cells masks n) from (pair_words - from) ≡ take count words ++ ahead (held cells masks n) place (pair_words - place)

abbrev pub invariant-loop-count : goal.invariant-loop-count
invariant-loop-count l = Loop l.cells l.masks l.n l.from l.initial.words l.words l.count l.place

abbrev pub decreases-loop-count : goal.decreases-loop-count
decreases-loop-count l = 6 - l.count
