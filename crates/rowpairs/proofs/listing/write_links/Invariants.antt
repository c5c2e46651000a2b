-- The first i pairs stand at the front of the list, and past them it is as it was. The measure is how many are left. Assumes nothing.
use Rattle.std.proofs.Common.{◌≡◌, ℕ, ◌≤◌, List, ◌++◌, map, length, take, drop}
use Rattle.links.specs.Parts.{link_pair}
use Rattle.rowpairs.proofs.listing.write_links.Given as goal

-- what holds whenever the loop is at its head
pub record Loop (words list₀ : List ℕ) (count : ℕ) (list : List ℕ) (i : ℕ) : Type 0 where
  pub inside : i ≤ count
  pub as_long : length list ≡ length list₀
  pub wrote : list ≡ take i (map link_pair words) ++ drop i list₀

abbrev pub invariant-loop-i : goal.invariant-loop-i
invariant-loop-i l = Loop l.words l.initial.list l.count l.list l.i
