-- What is left is part of the states, and the mark stands at those that are not left. The measure is what is left, from which each turn takes the lowest state
-- (LowestLaws).
use Rattle.std.proofs.Common.{List, ℕ, ◌≡◌, ◌^◌, ◌<◌, length}
use Rattle.search.specs.Levels.{Stamped}
use Rattle.automaton.proofs.LowestLaws.{Among}
use Rattle.search.proofs.levels.stamp.Given as goal

-- what holds whenever the loop is at its head
pub record Loop (work₀ : List ℕ) (at states mark : ℕ) (work : List ℕ) (left : ℕ) : Type 0 where
  pub left_below : left < 2 ^ 64
  pub among : Among left states
  pub as_long : length work ≡ length work₀
  pub stamped : Stamped work₀ at states mark left work

abbrev pub invariant-loop-left : goal.invariant-loop-left
invariant-loop-left l = Loop l.fn.work l.at l.states l.mark l.work l.left

abbrev pub decreases-loop-left : goal.decreases-loop-left
decreases-loop-left l = l.left
