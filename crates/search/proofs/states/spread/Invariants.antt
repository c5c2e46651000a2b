-- What is left is part of the states, and the result is the union of the rows of the states not left. The measure is what is left, from which each turn takes
-- the lowest state (LowestLaws).
use Rattle.std.proofs.Common.{List, ℕ, ◌^◌, ◌<◌}
use Rattle.search.specs.Levels.{Spread}
use Rattle.automaton.proofs.LowestLaws.{Among}
use Rattle.search.proofs.states.spread.Given as goal

-- what holds whenever the loop is at its head
pub record Loop (rows : List ℕ) (states joined left : ℕ) : Type 0 where
  pub left_below : left < 2 ^ 64
  pub among : Among left states
  pub spread : Spread rows states left joined

abbrev pub invariant-loop-left : goal.invariant-loop-left
invariant-loop-left l = Loop l.rows l.states l.joined l.left

abbrev pub decreases-loop-left : goal.decreases-loop-left
decreases-loop-left l = l.left
