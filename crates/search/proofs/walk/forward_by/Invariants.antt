-- The words past the steps are as they were, and the steps written so far, put before any best walk from where they lead, are a best walk from the start
-- (Going). The measure is the number of steps to come.
use Rattle.std.proofs.Common.{List, ℕ, suc, ◌≡◌, ◌≤◌, ◌<◌, length, drop}
use Rattle.paths.specs.Chains.{Graph}
use Rattle.automaton.specs.Automata.{Automaton}
use Rattle.automaton.specs.Searches.{Known}
use Rattle.search.specs.Levels.{Setting, distance}
use Rattle.search.proofs.WalkLaws.{Going}
use Rattle.search.proofs.walk.forward_by.Given as goal

-- what holds whenever the loop is at its head
pub record Loop (arcs follow enter work seen out₀ : List ℕ) (n steps at₀ : ℕ) (out : List ℕ) (at states t : ℕ) : Type 0 where
  pub t_most : t ≤ steps
  pub as_long : length out ≡ length out₀
  pub past : drop steps out ≡ drop steps out₀
  pub at_below : at < 1024
  pub going : (g : Graph) (M : Automaton) (ps : List ℕ) (f y l : ℕ) → Setting g M follow ps enter f n arcs (length arcs)
      → Known g M y n l (distance work seen) → distance work seen at₀ 0 ≡ suc steps → Going g M y n work seen at₀ steps t at states out

abbrev pub invariant-loop-t : goal.invariant-loop-t
invariant-loop-t l = Loop l.fn.arcs l.fn.follow l.fn.enter l.fn.work l.fn.seen l.fn.out l.fn.route.n l.fn.route.steps l.fn.route.from l.out l.at l.states l.t
