-- The loop's invariant: the first words, `count` of them, are the crossings of the links below i whose letter enters a state, and they are at most 2 × i.
-- The measure is what is left of the links.
use Rattle.std.proofs.Common.{List, ℕ, ◌≡◌, ◌*◌, ◌-◌, ◌≤◌, length}
use Rattle.arcs.specs.Arcs.{Crossings}
use Rattle.arcs.proofs.arcs_of.Given as goal

-- what holds whenever the loop is at its head
pub record Loop (links enter arcs₀ arcs : List ℕ) (count i : ℕ) : Type 0 where
  pub inside : i ≤ length links
  pub count_most : count ≤ 2 * i
  pub as_long : length arcs ≡ length arcs₀
  pub crossings : Crossings links enter (2 * i) arcs count

abbrev pub invariant-loop-i : goal.invariant-loop-i
invariant-loop-i l = Loop l.links l.enter l.fn.arcs l.arcs l.count l.i

abbrev pub decreases-loop-i : goal.decreases-loop-i
decreases-loop-i l = length l.links - l.i
