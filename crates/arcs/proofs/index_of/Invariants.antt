-- The index is that of the first j arcs (`Indexed`). The measure is what is left of the arcs.
use Rattle.std.proofs.Common.{List, ℕ, ◌≡◌, ◌≤◌, length}
use Rattle.arcs.specs.Index.{key_at, Indexed}
use Rattle.arcs.proofs.index_of.Given as goal

-- what holds whenever the loop is at its head
pub record Loop (arcs : List ℕ) (key : ℕ) (index₀ index : List ℕ) (j : ℕ) : Type 0 where
  pub inside : j ≤ length arcs
  pub as_long : length index ≡ length index₀
  pub indexed : Indexed (key_at arcs key) j index

abbrev pub invariant-loop-j : goal.invariant-loop-j
invariant-loop-j l = Loop l.arcs l.key l.fn.index l.index l.j
