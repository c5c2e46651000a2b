-- `list` goes row by row. The loop's invariant: the pairs of the rows below x are written, and t is their number. The measure is the rows left. It
-- rests on `rows_next`. Assumes nothing.
use mathlib.Core.List.{List}
use mathlib.Core.Path.{◌≡◌}
use Prim.Native.Nat.{ℕ, ◌*◌, ◌≤◌}
use lib.ListN.{length}
use Rattle.k2.specs.PairSets.{rows_pairs}
use Rattle.grid.specs.Grid.{first}
use Rattle.answers.specs.Listing.{Grown}
use Rattle.grid.proofs.listing.list.Given as goal

-- what holds whenever the loop is at its head
pub record Loop (cells masks : List ℕ) (n w : ℕ) (out₀ out : List ℕ) (t x : ℕ) : Type 0 where
  pub inside : x ≤ n
  pub t_most : t ≤ x * 1024
  pub as_long : length out ≡ length out₀
  pub grown : Grown 0 t (rows_pairs (first n w cells masks) n x) out₀ out

abbrev pub invariant-loop-x : goal.invariant-loop-x
invariant-loop-x l = Loop l.cells l.masks l.n l.w l.initial.out l.out l.t l.x
