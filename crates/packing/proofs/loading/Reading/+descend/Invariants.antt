-- `descend` writes the quarters of its squares and goes on with these, sixteen at a time. The loop's invariant: the cells of the quarters passed are in the
-- rows, and those that are left make the whole. The measure of the calls is h. Assumes nothing.
use Rattle.std.proofs.Common.{◌≡◌, List, ℕ, ◌-◌, length}
use Rattle.k2.specs.Bits.{bit_at}
use Rattle.k2.specs.PairSets.{Cells, union}
use Rattle.rows.specs.Rows.{flat}
use Rattle.packing.specs.declared.loading.Sense.{Sense}
use Rattle.packing.specs.declared.loading.Square.{Square}
use Rattle.packing.specs.Reading.{squares_of, AllFit, AllRead}
use Rattle.packing.proofs.loading.Reading.+descend.Given as goal

-- what holds whenever the loop is at its head
pub record Loop (sense : Sense) (tree : List ℕ) (h : ℕ) (next : List Square) (rows₀ rows : List ℕ) (left : List Square) (size : ℕ) : Type 0 where
  pub sixteen : size ≡ 16
  pub as_long : length rows ≡ length rows₀
  pub fit : AllFit (h - 1) left
  pub read : (a t : Cells) → bit_at rows₀ ≡ flat a → AllRead sense tree (h - 1) next t
      → AllRead sense tree (h - 1) left t
      × ((b : Cells) × (bit_at rows ≡ flat b) × (union b (squares_of (h - 1) left t) ≡ union a (squares_of (h - 1) next t)))

abbrev pub invariant-loop-some : goal.invariant-loop-some
invariant-loop-some g l =
    Loop l.self.sense l.self.tree.now l.h l.initial.some-iterator.rest.now l.initial.rows l.rows l.some-iterator.rest.now l.some-iterator.size

abbrev pub decreases-descend : goal.decreases-descend
decreases-descend g l = l.h
