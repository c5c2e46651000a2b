-- `children` goes from one quarter that is not empty to the next and writes its square. The loop's invariant: the quarters passed that are not empty are
-- behind the m squares, and the quarter reached, if there is one, is not empty. The measure is the quarters left. It rests on `descend_child`,
-- `descend_gap` and `descend_all`. Assumes nothing.
use Rattle.std.proofs.Common.{◌≡◌, List, ℕ, ◌+◌, ◌-◌, ◌≤◌, ◌<◌, length, take}
use Rattle.k2.specs.Bits.{digit}
use Rattle.k2.specs.PairSets.{Cells, union}
use Rattle.packing.specs.declared.loading.Sense.{Sense}
use Rattle.packing.specs.declared.loading.Square.{Square}
use Rattle.packing.specs.Reading.{quarters_to, Reads, squares_of, AllFit, AllRead}
use Rattle.packing.proofs.loading.Reading.children.Given as goal

pub record Quartered (sense : Sense) (tree : List ℕ) (h : ℕ) (next₀ : List Square) (m : ℕ) (at : Square) (v : ℕ) (next : List Square) (k q : ℕ) : Type 0 where
  pub in_four : q ≤ 4
  pub not_empty : q < 4 → digit v q ≡ 1
  pub few : k ≤ m + q
  pub as_long : length next ≡ length next₀
  pub fit : AllFit (h - 1) (take k next)
  pub read : (t : Cells) → Reads sense tree h at.bit at.row at.column t → AllRead sense tree (h - 1) (take m next₀) t
      → AllRead sense tree (h - 1) (take k next) t
      × (squares_of (h - 1) (take k next) t ≡ union (squares_of (h - 1) (take m next₀) t) (quarters_to q (h - 1) at.row at.column t))

abbrev pub invariant-loop-q : goal.invariant-loop-q
invariant-loop-q g l = Quartered l.self.sense l.self.tree.now l.h l.initial.next l.m l.at l.v l.next l.k l.q

abbrev pub decreases-loop-q : goal.decreases-loop-q
decreases-loop-q g l = 4 - l.q
