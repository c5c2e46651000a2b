-- `spread` writes the quarters of one square after another. The loop's invariant: those of the squares passed are at the front of `next`. Assumes nothing.
use Rattle.std.proofs.Common.{◌≡◌, List, ℕ, ◌-◌, ◌*◌, ◌≤◌, length, take}
use Rattle.k2.specs.PairSets.{Cells}
use Rattle.packing.specs.declared.loading.Sense.{Sense}
use Rattle.packing.specs.declared.loading.Square.{Square}
use Rattle.packing.specs.Reading.{squares_of, AllFit, AllRead}
use Rattle.packing.proofs.loading.Reading.spread.Given as goal

pub record Spread (sense : Sense) (tree : List ℕ) (h : ℕ) (squares next₀ next : List Square) (m i : ℕ) : Type 0 where
  pub few : m ≤ 4 * i
  pub as_long : length next ≡ length next₀
  pub fit : AllFit (h - 1) (take m next)
  pub read : (t : Cells) → AllRead sense tree h squares t
      → AllRead sense tree (h - 1) (take m next) t × (squares_of (h - 1) (take m next) t ≡ squares_of h (take i squares) t)

abbrev pub invariant-loop-at : goal.invariant-loop-at
invariant-loop-at g l = Spread l.self.sense l.self.tree.now l.h l.squares l.initial.next l.next l.m l.at-index
