-- Where the four bits of a square stand in a tree.
--   Node side a f h s b
--                   in the tree of a set a of pairs below 2 ^ side, with the bits f: the four bits of the square s, of side 2 ^ h, begin at bit b
--   exchanged q     the quarter of a square at which its quarter q stands once rows and columns are exchanged: 1 and 2 change places
-- Assumes nothing: these are definitions.
use Rattle.std.specs.Prelude.{◌≡◌, ℕ, suc, ◌+◌, ◌*◌, ◌/◌, ◌%◌, ◌<◌}
use Rattle.k2.specs.PairSets.{Cells}
use Rattle.k2.specs.Trees.{quadrant, child_place}

-- the tree begins with the four bits of its whole square; those of a quarter that is not empty begin at the child place of the quarter's 1
pub data Node (side : ℕ) (a : Cells) (f : ℕ → ℕ) : ℕ → Cells → ℕ → Type 0 where
  root : Node side a f side a 0
  child : {h : ℕ} {s : Cells} {b : ℕ} (q : ℕ) → Node side a f (suc h) s b → q < 4 → f (b + q) ≡ 1
      → Node side a f h (quadrant h q s) (child_place f (b + q))

abbrev pub exchanged : ℕ → ℕ
exchanged q = q % 2 * 2 + q / 2
