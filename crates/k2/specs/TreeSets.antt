-- The set of a tree, read from its words by child places, and whether the words are a tree.
--   cell_at f h b x y
--                   of a square of side 2 ^ h that is not empty and whose four bits begin at bit b of f: 1 if its row x has its column y, else 0. A quarter
--                   at whose bit 0 stands has no pair; the four bits of any other begin at the child place of its 1
--   set_in n ws      the pairs below n that the words ws tell so
--   same_words vs ws whether two lists of words are the same
--   formed n ws     whether the words ws are the tree of the pairs that they tell: whether they are well formed (TreeSetLaws `formed_tree`, `tree_formed`)
-- Assumes nothing: these are definitions.
use Rattle.std.specs.Prelude.{List, [], ◌∷◌, Bool, true, false, ◌&&◌, ℕ, zero, suc, ◌+◌, ◌%◌, ◌^◌, ltb, eqb}
use Rattle.book.specs.Basics.{pick}
use Rattle.k2.specs.Bits.{bit_at}
use Rattle.k2.specs.PairSets.{Cells}
use Rattle.k2.specs.Trees.{height, tree_words, child_place}
use Rattle.k2.specs.Trees.{quarter_of}

unfoldable pub cell_at : (ℕ → ℕ) → ℕ → ℕ → ℕ → ℕ → ℕ
cell_at f zero b x y = 1
cell_at f (suc h) b x y =
    pick (eqb (f (b + quarter_of (2 ^ h) x y)) 0) 0 (cell_at f h (child_place f (b + quarter_of (2 ^ h) x y)) (x % 2 ^ h) (y % 2 ^ h))

unfoldable pub set_in : ℕ → List ℕ → Cells
set_in n ws x y = pick (ltb x n && ltb y n) (cell_at (bit_at ws) (height n) 0 x y) 0

unfoldable pub same_words : List ℕ → List ℕ → Bool
same_words [] [] = true
same_words [] (w ∷ ws) = false
same_words (v ∷ vs) [] = false
same_words (v ∷ vs) (w ∷ ws) = eqb v w && same_words vs ws

unfoldable pub formed : ℕ → List ℕ → Bool
formed n ws = same_words ws (tree_words n (set_in n ws))
