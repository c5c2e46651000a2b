-- The k2-tree of a set of pairs, k = 2.
--   height n        the side is 2 ^ height n: the smallest power of two that is at least n, and at least 2
--   quadrant h q a  of a square, its quarter q of side 2 ^ h: 0 top left, 1 top right, 2 bottom left, 3 bottom right
--   filled h a      1 if a pair lies in the square of side 2 ^ h, else 0
--   levels h qs     the levels below the squares qs, each of side 2 ^ h and none empty: four bits for each, and then the levels below
--                   those of their quarters that are not empty
--   tree_bits h a    the tree of the pairs below 2 ^ h; the empty set has no bits
--   tree_words n a   the tree of a set of pairs below n, as 64-bit words
--   WellFormed n ws the words are the tree of some set of pairs below n
--   child_place f p  where the children of the 1 at bit p begin: four times the count of ones in bits 0 to p
--   tree_unit n      D: the words of a full tree, 4 × (s² − 1) / 3 bits divided by 64, rounded up
--   quarter_of s x y the quarter of side s in which the row x and the column y lie
-- Assumes nothing: these are definitions.
use Rattle.std.specs.Prelude.{◌≡◌, List, [], ◌∷◌, ◌++◌, map, ℕ, zero, suc, ◌+◌, ◌-◌, ◌*◌, ◌/◌, ◌%◌, ◌^◌, min, max, leb}
use Rattle.book.specs.Basics.{pick}
use Rattle.k2.specs.Bits.{ones_below, words_of}
use Rattle.k2.specs.PairSets.{Cells, IsSet}

-- the first of h, h + 1, .. h + f whose power of two is at least n
unfoldable pub rise : ℕ → ℕ → ℕ → ℕ
rise zero h n = h
rise (suc f) h n = pick (leb n (2 ^ h)) h (rise f (suc h) n)

unfoldable pub height : ℕ → ℕ
height n = rise n 1 n

unfoldable pub quadrant : ℕ → ℕ → Cells → Cells
quadrant h q a x y = a (q / 2 * 2 ^ h + x) (q % 2 * 2 ^ h + y)

unfoldable pub filled : ℕ → Cells → ℕ
filled zero a = min 1 (a 0 0)
filled (suc h) a =
    max (max (filled h (quadrant h 0 a)) (filled h (quadrant h 1 a)))
    (max (filled h (quadrant h 2 a)) (filled h (quadrant h 3 a)))

-- the quarters of squares, in order
unfoldable pub quarters : ℕ → List Cells → List Cells
quarters h [] = []
quarters h (a ∷ qs) = quadrant h 0 a ∷ quadrant h 1 a ∷ quadrant h 2 a ∷ quadrant h 3 a ∷ quarters h qs

-- those squares for which the test is not 0
abbrev pub keep_if : ℕ → Cells → List Cells → List Cells
keep_if zero a qs = qs
keep_if (suc b) a qs = a ∷ qs

unfoldable pub keep : (Cells → ℕ) → List Cells → List Cells
keep t [] = []
keep t (a ∷ qs) = keep_if (t a) a (keep t qs)

unfoldable pub levels : ℕ → List Cells → List ℕ
levels zero qs = []
levels (suc h) qs = map (filled h) (quarters h qs) ++ levels h (keep (filled h) (quarters h qs))

unfoldable pub tree_bits : ℕ → Cells → List ℕ
tree_bits h a = levels h (keep (filled h) (a ∷ []))

unfoldable pub tree_words : ℕ → Cells → List ℕ
tree_words n a = words_of (tree_bits (height n) a)

pub record WellFormed (n : ℕ) (ws : List ℕ) : Type 0 where
  pub set : Cells
  pub is_set : IsSet n set
  pub tree : ws ≡ tree_words n set

unfoldable pub child_place : (ℕ → ℕ) → ℕ → ℕ
child_place f p = 4 * ones_below f (p + 1)

unfoldable pub tree_unit : ℕ → ℕ
tree_unit n = (4 * (2 ^ height n * 2 ^ height n - 1) / 3 + 63) / 64

abbrev pub quarter_of : ℕ → ℕ → ℕ → ℕ
quarter_of s x y = x / s * 2 + y / s
