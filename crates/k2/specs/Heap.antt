-- The full tree of a set of pairs: four bits for every square, empty or not, the levels following one another as in the tree.
--   full_levels h qs  the levels below the squares qs, each of side 2 ^ h
--   full h a         the bits of the full tree of the pairs below 2 ^ h
--   full_size h k     the number of bits of h levels below k squares
--   place h x y      the place of the cell at row x and column y in the last level of a square of side 2 ^ h
--   row_at h z, column_at h z
--                    the row and the column of the cell at place z
--   cells h a        the last level: the cell at each place
--   any_four f p      1 if one of the four bits from p on is 1, else 0
--   four_of f p       the four bits from p on
--   compacted f n     of the first n groups of four bits, those that are not all 0, in order
--   groups f n       how many those are
-- Assumes nothing: these are definitions.
use Rattle.std.specs.Prelude.{List, [], ◌∷◌, ◌++◌, map, ℕ, zero, suc, ◌+◌, ◌*◌, ◌/◌, ◌%◌, ◌^◌, min, max, ltb}
use Rattle.book.specs.Basics.{pick}
use Rattle.k2.specs.Bits.{bits_of}
use Rattle.k2.specs.PairSets.{Cells}
use Rattle.k2.specs.Trees.{filled, quarters}
use Rattle.k2.specs.Trees.{quarter_of}

unfoldable pub full_levels : ℕ → List Cells → List ℕ
full_levels zero qs = []
full_levels (suc h) qs = map (filled h) (quarters h qs) ++ full_levels h (quarters h qs)

unfoldable pub full : ℕ → Cells → ℕ → ℕ
full h a = bits_of (full_levels h (a ∷ []))

unfoldable pub full_size : ℕ → ℕ → ℕ
full_size zero k = 0
full_size (suc h) k = 4 * k + full_size h (4 * k)

unfoldable pub place : ℕ → ℕ → ℕ → ℕ
place zero x y = 0
place (suc h) x y = quarter_of (2 ^ h) x y * 4 ^ h + place h (x % 2 ^ h) (y % 2 ^ h)

unfoldable pub row_at : ℕ → ℕ → ℕ
row_at zero z = 0
row_at (suc h) z = z / 4 ^ h / 2 * 2 ^ h + row_at h (z % 4 ^ h)

unfoldable pub column_at : ℕ → ℕ → ℕ
column_at zero z = 0
column_at (suc h) z = z / 4 ^ h % 2 * 2 ^ h + column_at h (z % 4 ^ h)

unfoldable pub cells : ℕ → Cells → ℕ → ℕ
cells h a z = pick (ltb z (4 ^ h)) (a (row_at h z) (column_at h z)) 0

abbrev pub any_four : (ℕ → ℕ) → ℕ → ℕ
any_four f p = max (max (f p) (f (p + 1))) (max (f (p + 2)) (f (p + 3)))

abbrev pub four_of : (ℕ → ℕ) → ℕ → List ℕ
four_of f p = f p ∷ f (p + 1) ∷ f (p + 2) ∷ f (p + 3) ∷ []

-- the list l where b is not 0
abbrev pub if_any : ℕ → List ℕ → List ℕ
if_any zero l = []
if_any (suc b) l = l

unfoldable pub compacted : (ℕ → ℕ) → ℕ → List ℕ
compacted f zero = []
compacted f (suc n) = compacted f n ++ if_any (any_four f (4 * n)) (four_of f (4 * n))

unfoldable pub groups : (ℕ → ℕ) → ℕ → ℕ
groups f zero = 0
groups f (suc n) = groups f n + min 1 (any_four f (4 * n))
