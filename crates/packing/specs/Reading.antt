-- What the functions that load a tree into rows make of it.
--   turned s q      the quarter q of a square; inverted, the one that comes to its place when pairs are exchanged
--   inside h x y a  the pairs of a in the square of side 2 ^ h at row x and column y
--   quarters_to k h x y a
--                   the pairs of a in the first k quarters, of side 2 ^ h, of the square at row x and column y
--   Counted n ws ns  for each block of n words of ws, ns has the number of ones before it
--   Reads s ws h b x y a
--                   in a tree with the words ws, read with the sense s, the four bits from bit b on are those of the square of a set whose cells are those
--                   of a from row x and column y on; the square has the side 2 ^ h
--   squares_of h l a
--                   the pairs of a in the squares of the list l, of side 2 ^ h
--   SquareIn h b x y
--                   the square of side 2 ^ h whose four bits begin at bit b, at row x and column y, is in the rows
--   AllFit h l      the squares of the list l, of side 2 ^ h, are in the rows
--   AllRead s ws h l a
--                   and are read as squares of the set a, as Reads has it
--   CountAsked, LevelAsked, SquaresAsked, NextAsked, CellsAsked
--                   what the functions ask: to count the ones before each block, a level, some squares, room for four more, to put in the cells of a square
--   NextOne v q r   r is the first place from q on where v has a one, or 4
-- Assumes nothing: these are definitions.
use Rattle.std.specs.Prelude.{◌≡◌, List, [], ◌∷◌, ℕ, zero, suc, ◌+◌, ◌*◌, ◌/◌, ◌%◌, ◌^◌, ◌≤◌, ◌<◌, leb, ltb, length, take, get_or}
use Rattle.std.specs.List.{All}
use Rattle.book.specs.Basics.{pick}
use Rattle.book.specs.Causes.{max_records}
use Rattle.k2.specs.Sizes.{rows_words, most_tree_words, most_counts, most_child_place}
use Rattle.k2.specs.Bits.{digit, bit_at, bits_of, ones_below}
use Rattle.k2.specs.PairSets.{Cells, union}
use Rattle.k2.specs.Trees.{tree_bits}
use Rattle.k2.specs.Nodes.{Node, exchanged}
use Rattle.rows.specs.RowSets.{no_pairs}
use Rattle.packing.specs.declared.loading.Sense.{Sense}
use Rattle.packing.specs.declared.loading.Sense.TheVariants.{Plain, Inverted}
use Rattle.packing.specs.declared.loading.Square.{Square}
use Rattle.packing.specs.Senses.{sensed}

abbrev pub turned : Sense → ℕ → ℕ
turned Plain q = q
turned Inverted q = exchanged q

unfoldable pub inside : ℕ → ℕ → ℕ → Cells → Cells
inside h x y a i j = pick (leb x i) (pick (ltb i (x + 2 ^ h)) (pick (leb y j) (pick (ltb j (y + 2 ^ h)) (a i j) 0) 0) 0) 0

unfoldable pub quarters_to : ℕ → ℕ → ℕ → ℕ → Cells → Cells
quarters_to zero h x y a = no_pairs
quarters_to (suc k) h x y a = union (quarters_to k h x y a) (inside h (x + k / 2 * 2 ^ h) (y + k % 2 * 2 ^ h) a)

abbrev pub Counted : ℕ → List ℕ → List ℕ → Type 0
Counted n ws ns = (i : ℕ) → i * n < length ws → (i < length ns) × (get_or ns i 0 ≡ ones_below (bit_at ws) (i * n * 64))

pub record Reads (s : Sense) (ws : List ℕ) (h b x y : ℕ) (a : Cells) : Type 0 where
  pub side : ℕ
  pub whole : Cells
  pub square : Cells
  pub bits : bit_at ws ≡ bits_of (tree_bits side whole)
  pub node : Node side whole (bit_at ws) h square b
  pub bit : (i j : ℕ) → square i j < 2
  pub cells : (i j : ℕ) → i < 2 ^ h → j < 2 ^ h → sensed s square i j ≡ a (x + i) (y + j)

unfoldable pub squares_of : ℕ → List Square → Cells → Cells
squares_of h [] a = no_pairs
squares_of h (w ∷ ws) a = union (inside h w.row w.column a) (squares_of h ws a)

pub record SquareIn (h bit row column : ℕ) : Type 0 where
  pub bit_of_four : bit % 4 ≡ 0
  pub bit_most : bit ≤ most_child_place
  pub rows_in : row + 2 ^ h ≤ max_records
  pub columns_in : column + 2 ^ h ≤ max_records
  pub column_even : column % 2 ≡ 0

abbrev pub AllFit : ℕ → List Square → Type 0
AllFit h l = All (λ w. SquareIn h w.bit w.row w.column) l

abbrev pub AllRead : Sense → List ℕ → ℕ → List Square → Cells → Type 0
AllRead s ws h l a = All (λ w. Reads s ws h w.bit w.row w.column a) l

-- what the functions ask
pub record CountAsked (n : ℕ) (tree before : List ℕ) : Type 0 where
  pub some : 0 < n
  pub short : length tree ≤ most_tree_words
  pub places : length before ≡ most_counts
  pub room : length tree ≤ most_counts * n

pub record LevelAsked (least h : ℕ) : Type 0 where
  pub level_least : least ≤ h
  pub level_most : h ≤ 10

pub record SquaresAsked (h : ℕ) (list : List Square) : Type 0 where
  pub few : length list ≤ 16
  pub fit : AllFit h list

pub record NextAsked (h : ℕ) (next : List Square) (m : ℕ) : Type 0 where
  pub room : m + 4 ≤ length next
  pub fit : AllFit h (take m next)

pub record CellsAsked (x y v : ℕ) (rows : List ℕ) : Type 0 where
  pub row_in : x + 2 ≤ max_records
  pub column_in : y + 2 ≤ max_records
  pub column_even : y % 2 ≡ 0
  pub four_bits : v < 16
  pub rows_are : length rows ≡ rows_words

pub record NextOne (v q r : ℕ) : Type 0 where
  pub from_here : q ≤ r
  pub in_four : r ≤ 4
  pub zeros : (j : ℕ) → q ≤ j → j < r → digit v j ≡ 0
  pub one_there : r < 4 → digit v r ≡ 1
