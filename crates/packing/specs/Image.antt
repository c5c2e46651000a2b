-- What the functions on the full tree's bits make of them.
--   Together ws i step count w
--                   a bit that w lacks is in none of the words of ws at i, i + step and so on, count of them
--   raised b f      the bits of f moved up by b places
--   above b f       the bits of f from place b on, and 0 below
--   set_four g v f   f with the digits 0 to 3 of v as its group g of four bits
--   blocks_to m a    the pairs of a that lie in the first m blocks of 8 × 8 cells, 128 blocks to a row of blocks
--   swap_place k m j the place from which the bit at j comes if the bits of the mask m change places with those k places above them
--   Heaped b f      a bit of f below place b is 1 exactly if one of the four bits of its square is: f is a full tree whose cells begin at b
--   Compacting f q g ws
--                   of the first q groups of f, the g that are not all 0 are at the front of ws, which has the later groups in their places
--   FillAsked, BlockAsked, EightAsked, PackAsked
--                   what the functions ask: to put in the cells of rows, of one block of row r and column c, of eight from there on, to make the tree
-- Assumes nothing: these are definitions.
use Rattle.std.specs.Prelude.{◌≡◌, List, ℕ, ◌+◌, ◌-◌, ◌*◌, ◌/◌, ◌%◌, ◌^◌, ◌≤◌, ◌<◌, leb, ltb, eqb, length, get_or}
use Rattle.book.specs.Basics.{pick}
use Rattle.k2.specs.Sizes.{rows_words, most_tree_bits}
use Rattle.k2.specs.Bits.{digit, bit_at, bits_of}
use Rattle.k2.specs.PairSets.{Cells}
use Rattle.k2.specs.Heap.{full_size, any_four, compacted, groups}

abbrev pub Together : List ℕ → ℕ → ℕ → ℕ → ℕ → Type 0
Together ws i step count w = (d k : ℕ) → k < count → digit w d ≡ 0 → digit (get_or ws (i + step * k) 0) d ≡ 0

unfoldable pub raised : ℕ → (ℕ → ℕ) → ℕ → ℕ
raised b f p = pick (leb b p) (f (p - b)) 0

unfoldable pub above : ℕ → (ℕ → ℕ) → ℕ → ℕ
above b f p = pick (leb b p) (f p) 0

unfoldable pub set_four : ℕ → ℕ → (ℕ → ℕ) → ℕ → ℕ
set_four g v f k = pick (eqb (k / 4) g) (digit v (k % 4)) (f k)

unfoldable pub blocks_to : ℕ → Cells → Cells
blocks_to m a x y = pick (ltb (x / 8 * 128 + y / 8) m) (a x y) 0

unfoldable pub swap_place : ℕ → ℕ → ℕ → ℕ
swap_place k m j = pick (eqb (digit m j) 1) (j + k) (pick (leb k j) (pick (eqb (digit m (j - k)) 1) (j - k) j) j)

pub record Heaped (b : ℕ) (f : ℕ → ℕ) : Type 0 where
  pub bit : (i : ℕ) → f i < 2
  pub upper : (i : ℕ) → i < b → f i ≡ any_four f (4 * (i + 1))
  pub past : (i : ℕ) → 4 * b + 4 ≤ i → f i ≡ 0

pub record Compacting (f : ℕ → ℕ) (q g : ℕ) (ws : List ℕ) : Type 0 where
  pub count : g ≡ groups f q
  pub front : (k : ℕ) → k < 4 * g → bit_at ws k ≡ bits_of (compacted f q) k
  pub rest : (k : ℕ) → 4 * q ≤ k → bit_at ws k ≡ f k

-- what the functions ask
pub record FillAsked (g base : ℕ) (rows heap : List ℕ) : Type 0 where
  pub levels : g ≤ 7
  pub rows_are : length rows ≡ rows_words
  pub base_most : base ≤ most_tree_bits
  pub room : base / 64 + 4 ^ g < length heap

pub record BlockAsked (rows : List ℕ) (g r c seen : ℕ) : Type 0 where
  pub row : r < 2 ^ g
  pub column : c < 128
  pub seen_are : Together rows (r * 128 + c / 8) 16 8 seen

pub record EightAsked (g r c : ℕ) : Type 0 where
  pub row : r < 2 ^ g
  pub column : c < 128
  pub eights : c % 8 ≡ 0

pub record PackAsked (h : ℕ) (rows heap : List ℕ) : Type 0 where
  pub rows_are : length rows ≡ rows_words
  pub some_level : 1 ≤ h
  pub few_levels : h ≤ 10
  pub room_is : length heap ≡ (full_size h 1 + 63) / 64 + 1
