-- One cell of a relation as rows of bits with masks, in plain variables.
--   cell_row, cell_column   past the last record there is nothing
--   cell_masked             where the mask has the word, the cell is the word's bit
--   cell_unmasked           where it has not, there is nothing
--   column_empty, column_skip, column_gap, column_hit
--                           a row with no mask has nothing; a word that its mask lacks has nothing; of one that it has, the cells are the word's bits
--   pair_gap, pair_hit      the cells of a row as pair words
--   pair_past, pair_row     past the last row there is no pair word; nor to the end of a row that has no more columns
-- Assumes nothing.
use mathlib.Core.Path.{◌≡◌, refl, sym, ap, ap₂, ◌∙◌}
use mathlib.Core.List.{List}
use Prim.Native.Nat.{ℕ, ◌+◌, ◌*◌, ◌/◌, ◌%◌, ◌<◌, ◌≤◌, min}
use native.Mathlib.Decide.{dec_lt}
use native.Mathlib.Omega.{arith}
use lib.ListN.{get_or}
use Rattle.k2.specs.Bits.{digit, bit_at}
use Rattle.k2.specs.PairSets.{Cells}
use Rattle.bits.specs.BitSets.{Gap}
use Rattle.rows.specs.Rows.{flat}
use Rattle.k2.specs.DigitLaws.{digit_lt, digit_none}
use Rattle.paths.specs.Questions.{row_width}
use Rattle.grid.specs.Grid.{row_of, first_rows}
use Rattle.grid.specs.GridLaws.{within_in, within_row, within_column}
use Rattle.rowpairs.specs.Evaluation.{relation_in, Column}

module _ (ws ms : List ℕ) (n x y : ℕ) where
  pub cell_row : n ≤ x → relation_in ws ms n x y ≡ 0
  cell_row h = within_row n (first_rows (row_width n) ws ms) x y h

  pub cell_column : n ≤ y → relation_in ws ms n x y ≡ 0
  cell_column h = within_column n (first_rows (row_width n) ws ms) x y h

  module _ (h : x < n) (l : y < n) where
    cell : relation_in ws ms n x y ≡ min (digit (get_or ms x 0) (y / 64)) (digit (get_or ws (x * row_width n + y / 64) 0) (y % 64))
    unfolding first_rows row_of
    cell = within_in n (first_rows (row_width n) ws ms) x y h l

    pub cell_masked : digit (get_or ms x 0) (y / 64) ≡ 1 → relation_in ws ms n x y ≡ digit (get_or ws (x * row_width n + y / 64) 0) (y % 64)
    cell_masked e = let d : digit (get_or ws (x * row_width n + y / 64) 0) (y % 64) < 2 = digit_lt _ _ in omega (arith, cell, e, d)

    pub cell_unmasked : digit (get_or ms x 0) (y / 64) ≡ 0 → relation_in ws ms n x y ≡ 0
    cell_unmasked e = omega (arith, cell, e)

-- ---- the columns of a row
module _ (ws ms : List ℕ) (n x : ℕ) (h : x < n) where
  pub column_empty : get_or ms x 0 ≡ 0 → (y : ℕ) → relation_in ws ms n x y ≡ 0
  column_empty e y = go (dec_lt y n)
    where
      go : Dec (y < n) → relation_in ws ms n x y ≡ 0
      go (yes l) = cell_unmasked ws ms n x y h l (ap (λ (m : ℕ). digit m (y / 64)) e ∙ digit_none (y / 64))
      go (no l) = cell_column ws ms n x y (omega arith)

  pub column_skip : (from : ℕ) → digit (get_or ms x 0) (from / 64) ≡ 0 → Gap (relation_in ws ms n x) from (from / 64 * 64 + 64)
  column_skip from e k l m = go (dec_lt k n)
    where
      go : Dec (k < n) → relation_in ws ms n x k ≡ 0
      go (yes q) =
          let z : from / 64 ≡ k / 64 = omega arith in
          cell_unmasked ws ms n x k h q (ap (λ (c : ℕ). digit (get_or ms x 0) c) (sym z) ∙ e)
      go (no q) = cell_column ws ms n x k (omega arith)

  module _ (row : ℕ) (at : row ≡ x * row_width n * 64) (from : ℕ) (e : digit (get_or ms x 0) (from / 64) ≡ 1) where
    column_bit : (k : ℕ) → k < n → k / 64 ≡ from / 64 → relation_in ws ms n x k ≡ bit_at ws (row + k)
    unfolding bit_at
    column_bit k q z =
        let p : x * row_width n + k / 64 ≡ (row + k) / 64 = omega arith in
        let r : k % 64 ≡ (row + k) % 64 = omega arith in
        cell_masked ws ms n x k h q (ap (λ (c : ℕ). digit (get_or ms x 0) c) z ∙ e) ∙ ap₂ (λ (i j : ℕ). digit (get_or ws i 0) j) p r

    pub column_gap : (end : ℕ) → end ≤ from / 64 * 64 + 64 → ((k : ℕ) → from ≤ k → k < end → k < n → bit_at ws (row + k) ≡ 0)
        → Gap (relation_in ws ms n x) from end
    column_gap end l g k a b = go (dec_lt k n)
      where
        go : Dec (k < n) → relation_in ws ms n x k ≡ 0
        go (yes q) = column_bit k q (omega arith) ∙ g k a b q
        go (no q) = cell_column ws ms n x k (omega arith)

    pub column_hit : (k : ℕ) → k < n → from ≤ k → k < from / 64 * 64 + 64 → bit_at ws (row + k) ≡ 1 → relation_in ws ms n x k ≡ 1
    column_hit k q l m d = column_bit k q (omega arith) ∙ d

-- ---- the pair words of a row
module _ (a : Cells) (x : ℕ) where
  pub pair_gap : (p end : ℕ) → p / 1024 ≡ x → end ≤ 1024 → Gap (a x) (p % 1024) end → Gap (flat a) p (x * 1024 + end)
  unfolding flat
  pair_gap p end e h g k l m =
      let q : k / 1024 ≡ x = omega arith in
      ap (λ (i : ℕ). a i (k % 1024)) q ∙ g (k % 1024) (omega arith) (omega arith)

  pub pair_hit : (y : ℕ) → y < 1024 → a x y ≡ 1 → flat a (x * 1024 + y) ≡ 1
  unfolding flat
  pair_hit y h e =
      let q : (x * 1024 + y) / 1024 ≡ x = omega arith in
      let r : (x * 1024 + y) % 1024 ≡ y = omega arith in
      ap₂ a q r ∙ e

module _ (ws ms : List ℕ) (n p : ℕ) where
  pub pair_past : (end : ℕ) → n ≤ p / 1024 → Gap (flat (relation_in ws ms n)) p end
  unfolding flat
  pair_past end h k l m = cell_row ws ms n (k / 1024) (k % 1024) (omega arith)

  pub pair_row : {r : ℕ} → Column (relation_in ws ms n (p / 1024)) (p % 1024) n r → n ≤ r → Gap (flat (relation_in ws ms n)) p (p / 1024 * 1024 + 1024)
  pair_row C h = pair_gap (relation_in ws ms n) (p / 1024) p 1024 refl (omega arith) (λ k l m. go k l (dec_lt k n))
    where
      go : (k : ℕ) → p % 1024 ≤ k → Dec (k < n) → relation_in ws ms n (p / 1024) k ≡ 0
      go k l (yes q) = C.gap k l (omega arith)
      go k l (no q) = cell_column ws ms n (p / 1024) k (omega arith)
