-- Laws of `pack_part`: the cells are the last level of the full tree, whose groups that are not all 0 are the tree.
--   set_wider, cells_wider
--                  a set of pairs below m is one below n, and has the same cells in a square of twice the side
--   full_cells, full_heaped
--                  the cells are the last level of the full tree, and each bit above them tells of its four
--   full_groups    its groups in whole words that are not all 0 are the tree
--   block_set, part_cells, part_heaped, part_next, part_room
--                  the same of a square filled by blocks of 8 × 8: its cells, its levels, how they follow, and the room
--   packed_tree    a tree at the front of words
-- Assumes nothing.
use mathlib.Core.Path.{◌≡◌, refl, sym, ap, ap₂, ◌∙◌, fun_ext}
use mathlib.Core.List.{List, ◌++◌}
use Prim.Native.Nat.{ℕ, zero, suc, ◌+◌, ◌-◌, ◌*◌, ◌/◌, ◌^◌, ◌≤◌, ◌<◌, max}
use native.Mathlib.Nat.{mod-eq_of_lt, div-eq_of_lt, pow-suc, div-lt_iff_lt-mul, pow-le-pow_right}
use native.Mathlib.Decide.{dec_lt}
use native.Mathlib.Omega.{arith}
use lib.ListN.{length, take, length-take}
use lib.Seq.{take-append-le}
use lib.Pow.{pow_mono, pow-add}
use Rattle.k2.specs.Bits.{words_of}
use Rattle.k2.specs.PairSets.{Cells, IsSet}
use Rattle.k2.specs.Trees.{height, tree_bits, tree_words, tree_unit}
use Rattle.k2.specs.Heap.{full_size, full, place, row_at, column_at, cells, compacted}
use Rattle.k2.specs.PlaceLaws.{four_pos, place_at, row_lt, column_lt, row_step, column_step}
use Rattle.k2.specs.HeapLaws.{full_above, full_cell, full_past, full_bits, full_tree, compacted_past}
use Rattle.k2.specs.SizeLaws.{full_size_last, full_size_next, full_size_four, full_size_power, tree_words_most}
use Rattle.packing.specs.Image.{raised, above, Heaped}
use Rattle.packing.proofs.BlockLaws.{raised_in, raised_out, cells_in, cells_out}
use Rattle.packing.proofs.LiftLaws.{above_in, above_out}

pub set_wider : (m n : ℕ) (a : Cells) → m ≤ n → IsSet m a → IsSet n a
set_wider m n a l i = record { bit = i.bit; row = λ x y h. i.row x y (omega arith); column = λ x y h. i.column x y (omega arith) }

-- a set has the same cells in a square of twice the side
pub cells_wider : (h : ℕ) (a : Cells) → IsSet (2 ^ h) a → cells h a ≡ cells (suc h) a
cells_wider h a is = fun_ext (λ z. go z (dec_lt z (4 ^ h)) (dec_lt z (4 ^ suc h)))
  where
    n : ℕ
    n = 4 ^ h

    more : 4 ^ suc h ≡ n * 4
    more = pow-suc 4 h

    go : (z : ℕ) → Dec (z < n) → Dec (z < 4 ^ suc h) → cells h a z ≡ cells (suc h) a z
    go z (yes l) d =
        cells_in h a z l
        ∙ sym (cells_in (suc h) a z (omega (arith, more))
        ∙ rw (row_step h z, column_step h z, div-eq_of_lt l, mod-eq_of_lt l) (ap₂ a (omega arith) (omega arith)))
    go z (no l) (no d) = cells_out h a z (omega arith) ∙ sym (cells_out (suc h) a z (omega arith))
    go z (no l) (yes d) = cells_out h a z (omega arith) ∙ sym (cells_in (suc h) a z d ∙ past (z / n) refl)
      where
        some : 0 < z / n
        some = by (dec_lt 0 (z / n))
          where
            by : Dec (0 < z / n) → 0 < z / n
            by (yes s) = s
            by (no s) = let t : z < 1 * n = (div-lt_iff_lt-mul {y = 1} (four_pos h)).0 (omega arith) in absurd (omega (arith, l))

        quarter : z / n < 4
        quarter = (div-lt_iff_lt-mul {y = 4} (four_pos h)).1 (omega (arith, more))

        past : (q : ℕ) → z / n ≡ q → a (row_at (suc h) z) (column_at (suc h) z) ≡ 0
        past zero e = absurd (omega (arith, some))
        past (suc zero) e = is.column _ _ (rw (column_step h z, e) (omega arith))
        past (suc (suc zero)) e = is.row _ _ (rw (row_step h z, e) (omega arith))
        past (suc (suc (suc zero))) e = is.row _ _ (rw (row_step h z, e) (omega arith))
        past (suc (suc (suc (suc q)))) e = absurd (omega (arith, quarter))

-- ---- the last level
pub full_cells : (h : ℕ) (a : Cells) → IsSet (2 ^ suc h) a → raised (full_size h 1) (cells (suc h) a) ≡ above (full_size h 1) (full (suc h) a)
full_cells h a is = fun_ext (λ k. go k (dec_lt k b) (dec_lt (k - b) (4 ^ suc h)))
  where
    b : ℕ
    b = full_size h 1

    go : (k : ℕ) → Dec (k < b) → Dec (k - b < 4 ^ suc h) → raised b (cells (suc h) a) k ≡ above b (full (suc h) a) k
    go k (yes l) d = raised_out b (cells (suc h) a) k l ∙ sym (above_out b (full (suc h) a) k l)
    go k (no l) (yes d) =
        let z : ℕ = k - b in
        let x : ℕ = row_at (suc h) z in
        let y : ℕ = column_at (suc h) z in
        let e : b + place (suc h) x y ≡ k = omega (arith, place_at (suc h) z d) in
        raised_in b (cells (suc h) a) k (omega arith) ∙ cells_in (suc h) a z d
        ∙ sym (above_in b (full (suc h) a) k (omega arith) ∙ ap (full (suc h) a) (sym e)
        ∙ full_cell h a x y (row_lt (suc h) z d) (column_lt (suc h) z d) ∙ omega (arith, is.bit x y))
    go k (no l) (no d) =
        raised_in b (cells (suc h) a) k (omega arith) ∙ cells_out (suc h) a (k - b) (omega arith)
        ∙ sym (above_in b (full (suc h) a) k (omega arith) ∙ full_past (suc h) a k (omega (arith, full_size_last h 1)))

pub full_heaped : (h : ℕ) (a : Cells) → Heaped (full_size h 1) (full (suc h) a)
full_heaped h a =
    record {
      bit = full_bits (suc h) a;
      upper = full_above h a;
      past = λ i l. full_past (suc h) a i (omega (arith, full_size_next h));
    }

-- ---- the groups of whole words
pub full_groups : (h n : ℕ) (a : Cells) → full_size h 1 ≤ 64 * n → compacted (full h a) (16 * n) ≡ tree_bits h a
full_groups h n a l =
    let q : ℕ = full_size h 1 / 4 in
    let e : full_size h 1 ≡ 4 * q = omega (arith, full_size_four h 1) in
    let s : 16 * n ≡ q + (16 * n - q) = omega arith in
    rw s (compacted_past (full h a) q (16 * n - q) (λ p g. full_past h a p (omega arith)) ∙ full_tree h a q e)

-- ---- a square of height h, filled by blocks of 8 × 8, of which 2 ^ g make a side
module _ (h g : ℕ) (low : 1 ≤ h) (eg : g + 3 ≡ max h 3) where
  pub block_set : (a : Cells) → IsSet (2 ^ h) a → IsSet (2 ^ (g + 3)) a
  block_set a is = set_wider (2 ^ h) (2 ^ (g + 3)) a (pow_mono (omega arith)) is

  block_cells : (a : Cells) → IsSet (2 ^ h) a → cells (g + 3) a ≡ cells h a
  block_cells a is = rw eg (sym (by h low is))
    where
      by : (h : ℕ) → 1 ≤ h → IsSet (2 ^ h) a → cells h a ≡ cells (max h 3) a
      by zero l i = absurd (omega arith)
      by (suc zero) l i = cells_wider 1 a i ∙ cells_wider 2 a (set_wider (2 ^ 1) (2 ^ 2) a (omega arith) i)
      by (suc (suc zero)) l i = cells_wider 2 a i
      by (suc (suc (suc h))) l i = let e : max (suc (suc (suc h))) 3 ≡ suc (suc (suc h)) = omega arith in rw e refl

  pub part_cells : (a : Cells) → IsSet (2 ^ h) a → raised (full_size (h - 1) 1) (cells (g + 3) a) ≡ above (full_size (h - 1) 1) (full h a)
  part_cells a is = rw (block_cells a is) (by h low is)
    where
      by : (h : ℕ) → 1 ≤ h → IsSet (2 ^ h) a → raised (full_size (h - 1) 1) (cells h a) ≡ above (full_size (h - 1) 1) (full h a)
      by zero l i = absurd (omega arith)
      by (suc k) l i = let e : suc k - 1 ≡ k = omega arith in rw e (full_cells k a i)

  pub part_heaped : (a : Cells) → Heaped (full_size (h - 1) 1) (full h a)
  part_heaped a = by h low
    where
      by : (h : ℕ) → 1 ≤ h → Heaped (full_size (h - 1) 1) (full h a)
      by zero l = absurd (omega arith)
      by (suc k) l = let e : suc k - 1 ≡ k = omega arith in rw e (full_heaped k a)

  pub part_next : 4 * full_size (h - 1) 1 + 4 ≡ full_size h 1
  part_next = by h low
    where
      by : (h : ℕ) → 1 ≤ h → 4 * full_size (h - 1) 1 + 4 ≡ full_size h 1
      by zero l = absurd (omega arith)
      by (suc k) l = let e : suc k - 1 ≡ k = omega arith in rw e (full_size_next k)

  pub part_room : full_size (h - 1) 1 / 64 + 4 ^ g < (full_size h 1 + 63) / 64 + 1
  part_room = by (dec_lt h 3)
    where
      n : 3 * full_size h 1 + 4 ≡ 4 * 4 ^ h
      n = full_size_power h

      by : Dec (h < 3) → full_size (h - 1) 1 / 64 + 4 ^ g < (full_size h 1 + 63) / 64 + 1
      by (yes l) =
          let z : g ≡ 0 = omega arith in
          let m : 4 ^ h ≤ 16 = pow-le-pow_right {n = 4} (omega arith) {i = h} {j = 2} (omega arith) in
          rw z (omega (arith, n, part_next, four_pos h))
      by (no l) =
          let e : h ≡ g + 3 = omega arith in
          let m : 4 ^ h ≡ 4 ^ g * 64 = ap (λ (x : ℕ). 4 ^ x) e ∙ pow-add 4 g 3 in
          omega (arith, n, part_next)

-- a tree at the front of words
pub packed_tree : (n h r : ℕ) (a : Cells) (ws rest : List ℕ) → h ≡ height n → n ≤ 2 ^ h → IsSet n a → r ≤ length ws
    → (IsSet (2 ^ h) a → take r ws ≡ words_of (tree_bits h a)) → (take r (ws ++ rest) ≡ tree_words n a) × (r ≤ tree_unit n)
unfolding tree_words
packed_tree n h r a ws rest eh nh is l w =
    let e : take r ws ≡ tree_words n a = w (set_wider n (2 ^ h) a nh is) ∙ ap (λ (x : ℕ). words_of (tree_bits x a)) eh in
    let k : r ≡ length (tree_words n a) = sym (rw length-take (omega arith)) ∙ ap length e in
    (rw (take-append-le r ws rest l) e, omega (arith, tree_words_most n a))
