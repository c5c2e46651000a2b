-- Laws of trees: the tree of a set tells the set, and what the quarters of a transposed square are.
--   tree-bits, tree_words_bits
--                  the bits of a tree are 0 and 1, and its words have them
--   tree_words_tell, tree_bits_tell
--                  a tree is the tree of one set of pairs below n
--   tree_words_none, tree_none
--                  the empty set has no words, and no words are a well-formed tree
--   quadrant_transpose, filled_transpose
--                  the quarters of a transposed square, with 1 and 2 exchanged; it is empty where the square is
-- Assumes nothing.
use Rattle.std.specs.Prelude.{◌≡◌, List, [], ◌∷◌, ◌++◌, map, length, get_or}
use Rattle.std.proofs.Math.Path.{refl, sym, ap, fun_ext}
use Rattle.std.proofs.Common.{◌∙◌, mod-lt, get_or-append-add, pow_pos}
use Prim.Native.Nat.{ℕ, zero, suc, ◌+◌, ◌-◌, ◌/◌, ◌%◌, ◌^◌, ◌≤◌, ◌<◌, min}
use Rattle.std.proofs.Math.Decide.{dec_lt}
use native.Mathlib.Omega.{arith}
use Rattle.std.proofs.lemmas.List.{length-map}
use Rattle.std.proofs.Math.ListN.{get_or-append}
use Rattle.k2.specs.Bits.{bit_at, bits_of, packed, words_of}
use Rattle.k2.specs.PairSets.{Cells, IsSet, transpose}
use Rattle.k2.specs.Trees.{quadrant, filled, quarters, keep, levels, tree_bits, tree_words, WellFormed, height}
use Rattle.k2.specs.Nodes.{Node, root, child, exchanged}
use Rattle.k2.specs.Trees.{quarter_of}
use Rattle.k2.specs.BitLaws.{Bits, words_bits}
use Rattle.k2.specs.NodeLaws.{map_at, filled_lt, quarter_lt, quadrant_cell, empty_cell, blank, levels_none, node_bit}
use Rattle.k2.specs.HeightLaws.{height_is}

-- ---- the tree of a set tells the set
module _ (side : ℕ) (a b : Cells) (f : ℕ → ℕ) (ea : f ≡ bits_of (tree_bits side a)) (eb : f ≡ bits_of (tree_bits side b)) where
  -- squares whose four bits begin at the same place have the same cells
  same_cell : (h : ℕ) {s t : Cells} {p : ℕ} → Node side a f h s p → Node side b f h t p → filled h s ≡ 1 → filled h t ≡ 1
      → (x y : ℕ) → x < 2 ^ h → y < 2 ^ h → min 1 (s x y) ≡ min 1 (t x y)
  unfolding filled
  same_cell zero n m fs ft x y hx hy =
      let ex : x ≡ 0 = omega arith in
      let ey : y ≡ 0 = omega arith in
      rw (ex, ey) (omega arith)
  same_cell (suc h) {s} {t} {p} n m fs ft x y hx hy =
      ap (min 1) (sym (quadrant_cell h s x y hy)) ∙ go (λ e. same_cell h (child q n ql e) (child q m ql e) (sym bs ∙ e) (sym bt ∙ e) i j li lj)
      (f (p + q)) refl (rw bs (filled_lt h (quadrant h q s))) ∙ ap (min 1) (quadrant_cell h t x y hy)
    where
      q : ℕ
      q = quarter_of (2 ^ h) x y

      ql : q < 4
      ql = quarter_lt h x y hx hy

      bs : f (p + q) ≡ filled h (quadrant h q s)
      bs = node_bit ea n q ql

      bt : f (p + q) ≡ filled h (quadrant h q t)
      bt = node_bit eb m q ql

      i : ℕ
      i = x % 2 ^ h

      j : ℕ
      j = y % 2 ^ h

      li : i < 2 ^ h
      li = mod-lt x (pow_pos h)

      lj : j < 2 ^ h
      lj = mod-lt y (pow_pos h)

      go : (f (p + q) ≡ 1 → min 1 (quadrant h q s i j) ≡ min 1 (quadrant h q t i j))
          → (v : ℕ) → f (p + q) ≡ v → v < 2 → min 1 (quadrant h q s i j) ≡ min 1 (quadrant h q t i j)
      go ih zero e g = ap (min 1) (empty_cell h (quadrant h q s) i j li lj (sym bs ∙ e) ∙ sym (empty_cell h (quadrant h q t) i j li lj (sym bt ∙ e)))
      go ih (suc zero) e g = ih e
      go ih (suc (suc v)) e g = absurd (omega arith)

  same_filled : (h : ℕ) {s t : Cells} {p : ℕ} → Node side a f (suc h) s p → Node side b f (suc h) t p → filled (suc h) s ≡ filled (suc h) t
  unfolding filled
  same_filled h {s} {t} {p} n m = rw (by 0 (omega arith), by 1 (omega arith), by 2 (omega arith), by 3 (omega arith))
    where
      by : (q : ℕ) → q < 4 → filled h (quadrant h q s) ≡ filled h (quadrant h q t)
      by q l = sym (node_bit ea n q l) ∙ node_bit eb m q l

tree_tells : (h : ℕ) (a b : Cells) → 1 ≤ h → IsSet (2 ^ h) a → IsSet (2 ^ h) b → bits_of (tree_bits h a) ≡ bits_of (tree_bits h b) → a ≡ b
tree_tells zero a b l ia ib e = absurd (omega arith)
tree_tells (suc h) a b l ia ib e = fun_ext (λ x. fun_ext (λ y. cell x y (dec_lt x (2 ^ suc h)) (dec_lt y (2 ^ suc h))))
  where
    same : filled (suc h) a ≡ filled (suc h) b
    same = same_filled (suc h) a b (bits_of (tree_bits (suc h) a)) refl e h root root

    within : (x y : ℕ) → x < 2 ^ suc h → y < 2 ^ suc h → (v : ℕ) → filled (suc h) a ≡ v → v < 2 → min 1 (a x y) ≡ min 1 (b x y)
    within x y hx hy zero z g = ap (min 1) (empty_cell (suc h) a x y hx hy z ∙ sym (empty_cell (suc h) b x y hx hy (sym same ∙ z)))
    within x y hx hy (suc zero) z g = same_cell (suc h) a b (bits_of (tree_bits (suc h) a)) refl e (suc h) root root z (sym same ∙ z) x y hx hy
    within x y hx hy (suc (suc v)) z g = absurd (omega arith)

    cell : (x y : ℕ) → Dec (x < 2 ^ suc h) → Dec (y < 2 ^ suc h) → a x y ≡ b x y
    cell x y (yes hx) (yes hy) = omega (arith, within x y hx hy (filled (suc h) a) refl (filled_lt (suc h) a), ia.bit x y, ib.bit x y)
    cell x y (no hx) hy = ia.row x y (omega arith) ∙ sym (ib.row x y (omega arith))
    cell x y (yes hx) (no hy) = ia.column x y (omega arith) ∙ sym (ib.column x y (omega arith))

same_bits : (n : ℕ) (a b : Cells) → IsSet n a → IsSet n b → bits_of (tree_bits (height n) a) ≡ bits_of (tree_bits (height n) b) → a ≡ b
same_bits n a b ia ib e = tree_tells (height n) a b (height_is n).0 (wider ia) (wider ib) e
  where
    wider : {c : Cells} → IsSet n c → IsSet (2 ^ height n) c
    wider i =
        record { bit = i.bit; row = λ x y l. i.row x y (omega (arith, (height_is n).1)); column = λ x y l. i.column x y (omega (arith, (height_is n).1)) }

-- the bits of a tree are 0 and 1
levels_bits : (h : ℕ) (qs : List Cells) → Bits (bits_of (levels h qs))
unfolding levels
levels_bits zero qs k = omega arith
levels_bits (suc h) qs k = go (levels_bits h (keep (filled h) (quarters h qs))) (dec_lt k (length A))
  where
    A : List ℕ
    A = map (filled h) (quarters h qs)

    B : List ℕ
    B = levels h (keep (filled h) (quarters h qs))

    go : Bits (bits_of B) → Dec (k < length A) → get_or (A ++ B) k 0 < 2
    go ih (yes l) = rw (get_or-append A B 0 k l, map_at (filled h) (quarters h qs) k blank (rw length-map at l)) (filled_lt h _)
    go ih (no l) =
        let e : k ≡ length A + (k - length A) = omega arith in
        rw e (rw (get_or-append-add A B (k - length A) 0) (ih (k - length A)))

pub tree-bits : (h : ℕ) (a : Cells) → Bits (bits_of (tree_bits h a))
unfolding tree_bits
tree-bits h a = levels_bits h (keep (filled h) (a ∷ []))

-- the words of a tree have its bits
pub tree_words_bits : (n : ℕ) (a : Cells) → bit_at (tree_words n a) ≡ bits_of (tree_bits (height n) a)
unfolding tree_words
tree_words_bits n a = words_bits (tree_bits (height n) a) (tree-bits (height n) a)

-- a tree is the tree of one set of pairs below n
pub tree_words_tell : (n : ℕ) (a b : Cells) → IsSet n a → IsSet n b → tree_words n a ≡ tree_words n b → a ≡ b
tree_words_tell n a b ia ib e = same_bits n a b ia ib (sym (tree_words_bits n a) ∙ ap bit_at e ∙ tree_words_bits n b)

pub tree_bits_tell : (n : ℕ) (a b : Cells) → IsSet n a → IsSet n b → tree_bits (height n) a ≡ tree_bits (height n) b → a ≡ b
tree_bits_tell n a b ia ib e = same_bits n a b ia ib (ap bits_of e)

-- the empty set has no words
filled_none : (h : ℕ) → filled h blank ≡ 0
unfolding filled quadrant
filled_none zero = refl
filled_none (suc h) = omega (arith, filled_none h)

pub tree_words_none : (n : ℕ) → tree_words n blank ≡ []
unfolding tree_words tree_bits keep words_of packed
tree_words_none n = rw (filled_none (height n), levels_none (height n))

pub tree_none : (n : ℕ) → WellFormed n []
tree_none n = record {
  set = blank;
  is_set = record { bit = λ x y. omega arith; row = λ x y l. refl; column = λ x y l. refl };
  tree = sym (tree_words_none n);
}

-- ---- the tree of a transpose: quarters 1 and 2 are exchanged at every level
pub quadrant_transpose : (h q : ℕ) (a : Cells) → q < 4 → quadrant h (exchanged q) (transpose a) ≡ transpose (quadrant h q a)
unfolding quadrant transpose
quadrant_transpose h q a l = fun_ext (λ x. fun_ext (λ y.
    let row : exchanged q / 2 ≡ q % 2 = omega arith in
    let column : exchanged q % 2 ≡ q / 2 = omega arith in
    rw (row, column)))

pub filled_transpose : (h : ℕ) (a : Cells) → filled h (transpose a) ≡ filled h a
unfolding filled
filled_transpose zero a = unfold transpose in refl
filled_transpose (suc h) a =
    let by : (q : ℕ) → q < 4 → filled h (quadrant h (exchanged q) (transpose a)) ≡ filled h (quadrant h q a) =
    λ q l. ap (filled h) (quadrant_transpose h q a l) ∙ filled_transpose h (quadrant h q a) in
    omega (arith, by 0 (omega arith), by 1 (omega arith), by 2 (omega arith), by 3 (omega arith))
