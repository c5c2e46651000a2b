-- Laws of reading a tree's set: what the words of a tree tell, and which words are a tree.
--   tree_tells_set  the words of a set's tree tell the set
--   told_set        what words tell is a set of pairs below n, whatever they are
--   formed_tree, tree_formed
--                   words pass the test exactly if they are well formed
--   formed_set      and the set is the one that they tell
-- Assumes nothing.
use Rattle.std.specs.Prelude.{◌≡◌, List, [], ◌∷◌, Bool, true, false, ◌&&◌, ltb, eqb}
use Rattle.std.proofs.Math.Path.{refl, ap, fun_ext}
use Rattle.std.proofs.Common.{sym, ◌∙◌, mod-lt, pow_pos, eq-eqb, ne_eqb, eqb-true, lt-ltb, le-ltb}
use Prim.Native.Nat.{ℕ, zero, suc, ◌+◌, ◌%◌, ◌^◌, ◌≤◌, ◌<◌, min}
use Rattle.std.proofs.Math.Decide.{dec_lt}
use native.Mathlib.Omega.{arith}
use Rattle.book.specs.Basics.{pick}
use Rattle.k2.specs.Bits.{bit_at, bits_of}
use Rattle.k2.specs.PairSets.{Cells, IsSet}
use Rattle.k2.specs.Trees.{quadrant, filled, tree_bits, tree_words, WellFormed, child_place, height}
use Rattle.k2.specs.Nodes.{Node, root, child}
use Rattle.k2.specs.Trees.{quarter_of}
use Rattle.k2.specs.NodeLaws.{filled_lt, quarter_lt, quadrant_cell, empty_cell, node_bit}
use Rattle.k2.specs.HeightLaws.{height_is}
use Rattle.k2.specs.TreeLaws.{tree_words_bits}
use Rattle.k2.specs.TreeSets.{cell_at, set_in, same_words, formed}

-- ---- a cell is read
module _ (side : ℕ) (a : Cells) (f : ℕ → ℕ) (e : f ≡ bits_of (tree_bits side a)) where
  module _ (h : ℕ) {s : Cells} {b : ℕ} (n : Node side a f (suc h) s b) (x y : ℕ) (lx : x < 2 ^ suc h) (ly : y < 2 ^ suc h) where
    abbrev q : ℕ
    q = quarter_of (2 ^ h) x y

    ql : q < 4
    ql = quarter_lt h x y lx ly

    -- by the bit of its quarter, from what the quarter's children tell
    cell_step : (f (b + q) ≡ 1 → cell_at f h (child_place f (b + q)) (x % 2 ^ h) (y % 2 ^ h) ≡ min 1 (quadrant h q s (x % 2 ^ h) (y % 2 ^ h)))
        → cell_at f (suc h) b x y ≡ min 1 (s x y)
    unfolding cell_at
    cell_step below = go (f (b + q)) refl (rw (node_bit e n q ql) (filled_lt h (quadrant h q s))) ∙ ap (min 1) (quadrant_cell h s x y ly)
      where
        go : (v : ℕ) → f (b + q) ≡ v → v < 2
            → pick (eqb (f (b + q)) 0) 0 (cell_at f h (child_place f (b + q)) (x % 2 ^ h) (y % 2 ^ h)) ≡ min 1 (quadrant h q s (x % 2 ^ h) (y % 2 ^ h))
        go zero z g =
            rw (eq-eqb (f (b + q)) 0 z)
            (sym
            (ap (min 1) (empty_cell h (quadrant h q s) (x % 2 ^ h) (y % 2 ^ h) (mod-lt x (pow_pos h)) (mod-lt y (pow_pos h)) (sym (node_bit e n q ql) ∙ z))))
        go (suc zero) z g = rw (ne_eqb (f (b + q)) 0 (λ k. omega arith)) (below z)
        go (suc (suc v)) z g = absurd (omega arith)

  cell-at : (h : ℕ) {s : Cells} {b : ℕ} → Node side a f h s b → filled h s ≡ 1 → (x y : ℕ) → x < 2 ^ h → y < 2 ^ h → cell_at f h b x y ≡ min 1 (s x y)
  unfolding cell_at filled
  cell-at zero {s} n w x y lx ly =
      let ex : x ≡ 0 = omega arith in
      let ey : y ≡ 0 = omega arith in
      rw (ex, ey) (sym w)
  cell-at (suc h) {s} {b} n w x y lx ly =
      cell_step h n x y lx ly
      (λ z. cell-at h (child (quarter_of (2 ^ h) x y) n (quarter_lt h x y lx ly) z) (sym (node_bit e n (quarter_of (2 ^ h) x y) (quarter_lt h x y lx ly)) ∙ z)
      (x % 2 ^ h) (y % 2 ^ h) (mod-lt x (pow_pos h)) (mod-lt y (pow_pos h)))

-- the whole square's, also of the empty set
cell_whole : (h : ℕ) (a : Cells) (f : ℕ → ℕ) → 1 ≤ h → f ≡ bits_of (tree_bits h a) → (x y : ℕ) → x < 2 ^ h → y < 2 ^ h → cell_at f h 0 x y ≡ min 1 (a x y)
cell_whole zero a f l e x y lx ly = absurd (omega arith)
cell_whole (suc h) a f l e x y lx ly =
    cell_step (suc h) a f e h root x y lx ly
    (λ z. cell-at (suc h) a f e h (child (quarter_of (2 ^ h) x y) root (quarter_lt h x y lx ly) z)
    (sym (node_bit e root (quarter_of (2 ^ h) x y) (quarter_lt h x y lx ly)) ∙ z)
    (x % 2 ^ h) (y % 2 ^ h) (mod-lt x (pow_pos h)) (mod-lt y (pow_pos h)))

-- ---- the words of a set's tree tell the set
pub tree_tells_set : (n : ℕ) (a : Cells) → IsSet n a → set_in n (tree_words n a) ≡ a
unfolding set_in
tree_tells_set n a A = fun_ext (λ x. fun_ext (λ y. go x y (dec_lt x n) (dec_lt y n)))
  where
    go : (x y : ℕ) → Dec (x < n) → Dec (y < n) → pick (ltb x n && ltb y n) (cell_at (bit_at (tree_words n a)) (height n) 0 x y) 0 ≡ a x y
    go x y (no l) d = rw (le-ltb x n (omega arith)) (sym (A.row x y (omega arith)))
    go x y (yes l) (no d) = rw (lt-ltb x n l, le-ltb y n (omega arith)) (sym (A.column x y (omega arith)))
    go x y (yes l) (yes d) =
        let w = height_is n in
        rw (lt-ltb x n l, lt-ltb y n d)
        (cell_whole (height n) a (bit_at (tree_words n a)) w.0 (tree_words_bits n a) x y (omega (arith, w.1)) (omega (arith, w.1))
        ∙ omega (arith, A.bit x y))

-- what words tell is a set of pairs below n, whatever they are
cell_bit : (f : ℕ → ℕ) (h b x y : ℕ) → cell_at f h b x y < 2
unfolding cell_at
cell_bit f zero b x y = omega arith
cell_bit f (suc h) b x y = go (eqb (f (b + quarter_of (2 ^ h) x y)) 0) (cell_bit f h (child_place f (b + quarter_of (2 ^ h) x y)) (x % 2 ^ h) (y % 2 ^ h))
  where
    go : (t : Bool) {v : ℕ} → v < 2 → pick t 0 v < 2
    go true l = omega arith
    go false l = l

pub told_set : (n : ℕ) (ws : List ℕ) → IsSet n (set_in n ws)
unfolding set_in
told_set n ws = record {
  bit = λ x y. go (ltb x n && ltb y n) (cell_bit (bit_at ws) (height n) 0 x y);
  row = λ x y l. rw (le-ltb x n l) refl;
  column = λ x y l. rw (le-ltb y n l) (none (ltb x n) (cell_at (bit_at ws) (height n) 0 x y));
}
  where
    go : (t : Bool) {v : ℕ} → v < 2 → pick t v 0 < 2
    go true l = l
    go false l = omega arith

    none : (t : Bool) (v : ℕ) → pick (t && false) v 0 ≡ 0
    none true v = refl
    none false v = refl

-- ---- whether words are a tree
same-words : (vs ws : List ℕ) → same_words vs ws ≡ true → vs ≡ ws
unfolding same_words
same-words [] [] e = refl
same-words [] (w ∷ ws) e = absurd (let z : ◌≡◌ {A = ℕ} 0 1 = cc in omega arith)
same-words (v ∷ vs) [] e = absurd (let z : ◌≡◌ {A = ℕ} 0 1 = cc in omega arith)
same-words (v ∷ vs) (w ∷ ws) e = go (λ q. same-words vs ws q) (eqb v w) refl e
  where
    go : (same_words vs ws ≡ true → vs ≡ ws) → (t : Bool) → eqb v w ≡ t → (t && same_words vs ws) ≡ true → v ∷ vs ≡ w ∷ ws
    go ih true q e = rw (eqb-true v w q, ih e) refl
    go ih false q e = absurd (let z : ◌≡◌ {A = ℕ} 0 1 = cc in omega arith)

words_same : (ws : List ℕ) → same_words ws ws ≡ true
unfolding same_words
words_same [] = refl
words_same (w ∷ ws) = rw (eq-eqb w w refl) (words_same ws)

pub formed_tree : {n : ℕ} {ws : List ℕ} → formed n ws ≡ true → WellFormed n ws
unfolding formed
formed_tree {n} {ws} e = record { set = set_in n ws; is_set = told_set n ws; tree = same-words ws (tree_words n (set_in n ws)) e }

pub tree_formed : {n : ℕ} {ws : List ℕ} → WellFormed n ws → formed n ws ≡ true
unfolding formed
tree_formed {n} {ws} w =
    let s : tree_words n (set_in n ws) ≡ ws =
    ap (λ (vs : List ℕ). tree_words n (set_in n vs)) w.tree ∙ ap (tree_words n) (tree_tells_set n w.set w.is_set) ∙ sym w.tree in
    rw s (words_same ws)

-- and the set is the one that they tell
pub formed_set : {n : ℕ} {ws : List ℕ} (w : WellFormed n ws) → set_in n ws ≡ w.set
formed_set {n} {ws} w = ap (set_in n) w.tree ∙ tree_tells_set n w.set w.is_set
