-- Laws of the squares of a tree, and of child places.
--   map_at, keep_count, keep_lt, keep_at
--                      squares that a test keeps: how many, and that one that passes stands where the ones before it tell
--   filled_lt, quarters_length, quarters_at, half_lt, quarter_lt
--                      squares and their quarters: how many there are and where each stands
--   quadrant_cell, quadrant_empty, empty_cell
--                      a quarter has the square's cell; a quarter or a cell of an empty square is empty
--   blank              the square with no cell
--   Stands bits h s b  the square s stands among the squares of a level, and its four bits begin at b
--   stands_bit, stands_child
--                      its bits, and where the four bits of a quarter begin, by the count of ones
--   levels_none, node_stands
--                      no squares have no levels; a node of a tree stands in it
--   node_bit           the law of child places: the four bits at a node are 1 for each quarter of its square that is not empty
-- Assumes nothing.
use Rattle.std.specs.Prelude.{◌≡◌}
use Rattle.std.proofs.Math.Path.{refl}
use Rattle.std.proofs.Common.{sym, ap, ap₂, ◌∙◌, subst, suc-add, add_assoc, not-suc-le-zero, le_of_suc-le-suc, mod-lt, div-add-mod', div-lt_iff_lt-mul, pow-suc}
use Rattle.std.proofs.Common.{length-append, get_or-append-add, pow_pos}
use mathlib.Core.List.{List, [], ◌∷◌, ◌++◌, map, append_assoc}
use Prim.Native.Nat.{ℕ, zero, suc, ◌+◌, ◌*◌, ◌/◌, ◌%◌, ◌^◌, ◌<◌}
use Rattle.std.proofs.Math.Nat.{zero-add}
use Rattle.std.proofs.Math.Numerals.{add-one}
use native.Mathlib.Omega.{arith}
use Rattle.std.proofs.Math.ListN.{length, get_or, get_or-append}
use Rattle.std.proofs.lemmas.List.{length-map}
use Rattle.k2.specs.Bits.{ones_below, bits_of}
use Rattle.k2.specs.PairSets.{Cells}
use Rattle.k2.specs.Trees.{quadrant, filled, quarters, keep, keep_if, levels, tree_bits, child_place}
use Rattle.k2.specs.Nodes.{Node, root, child}
use Rattle.k2.specs.Trees.{quarter_of}
use Rattle.k2.specs.BitLaws.{ones_cons, ones_append, ones_first}

-- ---- squares that a test t of 0 or 1 keeps
pub map_at : (t : Cells → ℕ) (qs : List Cells) (k : ℕ) (d : Cells) → k < length qs → get_or (map t qs) k 0 ≡ t (get_or qs k d)
map_at t [] k d h = absurd (not-suc-le-zero h)
map_at t (a ∷ qs) zero d h = refl
map_at t (a ∷ qs) (suc k) d h = map_at t qs k d (le_of_suc-le-suc h)

module _ (t : Cells → ℕ) (bit : (a : Cells) → t a < 2) where
  -- the number kept
  pub keep_count : (qs : List Cells) → ones_below (bits_of (map t qs)) (length qs) ≡ length (keep t qs)
  unfolding ones_below keep
  keep_count [] = refl
  keep_count (a ∷ qs) = rw ones_cons (go (t a) (bit a) (keep_count qs))
    where
      go : (b : ℕ) → b < 2 → ones_below (bits_of (map t qs)) (length qs) ≡ length (keep t qs)
          → b + ones_below (bits_of (map t qs)) (length qs) ≡ length (keep_if b a (keep t qs))
      go zero h e = omega arith
      go (suc zero) h e = omega arith
      go (suc (suc b)) h e = absurd (omega arith)

  -- one that passes is kept, at the place that the ones before it tell
  pub keep_lt : (qs : List Cells) (k : ℕ) (d : Cells) → k < length qs → t (get_or qs k d) ≡ 1 → ones_below (bits_of (map t qs)) k < length (keep t qs)
  unfolding ones_below keep
  keep_lt [] k d h e = absurd (not-suc-le-zero h)
  keep_lt (a ∷ qs) zero d h e = rw e (omega arith)
  keep_lt (a ∷ qs) (suc k) d h e = rw ones_cons (go (t a) (bit a) (keep_lt qs k d (le_of_suc-le-suc h) e))
    where
      go : (b : ℕ) → b < 2 → ones_below (bits_of (map t qs)) k < length (keep t qs) → b + ones_below (bits_of (map t qs)) k < length (keep_if b a (keep t qs))
      go zero h l = omega arith
      go (suc zero) h l = omega arith
      go (suc (suc b)) h l = absurd (omega arith)

  pub keep_at : (qs : List Cells) (k : ℕ) (d : Cells) → k < length qs → t (get_or qs k d) ≡ 1
      → get_or (keep t qs) (ones_below (bits_of (map t qs)) k) d ≡ get_or qs k d
  unfolding ones_below keep
  keep_at [] k d h e = absurd (not-suc-le-zero h)
  keep_at (a ∷ qs) zero d h e = rw e
  keep_at (a ∷ qs) (suc k) d h e = rw ones_cons (go (t a) (bit a) (keep_at qs k d (le_of_suc-le-suc h) e))
    where
      go : (b : ℕ) → b < 2 → get_or (keep t qs) (ones_below (bits_of (map t qs)) k) d ≡ get_or qs k d
          → get_or (keep_if b a (keep t qs)) (b + ones_below (bits_of (map t qs)) k) d ≡ get_or qs k d
      go zero h l = rw zero-add l
      go (suc zero) h l = rw (suc-add, zero-add) l
      go (suc (suc b)) h l = absurd (omega arith)

-- ---- squares and their quarters
pub filled_lt : (h : ℕ) (a : Cells) → filled h a < 2
unfolding filled
filled_lt zero a = omega arith
filled_lt (suc h) a =
    omega (arith, filled_lt h (quadrant h 0 a), filled_lt h (quadrant h 1 a), filled_lt h (quadrant h 2 a), filled_lt h (quadrant h 3 a))

pub quarters_length : (h : ℕ) (qs : List Cells) → length (quarters h qs) ≡ 4 * length qs
unfolding quarters
quarters_length h [] = refl
quarters_length h (a ∷ qs) = omega (arith, quarters_length h qs)

four_more : (j q : ℕ) → 4 * suc j + q ≡ suc (suc (suc (suc (4 * j + q))))
four_more j q = omega arith

pub quarters_at : (h : ℕ) (qs : List Cells) (j q : ℕ) (d : Cells) → j < length qs → q < 4 → get_or (quarters h qs) (4 * j + q) d ≡ quadrant h q (get_or qs j d)
unfolding quarters
quarters_at h [] j q d l g = absurd (not-suc-le-zero l)
quarters_at h (a ∷ qs) zero zero d l g = refl
quarters_at h (a ∷ qs) zero (suc zero) d l g = refl
quarters_at h (a ∷ qs) zero (suc (suc zero)) d l g = refl
quarters_at h (a ∷ qs) zero (suc (suc (suc zero))) d l g = refl
quarters_at h (a ∷ qs) zero (suc (suc (suc (suc q)))) d l g = absurd (omega arith)
quarters_at h (a ∷ qs) (suc j) q d l g = rw four_more (quarters_at h qs j q d (le_of_suc-le-suc l) g)

pub half_lt : (h x : ℕ) → x < 2 ^ suc h → x / 2 ^ h < 2
half_lt h x l = (div-lt_iff_lt-mul {y = 2} (pow_pos h)).1 (omega (arith, pow-suc 2 h))

pub quarter_lt : (h x y : ℕ) → x < 2 ^ suc h → y < 2 ^ suc h → quarter_of (2 ^ h) x y < 4
quarter_lt h x y l g = omega (arith, half_lt h x l, half_lt h y g)

-- the quarter has the square's cell
pub quadrant_cell : (h : ℕ) (a : Cells) (x y : ℕ) → y < 2 ^ suc h → quadrant h (quarter_of (2 ^ h) x y) a (x % 2 ^ h) (y % 2 ^ h) ≡ a x y
unfolding quadrant
quadrant_cell h a x y l =
    let g = half_lt h y l in
    let row : quarter_of (2 ^ h) x y / 2 ≡ x / 2 ^ h = omega arith in
    let column : quarter_of (2 ^ h) x y % 2 ≡ y / 2 ^ h = omega arith in
    rw (row, column) (ap₂ a (div-add-mod' x (2 ^ h)) (div-add-mod' y (2 ^ h)))

-- a quarter of an empty square is empty
pub quadrant_empty : (h : ℕ) (a : Cells) (q : ℕ) → q < 4 → filled (suc h) a ≡ 0 → filled h (quadrant h q a) ≡ 0
unfolding filled
quadrant_empty h a zero l e = omega arith
quadrant_empty h a (suc zero) l e = omega arith
quadrant_empty h a (suc (suc zero)) l e = omega arith
quadrant_empty h a (suc (suc (suc zero))) l e = omega arith
quadrant_empty h a (suc (suc (suc (suc q)))) l e = absurd (omega arith)

pub empty_cell : (h : ℕ) (a : Cells) (x y : ℕ) → x < 2 ^ h → y < 2 ^ h → filled h a ≡ 0 → a x y ≡ 0
unfolding filled
empty_cell zero a x y hx hy e =
    let ex : x ≡ 0 = omega arith in
    let ey : y ≡ 0 = omega arith in
    rw (ex, ey) (omega arith)
empty_cell (suc h) a x y hx hy e =
    rw (← quadrant_cell h a x y hy)
    (empty_cell h (quadrant h (quarter_of (2 ^ h) x y) a) (x % 2 ^ h) (y % 2 ^ h) (mod-lt x (pow_pos h)) (mod-lt y (pow_pos h))
    (quadrant_empty h a (quarter_of (2 ^ h) x y) (quarter_lt h x y hx hy) e))

-- ---- child places
abbrev pub blank : Cells
blank x y = 0

-- the square s stands among the squares of a level. The bits of the levels above it have a one for each square of the level, but for the
-- first of all, which has none
record Stands (bits : List ℕ) (h : ℕ) (s : Cells) (b : ℕ) : Type 0 where
  above : List ℕ
  level : List Cells
  at : ℕ
  within : at < length level
  split : bits ≡ above ++ levels h level
  counted : 4 * (ones_below (bits_of above) (length above) + 1) ≡ length above + 4 * length level
  square : get_or level at blank ≡ s
  place : b ≡ length above + 4 * at

-- the squares qs of side 2 ^ (h + 1), with the bits P of the levels above them
module _ (h : ℕ) (P : List ℕ) (qs : List Cells) where
  abbrev bs : List ℕ
  bs = map (filled h) (quarters h qs)

  abbrev next : List Cells
  next = keep (filled h) (quarters h qs)

  -- bit q of square j
  hit : (L : List ℕ) (j q : ℕ) → j < length qs → q < 4 → bits_of (P ++ (bs ++ L)) (length P + 4 * j + q) ≡ filled h (quadrant h q (get_or qs j blank))
  hit L j q l g =
      rw add_assoc
      (get_or-append-add P (bs ++ L) (4 * j + q) 0
      ∙ get_or-append bs L 0 (4 * j + q) (rw (length-map, quarters_length) (omega arith))
      ∙ map_at (filled h) (quarters h qs) (4 * j + q) blank (rw quarters_length (omega arith)) ∙ ap (filled h) (quarters_at h qs j q blank l g))

  -- the ones before it
  before : (L : List ℕ) (j q : ℕ) → j < length qs → q < 4
      → ones_below (bits_of (P ++ (bs ++ L))) (length P + 4 * j + q) ≡ ones_below (bits_of P) (length P) + ones_below (bits_of bs) (4 * j + q)
  before L j q l g =
      rw (add_assoc, ones_append P (bs ++ L) (4 * j + q), ones_first bs L (4 * j + q) (rw (length-map, quarters_length) (omega arith)))

  -- the ones of this level are the squares of the next
  all_ones : ones_below (bits_of (P ++ bs)) (length (P ++ bs)) ≡ ones_below (bits_of P) (length P) + length next
  all_ones =
      rw (length-append, ones_append P bs (length bs), length-map)
      (ap (λ (x : ℕ). ones_below (bits_of P) (length P) + x) (keep_count (filled h) (filled_lt h) (quarters h qs)))

  width : length (P ++ bs) ≡ length P + 4 * length qs
  width = rw (length-append, length-map, quarters_length)

  down : 4 * (ones_below (bits_of P) (length P) + 1) ≡ length P + 4 * length qs → (L : List ℕ) (j q : ℕ) → j < length qs → q < 4
      → filled h (quadrant h q (get_or qs j blank)) ≡ 1
      → child_place (bits_of (P ++ (bs ++ L))) (length P + 4 * j + q) ≡ length (P ++ bs) + 4 * ones_below (bits_of bs) (4 * j + q)
  unfolding child_place ones_below
  down inv L j q l g e = rw add-one (omega (arith, before L j q l g, hit L j q l g, width))

module _ {bits : List ℕ} {h : ℕ} {s : Cells} {b : ℕ} (n : Stands bits (suc h) s b) (q : ℕ) (ql : q < 4) where
  abbrev P : List ℕ
  P = n.above

  abbrev qs : List Cells
  qs = n.level

  abbrev j : ℕ
  j = n.at

  abbrev rest : List ℕ
  rest = levels h (next h P qs)

  whole : bits ≡ P ++ (bs h P qs ++ rest)
  unfolding levels
  whole = n.split

  stands_bit : bits_of bits (b + q) ≡ filled h (quadrant h q s)
  stands_bit =
      ap₂ (λ (l : List ℕ) (p : ℕ). bits_of l (p + q)) whole n.place
      ∙ hit h P qs rest j q n.within ql
      ∙ ap (λ (c : Cells). filled h (quadrant h q c)) n.square

  stands_child : bits_of bits (b + q) ≡ 1 → Stands bits h (quadrant h q s) (child_place (bits_of bits) (b + q))
  stands_child e =
      record {
        above = P ++ bs h P qs;
        level = next h P qs;
        at = k;
        within = keep_lt (filled h) (filled_lt h) (quarters h qs) (4 * j + q) blank inside one;
        split = whole ∙ sym (append_assoc P (bs h P qs) rest);
        counted = omega (arith, all_ones h P qs, width h P qs, n.counted);
        square = keep_at (filled h) (filled_lt h) (quarters h qs) (4 * j + q) blank inside one ∙ quarter;
        place =
            ap₂ (λ (l : List ℕ) (p : ℕ). child_place (bits_of l) (p + q)) whole n.place
            ∙ down h P qs n.counted rest j q n.within ql (ap (λ (c : Cells). filled h (quadrant h q c)) n.square ∙ full);
      }
    where
      k : ℕ
      k = ones_below (bits_of (bs h P qs)) (4 * j + q)

      full : filled h (quadrant h q s) ≡ 1
      full = sym stands_bit ∙ e

      inside : 4 * j + q < length (quarters h qs)
      inside = rw quarters_length (omega (arith, n.within))

      quarter : get_or (quarters h qs) (4 * j + q) blank ≡ quadrant h q s
      quarter = quarters_at h qs j q blank n.within ql ∙ ap (quadrant h q) n.square

      one : filled h (get_or (quarters h qs) (4 * j + q) blank) ≡ 1
      one = ap (filled h) quarter ∙ full

pub levels_none : (h : ℕ) → levels h [] ≡ []
unfolding levels quarters keep
levels_none zero = refl
levels_none (suc h) = levels_none h

module _ (side : ℕ) (a : Cells) where
  abbrev tree : ℕ → ℕ
  tree = bits_of (tree_bits side a)

  node_stands : {h : ℕ} {s : Cells} {b : ℕ} → filled side a ≡ 1 → Node side a tree h s b → Stands (tree_bits side a) h s b
  node_stands e root =
      record {
        above = [];
        level = a ∷ [];
        at = 0;
        within = omega arith;
        split = unfold tree_bits keep in (rw e);
        counted = unfold ones_below in refl;
        square = refl;
        place = refl;
      }
  node_stands e (child q n l o) = stands_child (node_stands e n) q l o

  -- the empty set has no bits, and its tree no square but the whole
  no_bits : filled side a ≡ 0 → (p : ℕ) → tree p ≡ 0
  unfolding tree_bits keep
  no_bits e p = rw (e, levels_none side)

  empty_node : {h : ℕ} {s : Cells} {b : ℕ} → filled side a ≡ 0 → Node side a tree h s b → filled h s ≡ 0
  empty_node e root = e
  empty_node e (child {b = b} q n l o) = absurd (omega (arith, o, no_bits e (b + q)))

  bit_of : {h : ℕ} {s : Cells} {b : ℕ} → Node side a tree (suc h) s b → (q : ℕ) → q < 4 → tree (b + q) ≡ filled h (quadrant h q s)
  bit_of {h} {s} {b} n q l = go (filled side a) refl (filled_lt side a)
    where
      go : (v : ℕ) → filled side a ≡ v → v < 2 → tree (b + q) ≡ filled h (quadrant h q s)
      go zero e g = no_bits e (b + q) ∙ sym (quadrant_empty h s q l (empty_node e n))
      go (suc zero) e g = stands_bit (node_stands e n) q l
      go (suc (suc v)) e g = absurd (omega arith)

-- The law of child places: the four bits that begin at a node, in order, are 1 for each quarter of its square that is not empty. A node is
-- the whole square at bit 0, or a quarter whose bit p is 1, at four times the count of ones in bits 0 to p.
pub node_bit : {side : ℕ} {a : Cells} {f : ℕ → ℕ} {h : ℕ} {s : Cells} {b : ℕ} → f ≡ bits_of (tree_bits side a) → Node side a f (suc h) s b
    → (q : ℕ) → q < 4 → f (b + q) ≡ filled h (quadrant h q s)
node_bit {side} {a} {f} {h} {s} {b} e n q l =
    ap (λ (g : ℕ → ℕ). g (b + q)) e ∙ bit_of side a (subst (λ (g : ℕ → ℕ). Node side a g (suc h) s b) e n) q l
