-- Laws of `children`, `leaves` and `load`: a square's quarters, one after another.
--   inside_in, inside_by, inside_out
--                  a cell within a square of a set, and outside it
--   four_quarters, quarters_all, quarters_more, quarters_empty, quarters_none
--                  a square from its quarters: all four, one more, an empty one, none yet
--   turned_lt, reads_bit, reads_child, reads_empty, reads_cell
--                  a square read with a sense: the bit of a quarter, its own square, an empty quarter, a cell of a square of side 2
--   reads_tree, inside_all
--                  a whole tree is read, and its square is the set
--   four_cells     the four cells of a square of side 2, put into rows
--   four_plain, four_inverted
--                  `four`: four bits as a number, read with either sense
--   descend_child, descend_all, descend_gap
--                  one level down: a quarter that is not empty, all four, some that are empty
--   quarter_in, one-le, quarter_even, half_law
--                  a quarter fits where its square does, and begins at an even place
--   next_le, next_clear, next_set
--                  the next one of a number below 16 from place q on
-- Assumes nothing.
use mathlib.Core.Path.{◌≡◌, refl, sym, ap, ap₂, ◌∙◌, fun_ext}
use mathlib.Core.List.{List}
use Prim.Native.Nat.{ℕ, zero, suc, ◌+◌, ◌-◌, ◌*◌, ◌/◌, ◌%◌, ◌^◌, ◌≤◌, ◌<◌, max}
use native.Mathlib.Nat.{pow-suc, lt_of_le_of_lt, div-le_self}
use native.Mathlib.Numerals.{add-one}
use native.Mathlib.Decide.{dec_lt, ℕ_discrete}
use native.Mathlib.Omega.{arith}
use lib.Count.{count_trailing_zeros}
use borrow.Author.Tests.{le-leb, lt-leb, lt-ltb, le-ltb}
use Rattle.k2.specs.Bits.{digit, bit_at, bits_of}
use Rattle.k2.specs.BitLaws.{Bits}
use Rattle.k2.specs.PairSets.{Cells, IsSet, union, transpose}
use Rattle.k2.specs.Trees.{quadrant, filled, tree_bits, tree_words, height, child_place}
use Rattle.k2.specs.Nodes.{root, child, exchanged}
use Rattle.k2.specs.NodeLaws.{empty_cell, node_bit}
use Rattle.k2.specs.TreeLaws.{tree_words_bits, quadrant_transpose, filled_transpose}
use Rattle.k2.specs.DigitLaws.{shifted, digit_add, digit_big}
use Rattle.k2.specs.WordLaws.{digit_mod, shifted_in, shifted_out, trailing_set, trailing_clear}
use Rattle.bits.specs.BitSets.{either, four_at}
use Rattle.rows.specs.Rows.{flat}
use Rattle.rows.specs.RowSets.{no_pairs}
use Rattle.packing.specs.declared.loading.Sense.{Sense}
use Rattle.packing.specs.declared.loading.Sense.TheVariants.{Plain, Inverted}
use Rattle.packing.specs.Senses.{sensed}
use Rattle.packing.specs.Reading.{turned, inside, quarters_to, Reads}

-- ---- squares of a set
module _ (h x y : ℕ) (a : Cells) (i j : ℕ) where
  pub inside_in : x ≤ i → i < x + 2 ^ h → y ≤ j → j < y + 2 ^ h → inside h x y a i j ≡ a i j
  unfolding inside
  inside_in p q r s = rw (le-leb x i p, lt-ltb i (x + 2 ^ h) q, le-leb y j r, lt-ltb j (y + 2 ^ h) s)

  -- in it or not
  pub inside_by : {B : Type 0} → (x ≤ i → i < x + 2 ^ h → y ≤ j → j < y + 2 ^ h → B)
      → (inside h x y a i j ≡ 0 → (x ≤ i → i < x + 2 ^ h → y ≤ j → j < y + 2 ^ h → ⊥) → B) → B
  unfolding inside
  inside_by {B} f n = go (dec_lt i x) (dec_lt i (x + 2 ^ h)) (dec_lt j y) (dec_lt j (y + 2 ^ h))
    where
      go : Dec (i < x) → Dec (i < x + 2 ^ h) → Dec (j < y) → Dec (j < y + 2 ^ h) → B
      go (yes p) q r s = n (rw (lt-leb x i p)) (λ a b c d. omega arith)
      go (no p) (no q) r s = n (rw (le-leb x i (omega arith), le-ltb i (x + 2 ^ h) (omega arith))) (λ a b c d. omega arith)
      go (no p) (yes q) (yes r) s = n (rw (le-leb x i (omega arith), lt-ltb i (x + 2 ^ h) q, lt-leb y j r)) (λ a b c d. omega arith)
      go (no p) (yes q) (no r) (no s) =
          n (rw (le-leb x i (omega arith), lt-ltb i (x + 2 ^ h) q, le-leb y j (omega arith), le-ltb j (y + 2 ^ h) (omega arith))) (λ a b c d. omega arith)
      go (no p) (yes q) (no r) (yes s) = f (omega arith) q (omega arith) s

  pub inside_out : (x ≤ i → i < x + 2 ^ h → y ≤ j → j < y + 2 ^ h → ⊥) → inside h x y a i j ≡ 0
  inside_out n = inside_by (λ p q r s. absurd (n p q r s)) (λ e m. e)

-- all four quarters
module _ (h x y : ℕ) (a : Cells) (i j : ℕ) where
  abbrev s : ℕ
  s = 2 ^ h

  two : 2 ^ suc h ≡ s + s
  two = rw (pow-suc 2 h) (omega arith)

  -- the quarter whose rows begin at x + u * s and whose columns at y + v * s
  abbrev quarter : ℕ → ℕ → ℕ
  quarter u v = inside h (x + u * s) (y + v * s) a i j

  pub four_quarters : max (max (max (max 0 (quarter 0 0)) (quarter 0 1)) (quarter 1 0)) (quarter 1 1) ≡ inside (suc h) x y a i j
  four_quarters =
      inside_by (suc h) x y a i j
      (λ p q r t. within p (omega (arith, two)) r (omega (arith, two)) (dec_lt i (x + s)) (dec_lt j (y + s)) ∙ sym (inside_in (suc h) x y a i j p q r t))
      (λ e n. rw e
      (omega (
        arith,
        out 0 0 (λ p q r t. n (omega arith) (omega (arith, two)) (omega arith) (omega (arith, two))),
        out 0 1 (λ p q r t. n (omega arith) (omega (arith, two)) (omega arith) (omega (arith, two))),
        out 1 0 (λ p q r t. n (omega arith) (omega (arith, two)) (omega arith) (omega (arith, two))),
        out 1 1 (λ p q r t. n (omega arith) (omega (arith, two)) (omega arith) (omega (arith, two))),
      )))
    where
      out : (u v : ℕ) → (x + u * s ≤ i → i < x + u * s + s → y + v * s ≤ j → j < y + v * s + s → ⊥) → quarter u v ≡ 0
      out u v n = inside_out h (x + u * s) (y + v * s) a i j n

      hit : (u v : ℕ) → x + u * s ≤ i → i < x + u * s + s → y + v * s ≤ j → j < y + v * s + s → quarter u v ≡ a i j
      hit u v p q r t = inside_in h (x + u * s) (y + v * s) a i j p q r t

      within : x ≤ i → i < x + (s + s) → y ≤ j → j < y + (s + s) → Dec (i < x + s) → Dec (j < y + s)
          → max (max (max (max 0 (quarter 0 0)) (quarter 0 1)) (quarter 1 0)) (quarter 1 1) ≡ a i j
      within p q r t (yes k) (yes l) =
          omega (
            arith,
            hit 0 0 (omega arith) (omega arith) (omega arith) (omega arith),
            out 0 1 (λ b c d e. omega arith),
            out 1 0 (λ b c d e. omega arith),
            out 1 1 (λ b c d e. omega arith),
          )
      within p q r t (yes k) (no l) =
          omega (
            arith,
            hit 0 1 (omega arith) (omega arith) (omega arith) (omega arith),
            out 0 0 (λ b c d e. omega arith),
            out 1 0 (λ b c d e. omega arith),
            out 1 1 (λ b c d e. omega arith),
          )
      within p q r t (no k) (yes l) =
          omega (
            arith,
            hit 1 0 (omega arith) (omega arith) (omega arith) (omega arith),
            out 0 0 (λ b c d e. omega arith),
            out 0 1 (λ b c d e. omega arith),
            out 1 1 (λ b c d e. omega arith),
          )
      within p q r t (no k) (no l) =
          omega (
            arith,
            hit 1 1 (omega arith) (omega arith) (omega arith) (omega arith),
            out 0 0 (λ b c d e. omega arith),
            out 0 1 (λ b c d e. omega arith),
            out 1 0 (λ b c d e. omega arith),
          )

pub quarters_all : (h x y : ℕ) (a : Cells) → quarters_to 4 h x y a ≡ inside (suc h) x y a
unfolding quarters_to union no_pairs
quarters_all h x y a = fun_ext (λ i. fun_ext (λ j. four_quarters h x y a i j))

-- one quarter more
pub quarters_more : (k h x y : ℕ) (a b : Cells)
    → union (union b (quarters_to k h x y a)) (inside h (x + k / 2 * 2 ^ h) (y + k % 2 * 2 ^ h) a) ≡ union b (quarters_to (k + 1) h x y a)
unfolding quarters_to union
quarters_more k h x y a b = rw add-one (fun_ext (λ i. fun_ext (λ j. omega arith)))

-- an empty one
pub quarters_empty : (k h x y : ℕ) (a b : Cells) → ((i j : ℕ) → i < 2 ^ h → j < 2 ^ h → a (x + k / 2 * 2 ^ h + i) (y + k % 2 * 2 ^ h + j) ≡ 0)
    → union b (quarters_to k h x y a) ≡ union b (quarters_to (k + 1) h x y a)
unfolding union
quarters_empty k h x y a b z = fun_ext (λ i. fun_ext (λ j. same i j)) ∙ quarters_more k h x y a b
  where
    X : ℕ
    X = x + k / 2 * 2 ^ h

    Y : ℕ
    Y = y + k % 2 * 2 ^ h

    none : (i j : ℕ) → inside h X Y a i j ≡ 0
    none i j =
        inside_by h X Y a i j
        (λ p q r t.
        let u : i ≡ X + (i - X) = omega arith in
        let v : j ≡ Y + (j - Y) = omega arith in
        inside_in h X Y a i j p q r t ∙ ap₂ a u v ∙ z (i - X) (j - Y) (omega arith) (omega arith))
        (λ e n. e)

    same : (i j : ℕ) → max (b i j) (quarters_to k h x y a i j) ≡ max (max (b i j) (quarters_to k h x y a i j)) (inside h X Y a i j)
    same i j = omega (arith, none i j)

pub quarters_none : (h x y : ℕ) (a b : Cells) → b ≡ union b (quarters_to 0 h x y a)
unfolding quarters_to union no_pairs
quarters_none h x y a b = fun_ext (λ i. fun_ext (λ j. omega arith))

-- ---- reading with a sense
sensed_quadrant : (s : Sense) (h q : ℕ) (a : Cells) → q < 4 → sensed s (quadrant h (turned s q) a) ≡ quadrant h q (sensed s a)
sensed_quadrant Plain h q a l = refl
sensed_quadrant Inverted h q a l =
    let e : exchanged (exchanged q) ≡ q = omega arith in
    sym (quadrant_transpose h (exchanged q) a (omega arith)) ∙ ap (λ (p : ℕ). quadrant h p (transpose a)) e

sensed_bit : (s : Sense) (a : Cells) → ((i j : ℕ) → a i j < 2) → (i j : ℕ) → sensed s a i j < 2
sensed_bit Plain a b i j = b i j
sensed_bit Inverted a b i j = unfold transpose in (b j i)

pub turned_lt : (s : Sense) (q : ℕ) → q < 4 → turned s q < 4
turned_lt Plain q l = l
turned_lt Inverted q l = omega arith

filled_sensed : (s : Sense) (h : ℕ) (a : Cells) → filled h (sensed s a) ≡ filled h a
filled_sensed Plain h a = refl
filled_sensed Inverted h a = filled_transpose h a

-- quarter q of a square that is read
module _ (s : Sense) (ws : List ℕ) (h b x y : ℕ) (a : Cells) (n : Reads s ws (suc h) b x y a) (q : ℕ) (ql : q < 4) where
  abbrev e : ℕ
  e = turned s q

  abbrev Q : Cells
  Q = quadrant h e n.square

  -- its cells are those of a
  quarter_cell : (i j : ℕ) → i < 2 ^ h → j < 2 ^ h → sensed s Q i j ≡ a (x + q / 2 * 2 ^ h + i) (y + q % 2 * 2 ^ h + j)
  quarter_cell i j hi hj =
      ap (λ (c : Cells). c i j) (sensed_quadrant s h q n.square ql)
      ∙ unfold quadrant in (n.cells (q / 2 * 2 ^ h + i) (q % 2 * 2 ^ h + j) (fits (q / 2) i hi (omega arith)) (fits (q % 2) j hj (omega arith))
      ∙ ap₂ a (omega arith) (omega arith))
    where
      fits : (u i : ℕ) → i < 2 ^ h → u < 2 → u * 2 ^ h + i < 2 ^ suc h
      fits zero i l g = omega (arith, pow-suc 2 h)
      fits (suc zero) i l g = omega (arith, pow-suc 2 h)
      fits (suc (suc u)) i l g = absurd (omega arith)

  -- its bit
  pub reads_bit : bit_at ws (b + e) ≡ filled h Q
  reads_bit = node_bit n.bits n.node e (turned_lt s q ql)

  pub reads_child : bit_at ws (b + e) ≡ 1 → Reads s ws h (child_place (bit_at ws) (b + e)) (x + q / 2 * 2 ^ h) (y + q % 2 * 2 ^ h) a
  reads_child o =
      record {
        side = n.side;
        whole = n.whole;
        square = Q;
        bits = n.bits;
        node = child e n.node (turned_lt s q ql) o;
        bit = λ i j. unfold quadrant in (n.bit (e / 2 * 2 ^ h + i) (e % 2 * 2 ^ h + j));
        cells = quarter_cell;
      }

  pub reads_empty : bit_at ws (b + e) ≡ 0 → (i j : ℕ) → i < 2 ^ h → j < 2 ^ h → a (x + q / 2 * 2 ^ h + i) (y + q % 2 * 2 ^ h + j) ≡ 0
  reads_empty o i j hi hj = sym (quarter_cell i j hi hj) ∙ empty_cell h (sensed s Q) i j hi hj (filled_sensed s h Q ∙ sym reads_bit ∙ o)

-- the cells of a square of side 2
pub reads_cell : (s : Sense) (ws : List ℕ) (b x y : ℕ) (a : Cells) → Reads s ws 1 b x y a → (q : ℕ) → q < 4
    → bit_at ws (b + turned s q) ≡ a (x + q / 2) (y + q % 2)
unfolding filled
reads_cell s ws b x y a n q l =
    let Q : Cells = quadrant 0 (turned s q) n.square in
    let c : sensed s Q 0 0 ≡ a (x + q / 2) (y + q % 2) =
    quarter_cell s ws 0 b x y a n q l 0 0 (omega arith) (omega arith) ∙ ap₂ a (omega arith) (omega arith) in
    let z : sensed s Q 0 0 < 2 = sensed_bit s Q (λ i j. unfold quadrant in (n.bit _ _)) 0 0 in
    reads_bit s ws 0 b x y a n q l ∙ sym (filled_sensed s 0 Q) ∙ omega arith

-- ---- a whole tree
pub reads_tree : (s : Sense) (n h : ℕ) (ws : List ℕ) (a : Cells) → h ≡ height n → IsSet n a → ws ≡ tree_words n a → Reads s ws h 0 0 0 (sensed s a)
reads_tree s n h ws a eh is e =
    record {
      side = h;
      whole = a;
      square = a;
      bits = ap bit_at e ∙ tree_words_bits n a ∙ ap (λ (k : ℕ). bits_of (tree_bits k a)) (sym eh);
      node = root;
      bit = is.bit;
      cells = λ i j hi hj. ap₂ (sensed s a) (omega arith) (omega arith);
    }

pub inside_all : (n h : ℕ) (a : Cells) → n ≤ 2 ^ h → IsSet n a → inside h 0 0 a ≡ a
inside_all n h a l is = fun_ext (λ i. fun_ext (λ j. inside_by h 0 0 a i j
    (λ p q r s. inside_in h 0 0 a i j p q r s)
    (λ e m. e ∙ sym (off i j m (dec_lt i n) (dec_lt j n)))))
  where
    off : (i j : ℕ) → (0 ≤ i → i < 0 + 2 ^ h → 0 ≤ j → j < 0 + 2 ^ h → ⊥) → Dec (i < n) → Dec (j < n) → a i j ≡ 0
    off i j m (no p) q = is.row i j (omega arith)
    off i j m (yes p) (no q) = is.column i j (omega arith)
    off i j m (yes p) (yes q) = absurd (m (omega arith) (omega arith) (omega arith) (omega arith))

-- ---- the four cells of a square of side 2, put into rows
-- two digits from place b on
two_off : (b u p : ℕ) → u < 2 ^ 2 → (b ≤ p → p < b + 2 → ⊥) → shifted b u p ≡ 0
two_off b u p l n = go (dec_lt p b) (dec_lt p (b + 2))
  where
    go : Dec (p < b) → Dec (p < b + 2) → shifted b u p ≡ 0
    go (yes k) d = shifted_out b u p k
    go (no k) (yes d) = absurd (n (omega arith) d)
    go (no k) (no d) = shifted_in b u p (omega arith) ∙ digit_big 2 (p - b) u l (omega arith)

module _ (x : Cells) (r c v : ℕ) (t : Cells) (cl : c + 2 ≤ 1024) (vl : v < 16) (digits : (q : ℕ) → q < 4 → digit v q ≡ t (r + q / 2) (c + q % 2)) where
  abbrev upper : ℕ → ℕ
  upper = shifted (r * 1024 + c) (v % 4)

  abbrev lower : ℕ → ℕ
  lower = shifted ((r + 1) * 1024 + c) (v / 4)

  upper_in : (p : ℕ) → p / 1024 ≡ r → c ≤ p % 1024 → p % 1024 < c + 2 → upper p ≡ t (p / 1024) (p % 1024)
  upper_in p e l h =
      let k : p - (r * 1024 + c) ≡ p % 1024 - c = omega arith in
      shifted_in (r * 1024 + c) (v % 4) p (omega arith) ∙ ap (digit (v % 4)) k
      ∙ digit_mod 2 v (p % 1024 - c) (omega arith) ∙ digits (p % 1024 - c) (omega arith)
      ∙ ap₂ t (omega arith) (omega arith)

  lower_in : (p : ℕ) → p / 1024 ≡ r + 1 → c ≤ p % 1024 → p % 1024 < c + 2 → lower p ≡ t (p / 1024) (p % 1024)
  lower_in p e l h =
      let k : p - ((r + 1) * 1024 + c) ≡ p % 1024 - c = omega arith in
      shifted_in ((r + 1) * 1024 + c) (v / 4) p (omega arith) ∙ ap (digit (v / 4)) k
      ∙ sym (digit_add v 2 (p % 1024 - c)) ∙ digits (2 + (p % 1024 - c)) (omega arith)
      ∙ ap₂ t (omega arith) (omega arith)

  upper_off : (p : ℕ) → (p / 1024 ≡ r → c ≤ p % 1024 → p % 1024 < c + 2 → ⊥) → upper p ≡ 0
  upper_off p n = two_off (r * 1024 + c) (v % 4) p (omega arith) (λ a b. n (omega arith) (omega arith) (omega arith))

  lower_off : (p : ℕ) → (p / 1024 ≡ r + 1 → c ≤ p % 1024 → p % 1024 < c + 2 → ⊥) → lower p ≡ 0
  lower_off p n = two_off ((r + 1) * 1024 + c) (v / 4) p (omega arith) (λ a b. n (omega arith) (omega arith) (omega arith))

  pub four_cells : either (either (flat x) upper) lower ≡ flat (union x (inside 1 r c t))
  unfolding either flat union
  four_cells = fun_ext (λ p. inside_by 1 r c t (p / 1024) (p % 1024)
      (λ a b d e. hit p a b d e (ℕ_discrete (p / 1024) r) ∙ ap (max (x (p / 1024) (p % 1024))) (sym (inside_in 1 r c t (p / 1024) (p % 1024) a b d e)))
      (λ z n. rw (z, upper_off p (λ a d e. n (omega arith) (omega arith) d e), lower_off p (λ a d e. n (omega arith) (omega arith) d e)) (omega arith)))
    where
      hit : (p : ℕ) → r ≤ p / 1024 → p / 1024 < r + 2 → c ≤ p % 1024 → p % 1024 < c + 2 → Dec (p / 1024 ≡ r)
          → max (max (x (p / 1024) (p % 1024)) (upper p)) (lower p) ≡ max (x (p / 1024) (p % 1024)) (t (p / 1024) (p % 1024))
      hit p a b d e (yes k) = rw (upper_in p k d e, lower_off p (λ f g h. omega arith)) (omega arith)
      hit p a b d e (no k) = rw (lower_in p (omega (arith, k)) d e, upper_off p (λ f g h. k f)) (omega arith)

-- ---- `four`
-- four bits as a number, the second and the third exchanged
four_parts : (a b c d : ℕ) → a < 2 → b < 2 → c < 2 → d < 2
    → (a + b * 4 + c * 2 + d * 8 < 16) × ((a + b * 4 + c * 2 + d * 8) % 2 ≡ a) × ((a + b * 4 + c * 2 + d * 8) / 2 % 2 ≡ c)
    × ((a + b * 4 + c * 2 + d * 8) / 4 % 2 ≡ b) × ((a + b * 4 + c * 2 + d * 8) / 8 ≡ d)
four_parts a b c d la lb lc ld = (omega arith, omega arith, omega arith, omega arith, omega arith)

module _ (f : ℕ → ℕ) (bits : Bits f) (b v : ℕ) (e : v ≡ four_at f b) where
  small : v < 16
  unfolding four_at
  small = omega (arith, bits b, bits (b + 1), bits (b + 2), bits (b + 3))

  digits_of : (v % 2 ≡ f (b + 0)) × (v / 2 % 2 ≡ f (b + 1)) × (v / 4 % 2 ≡ f (b + 2)) × (v / 8 ≡ f (b + 3))
  unfolding four_at
  digits_of =
      let z : b + 0 ≡ b = omega arith in
      rw z (
        omega (arith, bits b, bits (b + 1), bits (b + 2), bits (b + 3)),
        omega (arith, bits b, bits (b + 1), bits (b + 2), bits (b + 3)),
        omega (arith, bits b, bits (b + 1), bits (b + 2), bits (b + 3)),
        omega (arith, bits b, bits (b + 1), bits (b + 2), bits (b + 3)),
      )

  -- the digits of a number below 16
  digit_at : (w : ℕ) → w < 16 → (q : ℕ) → q < 4 → (w₀ w₁ w₂ w₃ : ℕ) → w % 2 ≡ w₀ → w / 2 % 2 ≡ w₁
      → w / 4 % 2 ≡ w₂ → w / 8 ≡ w₃ → (g : ℕ → ℕ) → w₀ ≡ g 0 → w₁ ≡ g 1 → w₂ ≡ g 2 → w₃ ≡ g 3 → digit w q ≡ g q
  unfolding digit
  digit_at w l zero h w₀ w₁ w₂ w₃ a₀ a₁ a₂ a₃ g b₀ b₁ b₂ b₃ = omega arith
  digit_at w l (suc zero) h w₀ w₁ w₂ w₃ a₀ a₁ a₂ a₃ g b₀ b₁ b₂ b₃ = omega arith
  digit_at w l (suc (suc zero)) h w₀ w₁ w₂ w₃ a₀ a₁ a₂ a₃ g b₀ b₁ b₂ b₃ = omega arith
  digit_at w l (suc (suc (suc zero))) h w₀ w₁ w₂ w₃ a₀ a₁ a₂ a₃ g b₀ b₁ b₂ b₃ = omega arith
  digit_at w l (suc (suc (suc (suc q)))) h w₀ w₁ w₂ w₃ a₀ a₁ a₂ a₃ g b₀ b₁ b₂ b₃ = absurd (omega arith)

  pub four_plain : (v < 16) × ((q : ℕ) → q < 4 → digit v q ≡ f (b + q))
  four_plain = (small, λ q l. digit_at v small q l _ _ _ _ refl refl refl refl (λ k. f (b + k)) digits_of.0 digits_of.1 digits_of.2 digits_of.3)

  abbrev swapped : ℕ
  swapped = v % 2 + v / 2 % 2 * 4 + v / 4 % 2 * 2 + v / 8 * 8

  pub four_inverted : (swapped < 16) × ((q : ℕ) → q < 4 → digit swapped q ≡ f (b + exchanged q))
  four_inverted =
      let p = four_parts (v % 2) (v / 2 % 2) (v / 4 % 2) (v / 8) (omega arith) (omega arith) (omega arith) (omega (arith, small)) in (
        p.0,
        λ q h. digit_at swapped p.0 q h (v % 2) (v / 4 % 2) (v / 2 % 2) (v / 8) p.1 p.2 p.3 p.4
            (λ k. f (b + exchanged k)) digits_of.0 digits_of.2 digits_of.1 digits_of.3,
      )

-- ---- a square of side 2 ^ h with h at least 1
pub descend_child : (s : Sense) (ws : List ℕ) (h b x y : ℕ) (t : Cells) → 1 ≤ h → Reads s ws h b x y t → (q : ℕ) → q < 4 → bit_at ws (b + turned s q) ≡ 1
    → Reads s ws (h - 1) (child_place (bit_at ws) (b + turned s q)) (x + q / 2 * 2 ^ (h - 1)) (y + q % 2 * 2 ^ (h - 1)) t
descend_child s ws zero b x y t l n q g o = absurd (omega arith)
descend_child s ws (suc h) b x y t l n q g o = let e : suc h - 1 ≡ h = omega arith in rw e (reads_child s ws h b x y t n q g o)

descend_empty : (s : Sense) (ws : List ℕ) (h b x y : ℕ) (t a : Cells) → 1 ≤ h → Reads s ws h b x y t → (q : ℕ) → q < 4 → bit_at ws (b + turned s q) ≡ 0
    → union a (quarters_to q (h - 1) x y t) ≡ union a (quarters_to (q + 1) (h - 1) x y t)
descend_empty s ws zero b x y t a l n q g o = absurd (omega arith)
descend_empty s ws (suc h) b x y t a l n q g o = let e : suc h - 1 ≡ h = omega arith in rw e (quarters_empty q h x y t a (reads_empty s ws h b x y t n q g o))

pub descend_all : (h x y : ℕ) (t : Cells) → 1 ≤ h → quarters_to 4 (h - 1) x y t ≡ inside h x y t
descend_all zero x y t l = absurd (omega arith)
descend_all (suc h) x y t l = let e : suc h - 1 ≡ h = omega arith in rw e (quarters_all h x y t)

-- quarters passed that are empty
pub descend_gap : (s : Sense) (ws : List ℕ) (h b x y : ℕ) (t a : Cells) → 1 ≤ h → Reads s ws h b x y t
    → (q r : ℕ) → q ≤ r → r ≤ 4 → ((j : ℕ) → q ≤ j → j < r → bit_at ws (b + turned s j) ≡ 0)
    → union a (quarters_to q (h - 1) x y t) ≡ union a (quarters_to r (h - 1) x y t)
descend_gap s ws h b x y t a l n q zero k g o = let e : q ≡ 0 = omega arith in rw e refl
descend_gap s ws h b x y t a l n q (suc r) k g o =
    go (ℕ_discrete q (suc r)) (λ p. descend_gap s ws h b x y t a l n q r p (omega arith) (λ j u v. o j u (omega arith)))
  where
    go : Dec (q ≡ suc r) → (q ≤ r → union a (quarters_to q (h - 1) x y t) ≡ union a (quarters_to r (h - 1) x y t))
        → union a (quarters_to q (h - 1) x y t) ≡ union a (quarters_to (suc r) (h - 1) x y t)
    go (yes e) more = rw e refl
    go (no e) more =
        let i : r + 1 ≡ suc r = omega arith in
        more (omega (arith, e)) ∙ descend_empty s ws h b x y t a l n r (omega arith) (o r (omega (arith, e)) (omega arith))
        ∙ ap (λ (i : ℕ). union a (quarters_to i (h - 1) x y t)) i

-- a quarter fits where its square does
quarter_fits : (u s w x : ℕ) → u < 2 → s + s ≡ w → x + w ≤ 1024 → x + u * s + s ≤ 1024
quarter_fits zero s w x l e f = omega arith
quarter_fits (suc zero) s w x l e f = omega arith
quarter_fits (suc (suc u)) s w x l e f = absurd (omega arith)

pub quarter_in : (q s w x y : ℕ) → q < 4 → s + s ≡ w → x + w ≤ 1024 → y + w ≤ 1024 → (x + q / 2 * s + s ≤ 1024) × (y + q % 2 * s + s ≤ 1024)
quarter_in q s w x y l e f g = (quarter_fits (q / 2) s w x (omega arith) e f, quarter_fits (q % 2) s w y (omega arith) e g)

pub one-le : {h : ℕ} → 2 ≤ h → 1 ≤ h
one-le l = omega arith

pub quarter_even : (u s y : ℕ) → u < 2 → s % 2 ≡ 0 → y % 2 ≡ 0 → (y + u * s) % 2 ≡ 0
quarter_even zero s y l e f = omega arith
quarter_even (suc zero) s y l e f = omega arith
quarter_even (suc (suc u)) s y l e f = absurd (omega arith)

pub half_law : (h : ℕ) → 2 ≤ h → (2 ^ (h - 1) + 2 ^ (h - 1) ≡ 2 ^ h) × (2 ^ (h - 1) % 2 ≡ 0)
half_law zero l = absurd (omega arith)
half_law (suc zero) l = absurd (omega arith)
half_law (suc (suc h)) l =
    let e : suc (suc h) - 1 ≡ suc h = omega arith in
    rw e (omega (arith, pow-suc 2 (suc h)), omega (arith, pow-suc 2 h))

-- ---- the ones of a number below 16, from place q on
module _ (v q : ℕ) (vl : v < 16) (ql : q ≤ 4) where
  abbrev w : ℕ
  w = (v + 16) / 2 ^ q

  abbrev k : ℕ
  k = count_trailing_zeros 64 w

  -- a one put behind the four digits
  low : (j : ℕ) → j < 4 → digit (v + 16) j ≡ digit v j
  unfolding digit
  low zero l = omega arith
  low (suc zero) l = omega arith
  low (suc (suc zero)) l = omega arith
  low (suc (suc (suc zero))) l = omega arith
  low (suc (suc (suc (suc j)))) l = absurd (omega arith)

  last : digit (v + 16) 4 ≡ 1
  unfolding digit
  last = omega arith

  some : (q : ℕ) → q ≤ 4 → 0 < (v + 16) / 2 ^ q
  some zero l = omega arith
  some (suc zero) l = omega arith
  some (suc (suc zero)) l = omega arith
  some (suc (suc (suc zero))) l = omega arith
  some (suc (suc (suc (suc zero)))) l = omega arith
  some (suc (suc (suc (suc (suc q))))) l = absurd (omega arith)

  small_w : w < 2 ^ 64
  small_w = lt_of_le_of_lt (div-le_self (v + 16) (2 ^ q)) (omega arith)

  clear : (j : ℕ) → q ≤ j → j < q + k → digit (v + 16) j ≡ 0
  clear j h l =
      let e : q + (j - q) ≡ j = omega arith in
      ap (digit (v + 16)) (sym e) ∙ digit_add (v + 16) q (j - q) ∙ trailing_clear 64 w (j - q) (omega arith)

  pub next_le : q + k ≤ 4
  next_le = go (dec_lt 4 (q + k))
    where
      go : Dec (4 < q + k) → q + k ≤ 4
      go (yes l) = absurd (omega (arith, clear 4 ql l, last))
      go (no l) = omega arith

  pub next_clear : (j : ℕ) → q ≤ j → j < q + k → digit v j ≡ 0
  next_clear j h l = sym (low j (omega (arith, next_le))) ∙ clear j h l

  pub next_set : q + k < 4 → digit v (q + k) ≡ 1
  next_set l = sym (low (q + k) l) ∙ digit_add (v + 16) q k ∙ trailing_set 64 w (some q ql) small_w
