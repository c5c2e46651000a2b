-- Laws of transposition: the pairs of one row after another put into the second relation exchanged, and the second taken over.
--   merged_part          a row merged in the part of the work that begins with the second relation
--   only_gap, only_more  a row's pairs below a column: over columns in which it has nothing, and one column more
--   TurnedTo n w x ws ms y ws' ms'
--                        the pairs of row x in the columns below y, and n, are put in exchanged
--   turned_none, turned_gap, turned_more, turned_all
--                        so for none; over columns that the row lacks; one column more; all below n
--   rows_below x a        the pairs of the rows of a below x
--   Turning n w x ws ms ws' ms'
--                        the first relation is as it was, and the second has its rows below x, exchanged
--   turning_none, turning_more, turning_all
--                        so with no row, one row more, all of them: the second is the first, transposed
--   first-same           the first relation depends on its own masks
--   taken_row, taken_more
--                        the second taken over, row by row
--   second_zero          a mask more of the second relation is empty
-- Assumes nothing.
use mathlib.Core.Path.{◌≡◌, refl, sym, ap, ap₂, subst, ◌∙◌, fun_ext}
use mathlib.Core.List.{List}
use Prim.Native.Nat.{ℕ, ◌+◌, ◌*◌, ◌/◌, ◌%◌, ◌^◌, ◌≤◌, ◌<◌, min, max}
use native.Mathlib.Decide.{dec_lt, ℕ_discrete}
use native.Mathlib.Omega.{arith}
use lib.Dec.{ltb}
use lib.ListN.{length, get_or, set, drop}
use lib.Seq.{get_or-drop, get_or-set_same, get_or-set_other}
use borrow.Author.Tests.{eq-eqb, ne_eqb, lt-ltb, le-ltb}
use Rattle.book.specs.Basics.{pick}
use Rattle.k2.specs.Bits.{digit}
use Rattle.k2.specs.DigitLaws.{digit_none}
use Rattle.k2.specs.PairSets.{Cells, union, transpose}
use Rattle.rows.specs.RowSets.{no_pairs}
use Rattle.rows.specs.RowLaws.{union_none}
use Rattle.bits.specs.BitSets.{Gap}
use Rattle.grid.specs.Grid.{row_of, first_rows, second_rows, within, first, second}
use Rattle.grid.specs.GridLaws.{within_in, within_row, within_column, within_same, second_part}
use Rattle.grid.specs.Steps.{cut_row, word_at, one_pair, only_row, held, Merged, Replaced, Turned}
use Rattle.grid.proofs.RowLaws.{row_same, row_empty}
use Rattle.grid.proofs.ColumnLaws.{uncut_one, uncut_gap}
use Rattle.grid.proofs.RelationLaws.{rows_apart, second_at, Through, through_more, second_row, within_union}
use Rattle.grid.proofs.PairLaws.{pair_put, one_at, one_off, none_left, union-empty, put_more}

zero_left : (v : ℕ) → max 0 v ≡ v
zero_left v = omega arith

zero_right : (v : ℕ) → max v 0 ≡ v
zero_right v = omega arith

-- ---- the part of the work that begins with the second relation
module _ (n w t b : ℕ) (src : ℕ → ℕ) (ws ms ws' ms' : List ℕ) (M : Merged w (n + t) (n * w + b) src ws ms ws' ms') where
  part_row : (vs : List ℕ) (m y : ℕ) → row_of (drop (n * w) vs) b m y ≡ row_of vs (n * w + b) m y
  unfolding row_of
  part_row vs m y =
      let e : n * w + (b + y / 64) ≡ n * w + b + y / 64 = omega arith in
      ap (λ (v : ℕ). min (digit m (y / 64)) (digit v (y % 64))) (get_or-drop (n * w) vs (b + y / 64) 0 ∙ ap (λ (k : ℕ). get_or vs k 0) e)

  part_at : (vs ks : List ℕ) (y : ℕ) → row_of (drop (n * w) vs) b (get_or (drop n ks) t 0) y ≡ row_of vs (n * w + b) (get_or ks (n + t) 0) y
  part_at vs ks y = part_row vs (get_or (drop n ks) t 0) y ∙ ap (λ (m : ℕ). row_of vs (n * w + b) m y) (get_or-drop n ks t 0)

  part_held : (vs : List ℕ) (y : ℕ) → held (drop (n * w) vs) b y ≡ held vs (n * w + b) y
  unfolding held
  part_held vs y =
      let e : n * w + (b + y / 64) ≡ n * w + b + y / 64 = omega arith in
      ap (λ (v : ℕ). digit v (y % 64)) (get_or-drop (n * w) vs (b + y / 64) 0 ∙ ap (λ (k : ℕ). get_or vs k 0) e)

  pub merged_part : Merged w t b src (drop (n * w) ws) (drop n ms) (drop (n * w) ws') (drop n ms')
  merged_part = record {
    row = λ y h. part_at ws' ms' y ∙ M.row y h ∙ ap (λ (v : ℕ). max v (src y)) (sym (part_at ws ms y));
    below = λ k h. get_or-drop (n * w) ws' k 0 ∙ M.below (n * w + k) (omega arith) ∙ sym (get_or-drop (n * w) ws k 0);
    above = λ k h. get_or-drop (n * w) ws' k 0 ∙ M.above (n * w + k) (omega arith) ∙ sym (get_or-drop (n * w) ws k 0);
    masks = λ k h. get_or-drop n ms' k 0 ∙ M.masks (n + k) (λ e. h (omega arith)) ∙ sym (get_or-drop n ms k 0);
    clean = λ y h k. part_held ws' y ∙ M.clean y h (sym (part_held ws y) ∙ k ∙ part_at ws ms y) ∙ sym (part_at ws' ms' y);
  }

-- ---- a row's pairs
only_in : (x y : ℕ) (a : Cells) (v : ℕ) → v < y → only_row x y a x v ≡ a x v
unfolding only_row
only_in x y a v l = rw (eq-eqb x x refl, lt-ltb v y l)

only_past : (x y : ℕ) (a : Cells) (u v : ℕ) → y ≤ v → only_row x y a u v ≡ 0
only_past x y a u v l = go (ℕ_discrete u x)
  where
    go : Dec (u ≡ x) → only_row x y a u v ≡ 0
    go (yes e) = unfold only_row in (rw (eq-eqb u x e, le-ltb v y l))
    go (no e) = unfold only_row in (rw (ne_eqb u x e))

only_off : (x y : ℕ) (a : Cells) (u v : ℕ) → (u ≡ x → ⊥) → only_row x y a u v ≡ 0
unfolding only_row
only_off x y a u v n = rw (ne_eqb u x n)

-- columns in which the row has nothing
pub only_gap : (x p q : ℕ) (a : Cells) → p ≤ q → Gap (a x) p q → only_row x p a ≡ only_row x q a
only_gap x p q a l g = fun_ext (λ u. fun_ext (λ v. go u v (ℕ_discrete u x) (dec_lt v p) (dec_lt v q)))
  where
    go : (u v : ℕ) → Dec (u ≡ x) → Dec (v < p) → Dec (v < q) → only_row x p a u v ≡ only_row x q a u v
    go u v (no e) h k = only_off x p a u v e ∙ sym (only_off x q a u v e)
    go u v (yes e) (yes h) k = rw e (only_in x p a v h ∙ sym (only_in x q a v (omega arith)))
    go u v (yes e) (no h) (yes k) = rw e (only_past x p a x v (omega arith) ∙ sym (only_in x q a v k ∙ g v (omega arith) k))
    go u v (yes e) (no h) (no k) = only_past x p a u v (omega arith) ∙ sym (only_past x q a u v (omega arith))

-- the next column
pub only_more : (x y : ℕ) (a : Cells) → a x y ≡ 1 → union (transpose (only_row x y a)) (one_pair y x) ≡ transpose (only_row x (y + 1) a)
unfolding union transpose
only_more x y a e = fun_ext (λ v. fun_ext (λ u. go u v (ℕ_discrete u x) (ℕ_discrete v y) (dec_lt v y)))
  where
    go : (u v : ℕ) → Dec (u ≡ x) → Dec (v ≡ y) → Dec (v < y) → max (only_row x y a u v) (one_pair y x v u) ≡ only_row x (y + 1) a u v
    go u v (no d) h k = ap₂ max (only_off x y a u v d) (one_off y x v u (λ p q. d q)) ∙ sym (only_off x (y + 1) a u v d)
    go u v (yes d) (yes h) k =
        rw (d, h) (ap₂ max (only_past x y a x y (omega arith)) (one_at y x) ∙ sym (only_in x (y + 1) a y (omega arith) ∙ e))
    go u v (yes d) (no h) (yes k) =
        rw d (ap₂ max (only_in x y a v k) (one_off y x v x (λ p q. h p)) ∙ zero_right (a x v) ∙ sym (only_in x (y + 1) a v (omega arith)))
    go u v (yes d) (no h) (no k) =
        ap₂ max (only_past x y a u v (omega arith)) (one_off y x v u (λ p q. h p)) ∙ sym (only_past x (y + 1) a u v (omega (arith, h, k)))

-- ---- turning a row
module _ (n w x : ℕ) (ws ms : List ℕ) where
  abbrev F : Cells
  F = first_rows w ws ms

  abbrev pub TurnedTo : ℕ → List ℕ → List ℕ → Type 0
  TurnedTo y ws' ms' = Turned n w (only_row x (min y n) (first_rows w ws ms)) ws ms ws' ms'

  pub turned_none : TurnedTo 0 ws ms
  turned_none = record {
    words = λ k h. refl;
    masks = λ k h. refl;
    second = union-empty n (second n w ws ms) (transpose (only_row x (min 0 n) F)) (λ u v. unfold transpose in (only_past x (min 0 n) F v u (omega arith)));
  }

  module _ (y : ℕ) (ws' ms' : List ℕ) (T : TurnedTo y ws' ms') where
    -- columns that the row lacks
    pub turned_gap : (r : ℕ) → y ≤ r → Gap (cut_row n (first_rows w ws ms x)) y r → TurnedTo r ws' ms'
    turned_gap r l g = subst (λ (a : Cells). Turned n w a ws ms ws' ms') (only_gap x (min y n) (min r n) F (omega arith) (uncut_gap n (F x) y r g)) T

    -- column y, which it has
    pub turned_more : (ws'' ms'' : List ℕ) → n ≤ w * 64 → x < n → cut_row n (first_rows w ws ms x) y ≡ 1
        → Merged w (n + y) (n * w + y * w) (word_at (x / 64) (2 ^ (x % 64))) ws' ms' ws'' ms'' → TurnedTo (y + 1) ws'' ms''
    turned_more ws'' ms'' nl xl e M = record {
      words = λ k h. M.below k (omega arith) ∙ T.words k h;
      masks = λ k h. M.masks k (λ e. absurd (omega arith)) ∙ T.masks k h;
      second =
          sym (second_part n w ws'' ms'')
          ∙ pair_put n w y x (drop (n * w) ws') (drop n ms') (drop (n * w) ws'') (drop n ms'') nl u.0 xl (merged_part n w y (y * w) _ ws' ms' ws'' ms'' M)
          ∙ ap (λ (a : Cells). union a (within n (one_pair y x))) (second_part n w ws' ms' ∙ T.second)
          ∙ put_more n (second n w ws ms) (transpose (only_row x (min y n) F)) (one_pair y x)
          ∙ ap (λ (a : Cells). union (second n w ws ms) (within n a)) more;
    }
      where
        u : (y < n) × (first_rows w ws ms x y ≡ 1)
        u = uncut_one n (first_rows w ws ms x) y e

        more : union (transpose (only_row x (min y n) F)) (one_pair y x) ≡ transpose (only_row x (min (y + 1) n) F)
        more =
            let s : min y n ≡ y = omega (arith, u.0) in
            let t : min (y + 1) n ≡ y + 1 = omega (arith, u.0) in
            rw (s, t) (only_more x y F u.1)

  -- all columns below n
  pub turned_all : (y : ℕ) (ws' ms' : List ℕ) → n ≤ y → TurnedTo y ws' ms' → Turned n w (only_row x n (first_rows w ws ms)) ws ms ws' ms'
  turned_all y ws' ms' l T = let s : min y n ≡ n = omega arith in rw s at T

-- ---- row after row
unfoldable pub rows_below : ℕ → Cells → Cells
rows_below x a u v = pick (ltb u x) (a u v) 0

rows_in : (x : ℕ) (a : Cells) (u v : ℕ) → u < x → rows_below x a u v ≡ a u v
unfolding rows_below
rows_in x a u v l = rw (lt-ltb u x l)

rows_out : (x : ℕ) (a : Cells) (u v : ℕ) → x ≤ u → rows_below x a u v ≡ 0
unfolding rows_below
rows_out x a u v l = rw (le-ltb u x l)

pub record Turning (n w x : ℕ) (ws ms ws' ms' : List ℕ) : Type 0 where
  pub words : (k : ℕ) → k < n * w → get_or ws' k 0 ≡ get_or ws k 0
  pub masks : (k : ℕ) → k < n → get_or ms' k 0 ≡ get_or ms k 0
  pub second : second n w ws' ms' ≡ within n (transpose (rows_below x (first_rows w ws ms)))

module _ (n w : ℕ) (ws ms : List ℕ) where
  pub turning_none : (ms' : List ℕ) → ((k : ℕ) → k < n → get_or ms' k 0 ≡ get_or ms k 0) → ((k : ℕ) → k < n → get_or ms' (n + k) 0 ≡ 0)
      → Turning n w 0 ws ms ws ms'
  turning_none ms' e z = record {
    words = λ k h. refl;
    masks = e;
    second = sym (second_part n w ws ms') ∙ none_left n w (drop (n * w) ws) (drop n ms') (λ k h. get_or-drop n ms' k 0 ∙ z k h) ∙ sym nothing;
  }
    where
      nothing : within n (transpose (rows_below 0 (first_rows w ws ms))) ≡ no_pairs
      nothing =
          sym (union_none (within n (transpose (rows_below 0 (first_rows w ws ms)))))
          ∙ sym (union-empty n no_pairs (transpose (rows_below 0 (first_rows w ws ms))) (λ u v. unfold transpose in
          (rows_out 0 (first_rows w ws ms) v u (omega arith))))

  module _ (x : ℕ) (ws' ms' ws'' ms'' : List ℕ) (nl : n ≤ w * 64) (xl : x < n) (S : Turning n w x ws ms ws' ms') where
    here : (v : ℕ) → v < n → first_rows w ws' ms' x v ≡ first_rows w ws ms x v
    unfolding first_rows
    here v h = row_same ws' ws (x * w) (get_or ms' x 0) (get_or ms x 0) v (S.masks x xl) (S.words (x * w + v / 64) (omega (arith, rows_apart x n w xl)))

    pub turning_more : Turned n w (only_row x n (first_rows w ws' ms')) ws' ms' ws'' ms'' → Turning n w (x + 1) ws ms ws'' ms''
    turning_more T = record {
      words = λ k h. T.words k h ∙ S.words k h;
      masks = λ k h. T.masks k h ∙ S.masks k h;
      second =
          T.second ∙ ap (λ (a : Cells). union a (within n (transpose (only_row x n (first_rows w ws' ms'))))) S.second
          ∙ sym (within_union n (transpose (rows_below x (first_rows w ws ms))) (transpose (only_row x n (first_rows w ws' ms'))))
          ∙ within_same n _ (transpose (rows_below (x + 1) (first_rows w ws ms))) (λ v u a b. unfold union transpose in
          (go u v a b (ℕ_discrete u x) (dec_lt u x)));
    }
      where
        go : (u v : ℕ) → v < n → u < n → Dec (u ≡ x) → Dec (u < x)
            → max (rows_below x (first_rows w ws ms) u v) (only_row x n (first_rows w ws' ms') u v) ≡ rows_below (x + 1) (first_rows w ws ms) u v
        go u v b a (yes e) d =
            rw e (ap₂ max (rows_out x (first_rows w ws ms) x v (omega arith)) (only_in x n (first_rows w ws' ms') v b ∙ here v b)
            ∙ zero_left (first_rows w ws ms x v) ∙ sym (rows_in (x + 1) (first_rows w ws ms) x v (omega arith)))
        go u v b a (no e) (yes d) =
            ap₂ max (rows_in x (first_rows w ws ms) u v d) (only_off x n (first_rows w ws' ms') u v e)
            ∙ zero_right (first_rows w ws ms u v) ∙ sym (rows_in (x + 1) (first_rows w ws ms) u v (omega arith))
        go u v b a (no e) (no d) =
            ap₂ max (rows_out x (first_rows w ws ms) u v (omega arith)) (only_off x n (first_rows w ws' ms') u v e)
            ∙ sym (rows_out (x + 1) (first_rows w ws ms) u v (omega (arith, e, d)))

  pub turning_all : (ws' ms' : List ℕ) → Turning n w n ws ms ws' ms' → second n w ws' ms' ≡ transpose (first n w ws ms)
  turning_all ws' ms' S = S.second ∙ fun_ext (λ v. fun_ext (λ u. unfold transpose in (go u v (dec_lt u n) (dec_lt v n))))
    where
      R : Cells
      R = transpose (rows_below n (first_rows w ws ms))

      go : (u v : ℕ) → Dec (u < n) → Dec (v < n)
          → within n (λ i j. rows_below n (first_rows w ws ms) j i) v u ≡ within n (first_rows w ws ms) u v
      go u v (yes a) (yes b) =
          within_in n (λ i j. rows_below n (first_rows w ws ms) j i) v u b a ∙ rows_in n (first_rows w ws ms) u v a ∙
          sym (within_in n (first_rows w ws ms) u v a b)
      go u v (no a) b =
          within_column n (λ i j. rows_below n (first_rows w ws ms) j i) v u (omega arith) ∙ sym (within_row n (first_rows w ws ms) u v (omega arith))
      go u v (yes a) (no b) =
          within_row n (λ i j. rows_below n (first_rows w ws ms) j i) v u (omega arith) ∙ sym (within_column n (first_rows w ws ms) u v (omega arith))

-- the first relation depends on its own masks
pub first-same : (n w : ℕ) (ws ms ms' : List ℕ) → ((k : ℕ) → k < n → get_or ms' k 0 ≡ get_or ms k 0) → first n w ws ms' ≡ first n w ws ms
first-same n w ws ms ms' e =
    within_same n (first_rows w ws ms') (first_rows w ws ms) (λ x y a b. unfold first_rows in (ap (λ (m : ℕ). row_of ws (x * w) m y) (e x a)))

-- ---- the second taken over
pub taken_row : (n w x : ℕ) (ws ms ws' ms' : List ℕ) → x < n → x < length ms
    → Merged w x (x * w) (first_rows w ws (set ms x 0) (n + x)) ws (set ms x 0) ws' ms' → Replaced n w x (x * w) (second_rows n w ws ms x) ws ms ws' ms'
taken_row n w x ws ms ws' ms' xl tl M = record {
  row = λ y l. M.row y l ∙ ap₂ max (old y) (new y) ∙ omega arith;
  below = M.below;
  above = λ k h l. M.above k h;
  masks = λ k h l. M.masks k h ∙ get_or-set_other ms x k 0 0 h;
}
  where
    old : (y : ℕ) → row_of ws (x * w) (get_or (set ms x 0) x 0) y ≡ 0
    old y = row_empty ws (x * w) _ y (ap (λ (v : ℕ). digit v (y / 64)) (get_or-set_same ms x 0 0 tl) ∙ digit_none (y / 64))

    new : (y : ℕ) → first_rows w ws (set ms x 0) (n + x) y ≡ second_rows n w ws ms x y
    new y =
        second_at n w ws (set ms x 0) x y
        ∙ unfold second_rows in (ap (λ (m : ℕ). row_of ws (n * w + x * w) m y) (get_or-set_other ms x (n + x) 0 0 (λ e. absurd (omega arith))))

pub taken_more : (n w i : ℕ) (ws ms ws' ms' ws'' ms'' : List ℕ) → i < n → Through n w i (second_rows n w ws ms) ws ms ws' ms'
    → Replaced n w i (i * w) (second_rows n w ws' ms' i) ws' ms' ws'' ms'' → Through n w (i + 1) (second_rows n w ws ms) ws ms ws'' ms''
taken_more n w i ws ms ws' ms' ws'' ms'' il T R =
    through_more n w i (second_rows n w ws ms) ws ms ws' ms' il T ws'' ms'' (second_rows n w ws' ms' i) R
    (λ y l. second_row n w i (second_rows n w ws ms) ws ms ws' ms' il T i il y l)

-- a mask more of the second relation is empty
pub second_zero : (ms : List ℕ) (n x : ℕ) → n + x < length ms
    → ((k : ℕ) → k < x → get_or ms (n + k) 0 ≡ 0) → (k : ℕ) → k < x + 1 → get_or (set ms (n + x) 0) (n + k) 0 ≡ 0
second_zero ms n x l z k h = go (ℕ_discrete k x)
  where
    go : Dec (k ≡ x) → get_or (set ms (n + x) 0) (n + k) 0 ≡ 0
    go (yes e) = rw e (get_or-set_same ms (n + x) 0 0 l)
    go (no e) = get_or-set_other ms (n + x) (n + k) 0 0 (λ q. e (omega arith)) ∙ z k (omega (arith, e))
