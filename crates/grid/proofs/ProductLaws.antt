-- Laws of the product by rows: the middle records gathered in turn, and a row replaced.
--   second_bit          a cell of the second relation is 0 or 1
--   Gathered n w x ws ms z ws' ms'
--                       the rows of the middle records of x below z are merged into the spare row
--   gathered_none, gathered_gap, gathered_more, gathered_all
--                       none yet; records that are no middle records; the row of one merged in; all
--   row_replaced        the spare row stored in place of row x
--   composed n w ws ms  the cells of the product, row by row
--   compose_more, compose_skip
--                       a row more, and one that is empty
--   within_product      cut to n they are the product of the two relations
-- Assumes nothing.
use mathlib.Core.Path.{◌≡◌, refl, sym, ap, ap₂, ◌∙◌, fun_ext}
use mathlib.Core.List.{List}
use Prim.Native.Nat.{ℕ, zero, suc, ◌+◌, ◌-◌, ◌*◌, ◌/◌, ◌≤◌, ◌<◌, min, max}
use native.Mathlib.Nat.{add-zero, add-suc}
use native.Mathlib.Decide.{dec_lt}
use native.Mathlib.Omega.{arith}
use lib.ListN.{length, get_or, set}
use lib.Seq.{get_or-set_same, get_or-set_other}
use Rattle.k2.specs.Bits.{digit}
use Rattle.k2.specs.DigitLaws.{digit_none}
use Rattle.k2.specs.PairSets.{Cells, most, serves, product}
use Rattle.k2.specs.PairSetLaws.{most_same, most_none}
use Rattle.bits.specs.BitSets.{Gap}
use Rattle.grid.specs.Grid.{row_of, first_rows, second_rows, within}
use Rattle.grid.specs.Steps.{cut_row, linked, Merged, Replaced}
use Rattle.grid.proofs.RowLaws.{row_same, row_empty, merged_none, merged_same, merged_more}
use Rattle.grid.proofs.ColumnLaws.{uncut_one, uncut_gap}
use Rattle.grid.specs.GridLaws.{row_bit}
use Rattle.grid.specs.GridLaws.{within_in, within_row, within_column}
use Rattle.grid.proofs.RelationLaws.{rows_apart, second_at, Through, through_row, second_row, through_more, through_keep}
use Rattle.grid.proofs.SearchLaws.{empty_row}

-- ---- the largest of numbers
most_far : (f : ℕ → ℕ) (p d : ℕ) → Gap f p (p + d) → most (p + d) f ≡ most p f
unfolding most
most_far f p zero g = ap (λ (k : ℕ). most k f) (add-zero p)
most_far f p (suc d) g =
    ap (λ (k : ℕ). most k f) (add-suc p d) ∙ ap (max (most (p + d) f)) (g (p + d) (omega arith) (omega arith))
    ∙ omega (arith, most_far f p d (λ k a b. g k a (omega arith)))

most_gap : (f : ℕ → ℕ) (p q : ℕ) → p ≤ q → Gap f p q → most q f ≡ most p f
most_gap f p q l g = let e : q ≡ p + (q - p) = omega arith in ap (λ (k : ℕ). most k f) e ∙ most_far f p (q - p) (λ k a b. g k a (omega arith))

pub second_bit : (n w : ℕ) (ws ms : List ℕ) (x y : ℕ) → second_rows n w ws ms x y < 2
unfolding second_rows
second_bit n w ws ms x y = row_bit ws (n * w + x * w) (get_or ms (n + x) 0) y

-- ---- one row: the middle records below z gathered
abbrev pub Gathered : (n w x : ℕ) → List ℕ → List ℕ → ℕ → List ℕ → List ℕ → Type 0
Gathered n w x ws ms z ws' ms' = Merged w (n + n) (n * w + n * w) (λ y. most (min z n) (linked n w ws ms x y)) ws ms ws' ms'

module _ (n w x : ℕ) (ws ms : List ℕ) (nl : n ≤ w * 64) (xl : x < n) where
  -- no column is passed
  gap_linked : (lo r y : ℕ) → Gap (first_rows w ws ms x) lo r → Gap (linked n w ws ms x y) lo r
  gap_linked lo r y g k a b = ap (λ (v : ℕ). min v (second_rows n w ws ms k y)) (g k a b) ∙ omega arith

  pub gathered_none : Gathered n w x ws ms 0 ws ms
  gathered_none =
      let z : min 0 n ≡ 0 = omega arith in
      merged_none w (n + n) (n * w + n * w) _ ws ms (λ y. rw z (unfold most in refl))

  module _ (z : ℕ) (ws' ms' : List ℕ) (M : Gathered n w x ws ms z ws' ms') where
    gathered_second : (k y : ℕ) → k < n → y < w * 64 → first_rows w ws' ms' (n + k) y ≡ second_rows n w ws ms k y
    gathered_second k y kl l = second_at n w ws' ms' k y ∙ unfold second_rows in
        (row_same ws' ws (n * w + k * w) (get_or ms' (n + k) 0) (get_or ms (n + k) 0) y
        (M.masks (n + k) (λ e. absurd (omega arith)))
        (M.below (n * w + k * w + y / 64) (omega (arith, rows_apart k n w kl))))

    -- over records that are no columns
    pub gathered_gap : (r : ℕ) → z ≤ r → Gap (cut_row n (first_rows w ws ms x)) z r → Gathered n w x ws ms r ws' ms'
    gathered_gap r l g =
        merged_same M (λ y. most (min r n) (linked n w ws ms x y))
        (λ y h. most_gap (linked n w ws ms x y) (min z n) (min r n) (omega arith) (gap_linked (min z n) (min r n) y (uncut_gap n (first_rows w ws ms x) z r g)))

    -- record z, a column
    pub gathered_more : (ws'' ms'' : List ℕ) → cut_row n (first_rows w ws ms x) z ≡ 1
        → Merged w (n + n) (n * w + n * w) (first_rows w ws' ms' (n + z)) ws' ms' ws'' ms'' → Gathered n w x ws ms (z + 1) ws'' ms''
    gathered_more ws'' ms'' e N = merged_more M N (λ y. most (min (z + 1) n) (linked n w ws ms x y)) here
      where
        u : (z < n) × (first_rows w ws ms x z ≡ 1)
        u = uncut_one n (first_rows w ws ms x) z e

        here : (y : ℕ) → y < w * 64 → most (min (z + 1) n) (linked n w ws ms x y)
            ≡ max (most (min z n) (linked n w ws ms x y)) (first_rows w ws' ms' (n + z) y)
        here y l =
            let s : min z n ≡ z = omega (arith, u.0) in
            let t : min (z + 1) n ≡ suc z = omega (arith, u.0) in
            rw (s, t) (unfold most in refl ∙ ap (max (most z (linked n w ws ms x y)))
            (ap (λ (v : ℕ). min v (second_rows n w ws ms z y)) u.1 ∙ omega (arith, second_bit n w ws ms z y) ∙ sym (gathered_second z y u.0 l)))

  pub gathered_all : (z : ℕ) (ws' ms' : List ℕ) → n ≤ z → Gathered n w x ws ms z ws' ms'
      → Merged w (n + n) (n * w + n * w) (λ y. most n (linked n w ws ms x y)) ws ms ws' ms'
  gathered_all z ws' ms' h M = let s : min z n ≡ n = omega arith in rw s at M

  -- the row stored in place of row x
  pub row_replaced : (ws' ms' ws'' ms'' : List ℕ) → n + n < length ms → length ms' ≡ length ms
      → Merged w (n + n) (n * w + n * w) (λ y. most n (linked n w ws (set ms (n + n) 0) x y)) ws (set ms (n + n) 0) ws' ms'
      → Merged w x (x * w) (first_rows w ws' (set ms' x 0) (n + n)) ws' (set ms' x 0) ws'' ms''
      → Replaced n w x (x * w) (λ y. most n (linked n w ws ms x y)) ws ms ws'' ms''
  row_replaced ws' ms' ws'' ms'' tl ml P M = record {
    row = λ y l. M.row y l ∙ ap₂ max (old y) (new y l) ∙ omega arith;
    below = λ k h. M.below k h ∙ P.below k (omega (arith, end));
    above = λ k h l. M.above k h ∙ P.below k l;
    masks = λ k h l.
        M.masks k h ∙ get_or-set_other ms' x k 0 0 h ∙ P.masks k (λ e. absurd (omega arith)) ∙ get_or-set_other ms (n + n) k 0 0 (λ e. absurd (omega arith));
  }
    where
      end : x * w + w ≤ n * w
      end = rows_apart x n w xl

      old : (y : ℕ) → row_of ws' (x * w) (get_or (set ms' x 0) x 0) y ≡ 0
      old y = row_empty ws' (x * w) _ y (ap (λ (v : ℕ). digit v (y / 64)) (get_or-set_same ms' x 0 0 (omega arith)) ∙ digit_none (y / 64))

      -- the mask after the two relations is none of theirs
      first-same : (y : ℕ) → first_rows w ws (set ms (n + n) 0) x y ≡ first_rows w ws ms x y
      first-same y = unfold first_rows in (ap (λ (v : ℕ). row_of ws (x * w) v y) (get_or-set_other ms (n + n) x 0 0 (λ e. absurd (omega arith))))

      second_same : (z : ℕ) → z < n → (y : ℕ) → second_rows n w ws (set ms (n + n) 0) z y ≡ second_rows n w ws ms z y
      second_same z h y =
          unfold second_rows in (ap (λ (v : ℕ). row_of ws (n * w + z * w) v y) (get_or-set_other ms (n + n) (n + z) 0 0 (λ e. absurd (omega arith))))

      new : (y : ℕ) → y < w * 64 → first_rows w ws' (set ms' x 0) (n + n) y ≡ most n (linked n w ws ms x y)
      new y l =
          second_at n w ws' (set ms' x 0) n y ∙ unfold second_rows in
          (ap (λ (v : ℕ). row_of ws' (n * w + n * w) v y) (get_or-set_other ms' x (n + n) 0 0 (λ e. absurd (omega arith)))) ∙ P.row y l
          ∙ ap₂ max
          (row_empty ws (n * w + n * w) _ y (ap (λ (v : ℕ). digit v (y / 64)) (get_or-set_same ms (n + n) 0 0 tl) ∙ digit_none (y / 64)))
          (most_same n (linked n w ws (set ms (n + n) 0) x y) (linked n w ws ms x y) (λ z h. ap₂ min (first-same z) (second_same z h y)))
          ∙ omega arith

-- ---- all rows
abbrev pub composed : (n w : ℕ) → List ℕ → List ℕ → Cells
composed n w ws ms x y = most n (linked n w ws ms x y)

module _ (n w i : ℕ) (ws ms ws' ms' : List ℕ) (nl : n ≤ w * 64) (il : i < n) (T : Through n w i (composed n w ws ms) ws ms ws' ms') where
  pub compose_more : (ws'' ms'' : List ℕ) → Replaced n w i (i * w) (λ y. most n (linked n w ws' ms' i y)) ws' ms' ws'' ms''
      → Through n w (i + 1) (composed n w ws ms) ws ms ws'' ms''
  compose_more ws'' ms'' R =
      through_more n w i _ ws ms ws' ms' il T ws'' ms'' _ R
      (λ y l. most_same n (linked n w ws' ms' i y) (linked n w ws ms i y)
      (λ z h. ap₂ min (unfold first_rows in (through_row n w i _ ws ms ws' ms' il T z (omega arith))) (second_row n w i _ ws ms ws' ms' il T z h y l)))

  pub compose_skip : get_or ms' i 0 ≡ 0 → Through n w (i + 1) (composed n w ws ms) ws ms ws' ms'
  compose_skip e =
      through_keep n w i _ ws ms ws' ms' il T
      (λ y l. empty y ∙ sym (most_none n (linked n w ws ms i y) (λ z h. ap (λ (v : ℕ). min v (second_rows n w ws ms z y)) (empty z) ∙ omega arith)))
    where
      empty : (y : ℕ) → first_rows w ws ms i y ≡ 0
      empty y = empty_row n w ws ms i (sym (T.masks i (omega arith) (omega arith)) ∙ e) y

pub within_product : (n w : ℕ) (ws ms : List ℕ)
    → within n (composed n w ws ms) ≡ product n (within n (first_rows w ws ms)) (within n (second_rows n w ws ms))
unfolding product serves
within_product n w ws ms = fun_ext (λ x. fun_ext (λ y. go x y (dec_lt x n) (dec_lt y n)))
  where
    F : Cells
    F = first_rows w ws ms

    S : Cells
    S = second_rows n w ws ms

    go : (x y : ℕ) → Dec (x < n) → Dec (y < n) → within n (composed n w ws ms) x y
        ≡ most n (λ z. min (within n (first_rows w ws ms) x z) (within n (second_rows n w ws ms) z y))
    go x y (yes h) (yes l) =
        within_in n (composed n w ws ms) x y h l
        ∙ most_same n (linked n w ws ms x y) _ (λ z k. sym (ap₂ min (within_in n (first_rows w ws ms) x z h k) (within_in n (second_rows n w ws ms) z y k l)))
    go x y (no h) l =
        within_row n (composed n w ws ms) x y (omega arith)
        ∙ sym (most_none n _ (λ z k. ap (λ (v : ℕ). min v (within n (second_rows n w ws ms) z y)) (within_row n (first_rows w ws ms) x z (omega arith))
        ∙ omega arith))
    go x y (yes h) (no l) =
        within_column n (composed n w ws ms) x y (omega arith)
        ∙ sym (most_none n _ (λ z k. ap (min (within n (first_rows w ws ms) x z)) (within_column n (second_rows n w ws ms) z y (omega arith)) ∙ omega arith))
