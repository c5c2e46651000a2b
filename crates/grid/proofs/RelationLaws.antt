-- Laws of relations row by row.
--   rows_apart, row_at, rows_other, second_at, unit_fits
--                    where the rows stand, those of the second relation too, and that all of them fit
--   Through n w i new ws ms ws' ms'
--                    the rows below i are those of new, and of the first two relations nothing else has changed
--   through_none     so before the first row
--   merged_replaced  a row merged into row i replaces it
--   through_row, second_row
--                    row i, and every row of the second relation, are as they were
--   through_more, through_keep, through_merge
--                    a row more: replaced, left as it is, merged in
--   through_all      all rows: the relation is new
--   within_union, unite_row
--                    a union cut to n, and the row that is merged in for it
-- Assumes nothing.
use mathlib.Core.Path.{◌≡◌, refl, sym, ap, ap₂, ◌∙◌, fun_ext}
use mathlib.Core.List.{List}
use mathlib.Core.Logic.{inl, inr}
use Prim.Native.Nat.{ℕ, ◌+◌, ◌*◌, ◌/◌, ◌≤◌, ◌<◌, max}
use native.Mathlib.Nat.{mul-le-mul, le_refl}
use native.Mathlib.Decide.{dec_lt, ℕ_discrete}
use native.Mathlib.Omega.{arith}
use lib.ListN.{length, get_or}
use Rattle.k2.specs.PairSets.{Cells, union}
use Rattle.grid.specs.Grid.{Space, row_of, first_rows, second_rows, within}
use Rattle.grid.specs.GridLaws.{within_in, within_row, within_column, within_same}
use Rattle.grid.specs.Steps.{Merged, Replaced, RowAt}
use Rattle.grid.proofs.RowLaws.{row_same, Apart}

-- row x stands before row i
pub rows_apart : (x i w : ℕ) → x < i → x * w + w ≤ i * w
rows_apart x i w l = let h : (x + 1) * w ≤ i * w = mul-le-mul (omega arith) (le_refl w) in omega (arith, h)

-- a row of the work that is lent
pub row_at : {n w rows cells masks : ℕ} {ws ms : List ℕ} (t : ℕ) → Space n w rows cells masks → length ws ≡ cells → length ms ≡ masks → t < rows
    → RowAt w t ws ms
row_at {w = w} {rows = rows} t S e f h = record { masked = omega arith; narrow = omega arith; fits = omega (arith, rows_apart t rows w h) }

-- two rows have no word in common
pub rows_other : (x z w : ℕ) → (x ≡ z → ⊥) → Apart w (x * w) (z * w)
rows_other x z w n = go (dec_lt x z)
  where
    go : Dec (x < z) → Apart w (x * w) (z * w)
    go (yes h) = inl (rows_apart x z w h)
    go (no h) = inr (rows_apart z x w (omega (arith, n, h)))

-- a row of the second relation, by its number
pub second_at : (n w : ℕ) (ws ms : List ℕ) (z y : ℕ) → first_rows w ws ms (n + z) y ≡ second_rows n w ws ms z y
unfolding first_rows second_rows
second_at n w ws ms z y = let e : (n + z) * w ≡ n * w + z * w = omega arith in rw e

pub unit_fits : (n w : ℕ) → n ≤ 1024 → w ≤ 16 → n * w ≤ 16384
unit_fits n w a b = mul-le-mul a b

pub record Through (n w i : ℕ) (new : Cells) (ws ms ws' ms' : List ℕ) : Type 0 where
  pub done : (x y : ℕ) → x < i → y < w * 64 → first_rows w ws' ms' x y ≡ new x y
  pub words : (k : ℕ) → i * w ≤ k → k < n * w + n * w → get_or ws' k 0 ≡ get_or ws k 0
  pub masks : (k : ℕ) → i ≤ k → k < n + n → get_or ms' k 0 ≡ get_or ms k 0

pub through_none : (n w : ℕ) (new : Cells) (ws ms : List ℕ) → Through n w 0 new ws ms ws ms
through_none n w new ws ms = record { done = λ x y h l. absurd (omega arith); words = λ k h l. refl; masks = λ k h l. refl }

pub merged_replaced : (n w i : ℕ) (src : ℕ → ℕ) (ws ms ws' ms' : List ℕ) → Merged w i (i * w) src ws ms ws' ms'
    → Replaced n w i (i * w) (λ y. max (row_of ws (i * w) (get_or ms i 0) y) (src y)) ws ms ws' ms'
merged_replaced n w i src ws ms ws' ms' M = record { row = M.row; below = M.below; above = λ k h l. M.above k h; masks = λ k h l. M.masks k h }

module _ (n w i : ℕ) (new : Cells) (ws ms ws' ms' : List ℕ) (il : i < n) (T : Through n w i new ws ms ws' ms') where
  end : i * w + w ≤ n * w
  end = rows_apart i n w il

  -- row i as it was
  pub through_row : (y : ℕ) → y < w * 64 → row_of ws' (i * w) (get_or ms' i 0) y ≡ first_rows w ws ms i y
  unfolding first_rows
  through_row y l =
      row_same ws' ws (i * w) (get_or ms' i 0) (get_or ms i 0) y (T.masks i (omega arith) (omega arith))
      (T.words (i * w + y / 64) (omega arith) (omega (arith, end)))

  -- the second relation's row as it was
  pub second_row : (x : ℕ) → x < n → (y : ℕ) → y < w * 64 → second_rows n w ws' ms' x y ≡ second_rows n w ws ms x y
  unfolding second_rows
  second_row x xl y l =
      row_same ws' ws (n * w + x * w) (get_or ms' (n + x) 0) (get_or ms (n + x) 0) y (T.masks (n + x) (omega arith) (omega arith))
      (T.words (n * w + x * w + y / 64) (omega (arith, end)) (omega (arith, rows_apart x n w xl)))

  pub through_more : (ws'' ms'' : List ℕ) (src : ℕ → ℕ) → Replaced n w i (i * w) src ws' ms' ws'' ms'' → ((y : ℕ) → y < w * 64 → src y ≡ new i y)
      → Through n w (i + 1) new ws ms ws'' ms''
  unfolding first_rows
  through_more ws'' ms'' src R e = record {
    done = λ x y h l. go x y h l (ℕ_discrete x i);
    words = λ k h l. R.above k (omega (arith, next)) l ∙ T.words k (omega (arith, next)) l;
    masks = λ k h l. R.masks k (λ q. absurd (omega arith)) l ∙ T.masks k (omega arith) l;
  }
    where
      next : i * w + w ≤ (i + 1) * w
      next = rows_apart i (i + 1) w (omega arith)

      go : (x y : ℕ) → x < i + 1 → y < w * 64 → Dec (x ≡ i) → row_of ws'' (x * w) (get_or ms'' x 0) y ≡ new x y
      go x y h l (yes q) = rw q (R.row y l ∙ e y l)
      go x y h l (no q) =
          let z : x < i = omega (arith, q) in
          row_same ws'' ws' (x * w) (get_or ms'' x 0) (get_or ms' x 0) y (R.masks x q (omega arith))
          (R.below (x * w + y / 64) (omega (arith, rows_apart x i w z)))
          ∙ T.done x y z l

  -- a row that stays
  pub through_keep : ((y : ℕ) → y < w * 64 → first_rows w ws ms i y ≡ new i y) → Through n w (i + 1) new ws ms ws' ms'
  through_keep e =
      through_more ws' ms' (row_of ws' (i * w) (get_or ms' i 0))
      (record { row = λ y l. refl; below = λ k h. refl; above = λ k h l. refl; masks = λ k h l. refl })
      (λ y l. through_row y l ∙ e y l)

  -- a row merged in
  pub through_merge : (ws'' ms'' : List ℕ) (src : ℕ → ℕ) → Merged w i (i * w) src ws' ms' ws'' ms''
      → ((y : ℕ) → y < w * 64 → max (first_rows w ws ms i y) (src y) ≡ new i y)
      → Through n w (i + 1) new ws ms ws'' ms''
  through_merge ws'' ms'' src M e =
      through_more ws'' ms'' _ (merged_replaced n w i src ws' ms' ws'' ms'' M) (λ y l. ap (λ (v : ℕ). max v (src y)) (through_row y l) ∙ e y l)

-- ---- all rows
pub through_all : (n w : ℕ) (new : Cells) (ws ms ws' ms' : List ℕ) → n ≤ w * 64 → Through n w n new ws ms ws' ms'
    → within n (first_rows w ws' ms') ≡ within n new
through_all n w new ws ms ws' ms' h T = within_same n (first_rows w ws' ms') new (λ x y a b. T.done x y a (omega arith))

pub within_union : (n : ℕ) (a b : Cells) → within n (union a b) ≡ union (within n a) (within n b)
unfolding union
within_union n a b = fun_ext (λ x. fun_ext (λ y. go x y (dec_lt x n) (dec_lt y n)))
  where
    go : (x y : ℕ) → Dec (x < n) → Dec (y < n) → within n (λ u v. max (a u v) (b u v)) x y ≡ max (within n a x y) (within n b x y)
    go x y (yes h) (yes l) = within_in n (λ u v. max (a u v) (b u v)) x y h l ∙ sym (ap₂ max (within_in n a x y h l) (within_in n b x y h l))
    go x y (no h) l =
        within_row n (λ u v. max (a u v) (b u v)) x y (omega arith) ∙ sym (ap₂ max (within_row n a x y (omega arith)) (within_row n b x y (omega arith)))
    go x y (yes h) (no l) =
        within_column n (λ u v. max (a u v) (b u v)) x y (omega arith)
        ∙ sym (ap₂ max (within_column n a x y (omega arith)) (within_column n b x y (omega arith)))

-- the row that is merged in for a union
pub unite_row : (n w i : ℕ) (new : Cells) (ws ms ws' ms' : List ℕ) → i < n → Through n w i new ws ms ws' ms' → (y : ℕ) → y < w * 64
    → first_rows w ws' ms' (n + i) y ≡ second_rows n w ws ms i y
unite_row n w i new ws ms ws' ms' il T y l = second_at n w ws' ms' i y ∙ second_row n w i new ws ms ws' ms' il T i il y l
