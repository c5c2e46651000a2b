-- Laws of listing: the columns of a row, word by word.
--   columns_none, columns_hit, columns_gap, columns_same, columns_split, columns_row
--                  the columns of a row: none, one more, over a gap, of equal rows, in two parts; they are its pair words
--   cut_out, cut_gap, cut_at, cut_word, cut_all
--                  a row cut to n, word by word: past n, words that are not in the mask, the digits of one that is, its columns, past the last
--   rows_none, rows_next, rows_all
--                  the rows: none, the next, all are the list of the set
-- Assumes nothing.
use mathlib.Core.Path.{◌≡◌, refl, sym, ap, ap₂, ◌∙◌}
use mathlib.Core.List.{List, [], ◌∷◌, ◌++◌, append-nil, append_assoc}
use Prim.Native.Nat.{ℕ, zero, suc, ◌+◌, ◌-◌, ◌*◌, ◌/◌, ◌%◌, ◌≤◌, ◌<◌}
use native.Mathlib.Nat.{add-zero, add-suc}
use native.Mathlib.Numerals.{add-one}
use native.Mathlib.Decide.{dec_lt}
use native.Mathlib.Omega.{arith}
use lib.Dec.{ltb}
use lib.ListN.{get_or}
use borrow.Author.Tests.{lt-ltb, le-ltb}
use Rattle.book.specs.Basics.{pick}
use Rattle.k2.specs.Bits.{digit}
use Rattle.k2.specs.PairSets.{Cells, if_set, row_pairs, rows_pairs, listed}
use Rattle.bits.specs.BitSets.{Gap}
use Rattle.grid.specs.Grid.{row_of, first_rows, within}
use Rattle.grid.specs.GridLaws.{within_in}
use Rattle.grid.specs.Steps.{cut_row, columns}
use Rattle.grid.proofs.RowLaws.{row_in, row_empty}

-- ---- columns
pub columns_none : (f : ℕ → ℕ) (at : ℕ) → columns f at 0 ≡ []
unfolding columns
columns_none f at = refl

pub columns_hit : (f : ℕ → ℕ) (at m : ℕ) → f m ≡ 1 → columns f at (m + 1) ≡ columns f at m ++ ((at + m) ∷ [])
unfolding columns
columns_hit f at m e = rw (add-one, e)

columns_skip : (f : ℕ → ℕ) (at m d : ℕ) → Gap f m (m + d) → columns f at (m + d) ≡ columns f at m
unfolding columns
columns_skip f at m zero g = ap (columns f at) (add-zero m)
columns_skip f at m (suc d) g =
    ap (columns f at) (add-suc m d)
    ∙ ap₂ (λ (l : List ℕ) (v : ℕ). l ++ if_set v (at + (m + d))) (columns_skip f at m d (λ k a b. g k a (omega arith))) (g (m + d) (omega arith) (omega arith))
    ∙ append-nil (columns f at m)

pub columns_gap : (f : ℕ → ℕ) (at p q : ℕ) → p ≤ q → Gap f p q → columns f at q ≡ columns f at p
columns_gap f at p q l g =
    let e : q ≡ p + (q - p) = omega arith in
    ap (columns f at) e ∙ columns_skip f at p (q - p) (λ k a b. g k a (omega arith))

pub columns_same : (f g : ℕ → ℕ) (at m : ℕ) → ((k : ℕ) → k < m → f k ≡ g k) → columns f at m ≡ columns g at m
unfolding columns
columns_same f g at zero e = refl
columns_same f g at (suc m) e =
    ap₂ (λ (l : List ℕ) (v : ℕ). l ++ if_set v (at + m)) (columns_same f g at m (λ k h. e k (omega arith))) (e m (omega arith))

pub columns_split : (f g : ℕ → ℕ) (at c k : ℕ) → ((j : ℕ) → j < k → g j ≡ f (c + j)) → columns f at (c + k) ≡ columns f at c ++ columns g (at + c) k
unfolding columns
columns_split f g at c zero e = ap (columns f at) (add-zero c) ∙ sym (append-nil (columns f at c))
columns_split f g at c (suc k) e =
    let s : at + (c + k) ≡ at + c + k = omega arith in
    ap (columns f at) (add-suc c k)
    ∙ ap₂ (λ (l : List ℕ) (v : ℕ). l ++ if_set v (at + (c + k))) (columns_split f g at c k (λ j h. e j (omega arith))) (sym (e k (omega arith)))
    ∙ append_assoc (columns f at c) (columns g (at + c) k) (if_set (g k) (at + (c + k)))
    ∙ ap (λ (v : ℕ). columns f at c ++ (columns g (at + c) k ++ if_set (g k) v)) s

pub columns_row : (a : Cells) (x m : ℕ) → row_pairs a x m ≡ columns (a x) (x * 1024) m
unfolding row_pairs columns
columns_row a x zero = refl
columns_row a x (suc m) = ap (λ (l : List ℕ). l ++ if_set (a x m) (x * 1024 + m)) (columns_row a x m)

-- ---- a row, word by word
module _ (n w b m x : ℕ) (ws : List ℕ) where
  abbrev f : ℕ → ℕ
  f = cut_row n (row_of ws b m)

  pub cut_out : (y : ℕ) → n ≤ y → cut_row n (row_of ws b m) y ≡ 0
  unfolding cut_row
  cut_out y h = rw (le-ltb y n h)

  cut_empty : (y : ℕ) → digit m (y / 64) ≡ 0 → Dec (y < n) → cut_row n (row_of ws b m) y ≡ 0
  cut_empty y d (yes h) = unfold cut_row in (rw (lt-ltb y n h) (row_empty ws b m y d))
  cut_empty y d (no h) = cut_out y (omega arith)

  -- words that are not in the mask
  pub cut_gap : (c k : ℕ) → Gap (digit m) c k → Gap (cut_row n (row_of ws b m)) (c * 64) (k * 64)
  cut_gap c k g y h l = cut_empty y (g (y / 64) (omega arith) (omega arith)) (dec_lt y n)

  -- a word that is in it
  module _ (c v : ℕ) (d : digit m c ≡ 1) (e : (j : ℕ) → j < 64 → digit v j ≡ pick (ltb (c * 64 + j) n) (digit (get_or ws (b + c) 0) j) 0) where
    pub cut_at : (j : ℕ) → j < 64 → digit v j ≡ cut_row n (row_of ws b m) (c * 64 + j)
    unfolding cut_row
    cut_at j h =
        let q : (c * 64 + j) / 64 ≡ c = omega arith in
        let r : (c * 64 + j) % 64 ≡ j = omega arith in
        e j h ∙ ap (λ (u : ℕ). pick (ltb (c * 64 + j) n) u 0) (sym (row_in ws b m c (c * 64 + j) q d ∙ ap (digit (get_or ws (b + c) 0)) r))

    pub cut_word : (at : ℕ) → columns f at (c * 64 + 64) ≡ columns f at (c * 64) ++ columns (digit v) (at + c * 64) 64
    cut_word at = columns_split f (digit v) at (c * 64) 64 cut_at

  -- past the last
  pub cut_all : (c at : ℕ) → n ≤ c * 64 → columns (cut_row n (row_of ws b m)) at (c * 64) ≡ columns (cut_row n (row_of ws b m)) at n
  cut_all c at h = columns_gap (cut_row n (row_of ws b m)) at n (c * 64) h (λ y a l. cut_out y a)

-- ---- the rows
pub rows_none : (a : Cells) (n : ℕ) → rows_pairs a n 0 ≡ []
unfolding rows_pairs
rows_none a n = refl

pub rows_next : (n w x : ℕ) (ws ms : List ℕ) → x < n
    → rows_pairs (within n (first_rows w ws ms)) n (x + 1)
    ≡ rows_pairs (within n (first_rows w ws ms)) n x ++ columns (cut_row n (row_of ws (x * w) (get_or ms x 0))) (x * 1024) n
unfolding rows_pairs
rows_next n w x ws ms l =
    ap (rows_pairs (within n (first_rows w ws ms)) n) (add-one x)
    ∙ ap (λ (k : List ℕ). rows_pairs (within n (first_rows w ws ms)) n x ++ k)
    (columns_row (within n (first_rows w ws ms)) x n ∙ columns_same (within n (first_rows w ws ms) x) _ (x * 1024) n same)
  where
    same : (y : ℕ) → y < n → within n (first_rows w ws ms) x y ≡ cut_row n (row_of ws (x * w) (get_or ms x 0)) y
    same y h = within_in n (first_rows w ws ms) x y l h ∙ unfold first_rows cut_row in (sym (rw (lt-ltb y n h)))

pub rows_all : (n x : ℕ) (a : Cells) → x ≡ n → rows_pairs a n x ≡ listed n a
unfolding listed
rows_all n x a e = ap (rows_pairs a n) e
