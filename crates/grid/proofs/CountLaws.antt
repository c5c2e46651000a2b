-- Laws of how many pairs a relation has.
--   word_count     the ones of a word are its columns
--   count_none, count_more, count_all
--                  how many columns a row has: before the first word in its mask, from a word to the next one in the mask, all words
--   rows_count     how many pairs the rows below one more have
-- Assumes nothing.
use mathlib.Core.Path.{◌≡◌, refl, sym, ap, ap₂, ◌∙◌}
use mathlib.Core.List.{List, [], ◌∷◌}
use Prim.Native.Nat.{ℕ, zero, suc, ◌+◌, ◌*◌, ◌^◌, ◌≤◌, ◌<◌}
use native.Mathlib.Nat.{zero-add}
use native.Mathlib.Omega.{arith}
use lib.Count.{ones}
use lib.Dec.{ltb}
use lib.ListN.{length, get_or, length-append}
use Rattle.book.specs.Basics.{pick}
use Rattle.k2.specs.Bits.{digit, bit_at, ones_below}
use Rattle.k2.specs.BitLaws.{Bits, bit_lt, bit_in, ones_word}
use Rattle.k2.specs.PairSets.{if_set, rows_pairs}
use Rattle.bits.specs.BitSets.{Gap}
use Rattle.grid.specs.Grid.{row_of, first}
use Rattle.grid.specs.Steps.{cut_row, columns}
use Rattle.grid.proofs.ListingLaws.{columns_none, columns_gap, columns_same, cut_gap, cut_word, cut_all, rows_next}

-- ---- how many columns there are
columns_length : (f : ℕ → ℕ) (at m : ℕ) → Bits f → length (columns f at m) ≡ ones_below f m
unfolding columns ones_below
columns_length f at zero b = refl
columns_length f at (suc m) b =
    length-append (columns f at m) (if_set (f m) (at + m)) ∙ ap₂ (λ (x y : ℕ). x + y) (columns_length f at m b) (one (f m) (b m))
  where
    one : (v : ℕ) → v < 2 → length (if_set v (at + m)) ≡ v
    one zero h = refl
    one (suc zero) h = refl
    one (suc (suc v)) h = absurd (omega arith)

pub word_count : (v at : ℕ) → v < 2 ^ 64 → ones v ≡ length (columns (digit v) at 64)
unfolding ones_below
word_count v at h =
    sym (ap length (columns_same (digit v) (bit_at (v ∷ [])) at 64 (λ k l. sym (ap (bit_at (v ∷ [])) (sym (zero-add k)) ∙ bit_in (v ∷ []) 0 k l)))
    ∙ columns_length (bit_at (v ∷ [])) at 64 (bit_lt (v ∷ [])) ∙ ones_word (v ∷ []) 0 h ∙ zero-add (ones v))

-- ---- a row
module _ (n w b m x : ℕ) (ws : List ℕ) where
  abbrev g : ℕ → ℕ
  g = cut_row n (row_of ws b m)

  pub count_none : (k at : ℕ) → Gap (digit m) 0 k → 0 ≡ length (columns g at (k * 64))
  count_none k at h = sym (ap length (columns_gap g at 0 (k * 64) (omega arith) (λ y a l. cut_gap n w b m x ws 0 k h y (omega arith) l) ∙ columns_none g at))

  pub count_more : (c k v s t at : ℕ) → digit m c ≡ 1
      → ((j : ℕ) → j < 64 → digit v j ≡ pick (ltb (c * 64 + j) n) (digit (get_or ws (b + c) 0) j) 0)
      → c + 1 ≤ k → Gap (digit m) (c + 1) k → s ≡ length (columns g at (c * 64)) → ((to : ℕ) → t ≡ length (columns (digit v) to 64))
      → s + t ≡ length (columns g at (k * 64))
  count_more c k v s t at d e low h p q =
      let z : (c + 1) * 64 ≡ c * 64 + 64 = omega arith in
      ap₂ (λ (i j : ℕ). i + j) p (q (at + c * 64)) ∙ sym (length-append (columns g at (c * 64)) (columns (digit v) (at + c * 64) 64))
      ∙ sym (ap length (columns_gap g at ((c + 1) * 64) (k * 64) (omega arith) (cut_gap n w b m x ws (c + 1) k h)
      ∙ ap (columns g at) z ∙ cut_word n w b m x ws c v d e at))

  pub count_all : (c s at : ℕ) → n ≤ c * 64 → s ≡ length (columns g at (c * 64)) → s ≡ length (columns g at n)
  count_all c s at h p = p ∙ ap length (cut_all n w b m x ws c at h)

-- ---- the rows
pub rows_count : (n w x t s : ℕ) (ws ms : List ℕ) → x < n → t ≡ length (rows_pairs (first n w ws ms) n x)
    → s ≡ length (columns (cut_row n (row_of ws (x * w) (get_or ms x 0))) (x * 1024) n) → t + s ≡ length (rows_pairs (first n w ws ms) n (x + 1))
rows_count n w x t s ws ms l p q =
    ap₂ (λ (i j : ℕ). i + j) p q ∙ sym (length-append (rows_pairs (first n w ws ms) n x) (columns (cut_row n (row_of ws (x * w) (get_or ms x 0))) (x * 1024) n))
    ∙ sym (ap length (rows_next n w x ws ms l))
