-- Laws of the columns below n of row x of the first relation, word by word.
--   uncut_one, uncut_gap
--                  a column of a row cut to n, and a gap in it, as those of the row
--   gap_words      no column stands in words that are not in the mask
--   word_digit, word_gap
--                  the digits of a word that is in it are its columns, and a gap in the word is one in the row
-- Assumes nothing.
use Rattle.std.proofs.Common.{◌≡◌, sym, ap, ◌∙◌, List, ℕ, ◌+◌, ◌-◌, ◌*◌, ◌≤◌, ◌<◌, min, ltb, get_or, arith, lt-ltb, le-ltb}
use Rattle.std.proofs.Math.Decide.{dec_lt}
use Rattle.book.specs.Basics.{pick}
use Rattle.k2.specs.Bits.{digit}
use Rattle.bits.specs.BitSets.{Gap}
use Rattle.grid.specs.Grid.{first_rows}
use Rattle.grid.specs.Steps.{cut_row}
use Rattle.grid.proofs.ListingLaws.{cut_gap, cut_at}

module _ (n : ℕ) (f : ℕ → ℕ) where
  pub uncut_one : (y : ℕ) → cut_row n f y ≡ 1 → (y < n) × (f y ≡ 1)
  unfolding cut_row
  uncut_one y e = go (dec_lt y n)
    where
      go : Dec (y < n) → (y < n) × (f y ≡ 1)
      go (yes h) = (h, rw (lt-ltb y n h) at e)
      go (no h) = let z : ◌≡◌ {A = ℕ} 0 1 = rw (le-ltb y n (omega arith)) at e in absurd (omega arith)

  pub uncut_gap : (p q : ℕ) → Gap (cut_row n f) p q → Gap f (min p n) (min q n)
  unfolding cut_row
  uncut_gap p q g y a b = rw (lt-ltb y n (omega arith)) at (g y (omega arith) (omega arith))

module _ (n w x : ℕ) (ws ms : List ℕ) where
  pub gap_words : (c k : ℕ) → Gap (digit (get_or ms x 0)) c k → Gap (cut_row n (first_rows w ws ms x)) (c * 64) (k * 64)
  unfolding first_rows
  gap_words c k g = cut_gap n w (x * w) (get_or ms x 0) x ws c k g

  module _ (c v u : ℕ) (d : digit (get_or ms x 0) c ≡ 1) (same : u ≡ get_or ws (x * w + c) 0)
      (e : (j : ℕ) → j < 64 → digit v j ≡ pick (ltb (c * 64 + j) n) (digit u j) 0) where
    pub word_digit : (j : ℕ) → j < 64 → digit v j ≡ cut_row n (first_rows w ws ms x) (c * 64 + j)
    unfolding first_rows
    word_digit j h = cut_at n w (x * w) (get_or ms x 0) x ws c v d (λ i l. e i l ∙ ap (λ (k : ℕ). pick (ltb (c * 64 + i) n) (digit k i) 0) same) j h

    pub word_gap : (p q : ℕ) → Gap (digit v) p q → q ≤ 64 → Gap (cut_row n (first_rows w ws ms x)) (c * 64 + p) (c * 64 + q)
    word_gap p q g l y a b =
        let s : c * 64 + (y - c * 64) ≡ y = omega arith in
        rw s at (sym (word_digit (y - c * 64) (omega arith)) ∙ g (y - c * 64) (omega arith) (omega arith))
