-- Laws of a relation spread to rows of 1,024 bits.
--   spread_none, spread_more, spread_all
--                  a row: before the first word in its mask, from a word to the next one in the mask, all words
--   Laid x a rs    the rows of rs below x are those of a, and the others are empty
--   laid_empty     row x is empty then
--   laid_none, laid_more, laid_all
--                  the rows: none, one more, all of them
-- Assumes nothing.
use mathlib.Core.Path.{◌≡◌, refl, sym, ap, ◌∙◌, fun_ext}
use mathlib.Core.List.{List}
use Prim.Native.Nat.{ℕ, ◌+◌, ◌*◌, ◌/◌, ◌%◌, ◌≤◌, ◌<◌}
use native.Mathlib.Decide.{dec_lt, ℕ_discrete}
use native.Mathlib.Omega.{arith}
use lib.Dec.{ltb}
use lib.ListN.{length, get_or, set}
use borrow.Author.Tests.{lt-ltb}
use Rattle.book.specs.Basics.{pick}
use Rattle.k2.specs.Bits.{digit, bit_at}
use Rattle.k2.specs.BitLaws.{bit_set, bit_set_off}
use Rattle.k2.specs.PairSets.{Cells}
use Rattle.bits.specs.BitSets.{Gap}
use Rattle.rows.specs.Rows.{flat}
use Rattle.rows.specs.RowSets.{no_pairs}
use Rattle.grid.specs.Grid.{row_of, first_rows, first}
use Rattle.grid.specs.GridLaws.{within_in, within_row, within_column}
use Rattle.grid.specs.Steps.{cut_row, Spread}
use Rattle.grid.proofs.ListingLaws.{cut_out, cut_gap, cut_at}

-- ---- a row
module _ (n w b m x : ℕ) (ws : List ℕ) where
  abbrev g : ℕ → ℕ
  g = cut_row n (row_of ws b m)

  pub spread_none : (k : ℕ) (rs : List ℕ) → ((y : ℕ) → y < 1024 → bit_at rs (x * 1024 + y) ≡ 0) → Gap (digit m) 0 k → Spread x g k rs rs
  spread_none k rs z h = record {
    written = λ y a l. z y l ∙ sym (cut_gap n w b m x ws 0 k h y (omega arith) a);
    empty = λ y a l. z y l;
    others = λ p q. refl;
  }

  pub spread_more : (c k v : ℕ) (rs rs' : List ℕ) → length rs' ≡ 16384 → x < 1024 → c < 16 → digit m c ≡ 1
      → ((j : ℕ) → j < 64 → digit v j ≡ pick (ltb (c * 64 + j) n) (digit (get_or ws (b + c) 0) j) 0)
      → c + 1 ≤ k → Gap (digit m) (c + 1) k → Spread x g c rs rs' → Spread x g k rs (set rs' (x * 16 + c) v)
  spread_more c k v rs rs' long xl cl d e low h S = record {
    written = λ y a l. go y a l (ℕ_discrete (y / 64) c) (dec_lt y (c * 64));
    empty = λ y a l. off y l (λ q. absurd (omega arith)) ∙ S.empty y (omega arith) l;
    others = λ p q. bit_set_off rs' (x * 16 + c) v p (λ r. q (omega arith)) ∙ S.others p q;
  }
    where
      off : (y : ℕ) → y < 1024 → (y / 64 ≡ c → ⊥) → bit_at (set rs' (x * 16 + c) v) (x * 1024 + y) ≡ bit_at rs' (x * 1024 + y)
      off y l q = bit_set_off rs' (x * 16 + c) v (x * 1024 + y) (λ r. q (omega arith))

      go : (y : ℕ) → y < k * 64 → y < 1024 → Dec (y / 64 ≡ c) → Dec (y < c * 64) → bit_at (set rs' (x * 16 + c) v) (x * 1024 + y) ≡ g y
      go y a l (yes q) t =
          let r : (x * 1024 + y) % 64 ≡ y % 64 = omega arith in
          let s : c * 64 + y % 64 ≡ y = omega arith in
          bit_set rs' (x * 16 + c) v (x * 1024 + y) (omega arith) (omega arith) ∙ ap (digit v) r
          ∙ cut_at n w b m x ws c v d e (y % 64) (omega arith) ∙ ap g s
      go y a l (no q) (yes t) = off y l q ∙ S.written y t l
      go y a l (no q) (no t) =
          let z : (y / 64 ≡ c → ⊥) = q in
          off y l q ∙ S.empty y (omega arith) l ∙ sym (cut_gap n w b m x ws (c + 1) k h y (omega (arith, z)) a)

  pub spread_all : (c : ℕ) (rs rs' : List ℕ) → n ≤ c * 64 → Spread x g c rs rs' → Spread x g 16 rs rs'
  spread_all c rs rs' h S = record {
    written = λ y a l. go y l (dec_lt y (c * 64));
    empty = λ y a l. absurd (omega arith);
    others = S.others;
  }
    where
      go : (y : ℕ) → y < 1024 → Dec (y < c * 64) → bit_at rs' (x * 1024 + y) ≡ g y
      go y l (yes t) = S.written y t l
      go y l (no t) = S.empty y (omega arith) l ∙ sym (cut_out n w b m x ws y (omega arith))

-- ---- the rows
pub record Laid (x : ℕ) (a : Cells) (rs : List ℕ) : Type 0 where
  pub below : (p : ℕ) → p < x * 1024 → bit_at rs p ≡ flat a p
  pub rest : (p : ℕ) → x * 1024 ≤ p → bit_at rs p ≡ 0

pub laid_empty : (x : ℕ) (a : Cells) (rs : List ℕ) → Laid x a rs → (y : ℕ) → y < 1024 → bit_at rs (x * 1024 + y) ≡ 0
laid_empty x a rs L y h = L.rest (x * 1024 + y) (omega arith)

pub laid_none : (a : Cells) (rs : List ℕ) → bit_at rs ≡ flat no_pairs → Laid 0 a rs
unfolding flat no_pairs
laid_none a rs e = record { below = λ p h. absurd (omega arith); rest = λ p h. ap (λ (f : ℕ → ℕ). f p) e }

module _ (n w : ℕ) (ws ms : List ℕ) where
  -- a row cut to n is that of the relation
  row_cut : (x y : ℕ) → x < n → Dec (y < n) → cut_row n (row_of ws (x * w) (get_or ms x 0)) y ≡ first n w ws ms x y
  row_cut x y l (yes h) = sym (within_in n (first_rows w ws ms) x y l h ∙ unfold first_rows cut_row in (sym (rw (lt-ltb y n h))))
  row_cut x y l (no h) =
      cut_out n w (x * w) (get_or ms x 0) x ws y (omega arith) ∙ sym (within_column n (first_rows w ws ms) x y (omega arith))

  pub laid_more : (x : ℕ) (rs rs' : List ℕ) → x < n → Laid x (first n w ws ms) rs
      → Spread x (cut_row n (row_of ws (x * w) (get_or ms x 0))) 16 rs rs' → Laid (x + 1) (first n w ws ms) rs'
  unfolding flat
  laid_more x rs rs' l L S = record {
    below = λ p h. go p h (ℕ_discrete (p / 1024) x);
    rest = λ p h. S.others p (λ q. absurd (omega arith)) ∙ L.rest p (omega arith);
  }
    where
      go : (p : ℕ) → p < (x + 1) * 1024 → Dec (p / 1024 ≡ x) → bit_at rs' p ≡ flat (first n w ws ms) p
      go p h (yes q) =
          let s : p ≡ x * 1024 + p % 1024 = omega arith in
          ap (bit_at rs') s ∙ S.written (p % 1024) (omega arith) (omega arith)
          ∙ row_cut x (p % 1024) l (dec_lt (p % 1024) n) ∙ ap (λ (u : ℕ). first n w ws ms u (p % 1024)) (sym q)
      go p h (no q) = let z : (p / 1024 ≡ x → ⊥) = q in S.others p q ∙ L.below p (omega (arith, z))

  pub laid_all : (x : ℕ) (rs : List ℕ) → n ≤ x → Laid x (first n w ws ms) rs → bit_at rs ≡ flat (first n w ws ms)
  unfolding flat
  laid_all x rs l L = fun_ext (λ p. go p (dec_lt p (x * 1024)))
    where
      go : (p : ℕ) → Dec (p < x * 1024) → bit_at rs p ≡ flat (first n w ws ms) p
      go p (yes h) = L.below p h
      go p (no h) = L.rest p (omega arith) ∙ sym (within_row n (first_rows w ws ms) (p / 1024) (p % 1024) (omega arith))
