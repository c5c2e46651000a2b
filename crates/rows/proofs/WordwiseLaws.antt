-- Laws of words written in place: each made anew of itself and of another's, and a row's words stored. Assumes nothing.
use mathlib.Core.Path.{◌≡◌, refl, sym, ap, ◌∙◌, fun_ext}
use mathlib.Core.List.{List}
use Prim.Native.Nat.{ℕ, ◌+◌, ◌-◌, ◌*◌, ◌/◌, ◌%◌, ◌≤◌, ◌<◌}
use native.Mathlib.Decide.{dec_lt}
use native.Mathlib.Omega.{arith}
use lib.ListN.{length, get_or, take, drop, get_or-append}
use lib.Seq.{length-take-le, get_or-take, get_or-drop}
use Rattle.std.proofs.lemmas.List.{get_or-append_right}
use borrow.Author.Tests.{eq-eqb, ne_eqb}
use borrow.Rule.Slice.PartMut.{put_mid}
use Rattle.k2.specs.Bits.{digit, bit_at}
use Rattle.k2.specs.BitLaws.{bit_in, bit_out, upto_all}
use Rattle.bits.specs.BitSets.{both, minus}
use Rattle.rows.specs.Steps.{with_row}

-- ---- words made anew, so that the bits become f
pub words_made : (f : ℕ → ℕ) (a₀ a : List ℕ) → length a ≡ length a₀
    → ((i k : ℕ) → i < length a₀ → k < 64 → digit (get_or a i 0) k ≡ f (i * 64 + k)) → ((p : ℕ) → length a₀ ≤ p / 64 → f p ≡ 0) → bit_at a ≡ f
words_made f a₀ a l d z =
    upto_all a (length a₀) f (omega arith)
    (λ p h.
    let s : p / 64 * 64 + p % 64 ≡ p = omega arith in
    ap (bit_at a) (sym s) ∙ bit_in a (p / 64) (p % 64) (omega arith) ∙ d (p / 64) (p % 64) (omega arith) (omega arith) ∙ ap f s)
    z

-- past the end
module _ (a b : List ℕ) (p : ℕ) (ha : length a ≤ p / 64) where
  pub both_out : both (bit_at a) (bit_at b) p ≡ 0
  unfolding both
  both_out = rw (bit_out a p ha) (omega arith)

  pub minus_out : minus (bit_at a) (bit_at b) p ≡ 0
  unfolding minus
  minus_out = rw (bit_out a p ha) (omega arith)

-- ---- ys in the place of as many from i on
module _ (i : ℕ) (l ys : List ℕ) (long : i + length ys ≤ length l) where
  put_before : (j : ℕ) → j < i → get_or (put_mid i (length ys) l ys) j 0 ≡ get_or l j 0
  put_before j h =
      get_or-append (take i l) _ 0 j (omega (arith, length-take-le i l (omega arith))) ∙ get_or-take i l j 0 h

  put_at : (j : ℕ) → i ≤ j → j - i < length ys → get_or (put_mid i (length ys) l ys) j 0 ≡ get_or ys (j - i) 0
  put_at j h k = get_or-append_right (take i l) _ i j 0 (length-take-le i l (omega arith)) h ∙ get_or-append ys _ 0 (j - i) k

  put_after : (j : ℕ) → i + length ys ≤ j → get_or (put_mid i (length ys) l ys) j 0 ≡ get_or l j 0
  put_after j h =
      let e : i + (length ys + (j - i - length ys)) ≡ j = omega arith in
      get_or-append_right (take i l) _ i j 0 (length-take-le i l (omega arith)) (omega arith)
      ∙ get_or-append_right ys _ (length ys) (j - i) 0 refl (omega arith)
      ∙ get_or-drop (length ys) (drop i l) (j - i - length ys) 0 ∙ get_or-drop i l (length ys + (j - i - length ys)) 0 ∙ ap (λ (t : ℕ). get_or l t 0) e

-- ---- a row of 16 words stored as row i
pub row_stored : (row ws : List ℕ) (i : ℕ) → length row ≡ 16 → i * 16 + 16 ≤ length ws
    → bit_at (put_mid (i * 16) (length row) ws row) ≡ with_row i (bit_at row) (bit_at ws)
unfolding with_row bit_at
row_stored row ws i l h = fun_ext (λ p. go p (dec_lt (p / 64) (i * 16)) (dec_lt (p / 64) (i * 16 + 16)))
  where
    now : List ℕ
    now = put_mid (i * 16) (length row) ws row

    other : (p : ℕ) → (p / 1024 ≡ i → ⊥) → get_or now (p / 64) 0 ≡ get_or ws (p / 64) 0 → bit_at now p ≡ with_row i (bit_at row) (bit_at ws) p
    other p n e = rw (ne_eqb (p / 1024) i n) (ap (λ (w : ℕ). digit w (p % 64)) e)

    go : (p : ℕ) → Dec (p / 64 < i * 16) → Dec (p / 64 < i * 16 + 16) → bit_at now p ≡ with_row i (bit_at row) (bit_at ws) p
    go p (yes a) b = other p (λ q. omega arith) (put_before (i * 16) ws row (omega arith) (p / 64) a)
    go p (no a) (no b) = other p (λ q. omega arith) (put_after (i * 16) ws row (omega arith) (p / 64) (omega arith))
    go p (no a) (yes b) =
        let e : p / 1024 ≡ i = omega arith in
        let f : p / 64 - i * 16 ≡ p % 1024 / 64 = omega arith in
        let g : p % 1024 % 64 ≡ p % 64 = omega arith in
        rw (eq-eqb (p / 1024) i e, g)
        (ap (λ (w : ℕ). digit w (p % 64))
        (put_at (i * 16) ws row (omega arith) (p / 64) (omega arith) (omega arith) ∙ ap (λ (t : ℕ). get_or row t 0) f))
