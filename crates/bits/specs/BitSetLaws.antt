-- Laws of sets of bits, and of `bit_at` after the stores that make them.
--   put_at, put_off    the bit put in is there, and every other is as it was
--   bits_set           a store that changes one digit of one word changes one bit alone
--   digit_or_pow       or with a power of two sets a digit
--   bits_none          words of 0 have no bit
--   both_word, minus_word
--                      the digits of `&` and `& !` of two words are the intersection and the difference of their bits
--   four_in, four_out  four bits from a multiple of 4 on, as the code reads them from one word; past the end they are 0
--   gap_join           two gaps, one after the other, are one
--   gap_word           a word of 0 is a gap
-- Assumes nothing.
use Rattle.std.specs.Prelude.{◌≡◌, refl, Bool, true, false, List, ℕ, ◌+◌, ◌-◌, ◌*◌, ◌/◌, ◌%◌, ◌^◌, ◌≤◌, ◌<◌, max, eqb, length, get_or, set, replicate}
use Rattle.std.proofs.Common.{sym, ap, ◌∙◌, arith, eq-eqb, ne_eqb}
use Rattle.std.proofs.Math.Path.{fun_ext}
use Rattle.std.proofs.Math.Decide.{dec_lt, ℕ_discrete}
use Rattle.std.specs.Int.Bits.{bit_and, bit_or}
use Rattle.book.specs.Basics.{pick}
use Rattle.k2.specs.Bits.{digit, bit_at}
use Rattle.k2.specs.DigitLaws.{digit_lt, digit_or, digit_and, digit_not, digit_pow, digit_four}
use Rattle.k2.specs.BitLaws.{bit_in, bit_out, bit_zero, bit_set, bit_set_off, bit_replicate}
use Rattle.bits.specs.BitSets.{none, put, both, minus, four_at, Gap}

-- ---- a bit put in
pub put_at : (p v : ℕ) (f : ℕ → ℕ) → put p v f p ≡ v
unfolding put
put_at p v f = rw (eq-eqb p p refl)

pub put_off : (p v : ℕ) (f : ℕ → ℕ) (k : ℕ) → (k ≡ p → ⊥) → put p v f k ≡ f k
unfolding put
put_off p v f k h = rw (ne_eqb k p h)

-- a store that changes digit p % 64 of word p / 64 alone changes bit p alone
pub bits_set : (ws : List ℕ) (p v b : ℕ) → p / 64 < length ws
    → ((j : ℕ) → digit v j ≡ put (p % 64) b (digit (get_or ws (p / 64) 0)) j)
    → bit_at (set ws (p / 64) v) ≡ put p b (bit_at ws)
unfolding bit_at
bits_set ws p v b h d = fun_ext (λ k. go k (ℕ_discrete (k / 64) (p / 64)) (ℕ_discrete (k % 64) (p % 64)))
  where
    go : (k : ℕ) → Dec (k / 64 ≡ p / 64) → Dec (k % 64 ≡ p % 64) → bit_at (set ws (p / 64) v) k ≡ put p b (bit_at ws) k
    go k (yes e) (yes r) =
        let s : k ≡ p = omega arith in
        bit_set ws (p / 64) v k h e ∙ d (k % 64) ∙ rw (r, s, put_at, put_at)
    go k (yes e) (no r) =
        bit_set ws (p / 64) v k h e ∙ d (k % 64)
        ∙ rw (put_off (p % 64) b (digit (get_or ws (p / 64) 0)) (k % 64) r, put_off p b (bit_at ws) k (λ s. r (ap (λ (x : ℕ). x % 64) s)), e)
    go k (no e) r = bit_set_off ws (p / 64) v k e ∙ sym (put_off p b (bit_at ws) k (λ s. e (ap (λ (x : ℕ). x / 64) s)))

-- or with a power of two sets a digit
pub digit_or_pow : (w r j : ℕ) → digit (bit_or w (2 ^ r)) j ≡ put r 1 (digit w) j
unfolding put
digit_or_pow w r j = rw (digit_or, digit_pow) (go (eqb j r))
  where
    go : (t : Bool) → max (digit w j) (pick t 1 0) ≡ pick t 1 (digit w j)
    go true = omega (arith, digit_lt w j)
    go false = omega arith

-- ---- no bit
pub bits_none : (n : ℕ) → bit_at (replicate n 0) ≡ none
unfolding none
bits_none n = fun_ext (λ p. bit_replicate n p)

-- ---- the words of `|`, `&` and `& !`
module _ (a b : List ℕ) (i k : ℕ) (h : k < 64) where
  pub both_word : digit (bit_and (get_or a i 0) (get_or b i 0)) k ≡ both (bit_at a) (bit_at b) (i * 64 + k)
  unfolding both
  both_word = rw (digit_and, bit_in a i k h, bit_in b i k h)

  pub minus_word : get_or b i 0 < 2 ^ 64 → digit (bit_and (get_or a i 0) ((2 ^ 64 - 1) - get_or b i 0)) k ≡ minus (bit_at a) (bit_at b) (i * 64 + k)
  unfolding minus
  minus_word f =
      rw (digit_and, bit_in a i k h, bit_in b i k h, digit_not 64 k (get_or b i 0) f h)
      (omega (arith, digit_lt (get_or a i 0) k, digit_lt (get_or b i 0) k))

-- ---- four bits from a multiple of 4 on: they stand in one word
bit_near : (ws : List ℕ) (p j : ℕ) → p % 4 ≡ 0 → j < 4 → bit_at ws (p + j) ≡ digit (get_or ws (p / 64) 0) (p % 64 + j)
unfolding bit_at
bit_near ws p j h l =
    let a : (p + j) / 64 ≡ p / 64 = omega arith in
    let b : (p + j) % 64 ≡ p % 64 + j = omega arith in
    rw (a, b)

pub four_in : (ws : List ℕ) (p : ℕ) → p % 4 ≡ 0 → four_at (bit_at ws) p ≡ get_or ws (p / 64) 0 / 2 ^ (p % 64) % 16
unfolding four_at
four_in ws p h =
    rw (bit_near ws p 1 h (omega arith), bit_near ws p 2 h (omega arith), bit_near ws p 3 h (omega arith))
    (unfold bit_at in (digit_four (get_or ws (p / 64) 0) (p % 64)))

pub four_out : (ws : List ℕ) (p : ℕ) → length ws ≤ p / 64 → four_at (bit_at ws) p ≡ 0
unfolding four_at
four_out ws p h = rw (bit_out ws p h, bit_out ws (p + 1) (omega arith), bit_out ws (p + 2) (omega arith), bit_out ws (p + 3) (omega arith))

-- ---- gaps
pub gap_join : (f : ℕ → ℕ) (lo p q : ℕ) → Gap f lo p → Gap f p q → Gap f lo q
gap_join f lo p q g h k a b = go (dec_lt k p)
  where
    go : Dec (k < p) → f k ≡ 0
    go (yes l) = g k a l
    go (no l) = h k (omega arith) b

-- a word of 0
pub gap_word : (ws : List ℕ) (q : ℕ) → get_or ws q 0 ≡ 0 → Gap (bit_at ws) (q * 64) ((q + 1) * 64)
gap_word ws q e k a b = let s : k / 64 ≡ q = omega arith in bit_zero ws k (rw s e)
