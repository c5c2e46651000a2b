-- Laws of the scan for the next bit, by the trailing zeros of what is left of a word, and of taking the lowest bit of a word. Assumes nothing.
use Rattle.std.specs.Prelude.{◌≡◌, List, ℕ, ◌+◌, ◌-◌, ◌*◌, ◌/◌, ◌^◌, ◌≤◌, ◌<◌, min, length, get_or}
use Rattle.std.proofs.Common.{◌∙◌, div-one, lt_of_le_of_lt, arith}
use Rattle.std.proofs.Math.Decide.{dec_lt, ℕ_discrete}
use Rattle.std.proofs.Math.Path.{fun_ext}
use Rattle.std.specs.Int.Bits.{bit_and}
use Rattle.std.specs.Int.Count.{count_trailing_zeros}
use Rattle.std.proofs.lemmas.Nat.{shr_le, and_le_r}
use Rattle.k2.specs.Bits.{digit, bit_at}
use Rattle.k2.specs.WordLaws.{trailing_set, trailing_clear, trailing_lt, lowest_gone, lowest_left}
use Rattle.k2.specs.DigitLaws.{digit_none, digit_add, digit_big}
use Rattle.k2.specs.BitLaws.{bit_in, bit_out}
use Rattle.bits.specs.BitSets.{put, Gap, Next, LowestTaken}
use Rattle.bits.specs.BitSetLaws.{put_at, put_off, gap_join}

-- of what is left of word q from its digit s on, the lowest digit that is set
module _ (ws : List ℕ) (q s : ℕ) (fits : get_or ws q 0 < 2 ^ 64) (some : 0 < get_or ws q 0 / 2 ^ s) where
  pub rest-set : digit (get_or ws q 0) (s + count_trailing_zeros 64 (get_or ws q 0 / 2 ^ s)) ≡ 1
  rest-set =
      digit_add (get_or ws q 0) s (count_trailing_zeros 64 (get_or ws q 0 / 2 ^ s))
      ∙ trailing_set 64 (get_or ws q 0 / 2 ^ s) some (lt_of_le_of_lt (shr_le (get_or ws q 0) s) fits)

  pub rest_inside : s + count_trailing_zeros 64 (get_or ws q 0 / 2 ^ s) < 64
  rest_inside = go (dec_lt (s + count_trailing_zeros 64 (get_or ws q 0 / 2 ^ s)) 64)
    where
      go : Dec (s + count_trailing_zeros 64 (get_or ws q 0 / 2 ^ s) < 64) → s + count_trailing_zeros 64 (get_or ws q 0 / 2 ^ s) < 64
      go (yes l) = l
      go (no l) = absurd (omega (arith, rest-set, digit_big 64 (s + count_trailing_zeros 64 (get_or ws q 0 / 2 ^ s)) (get_or ws q 0) fits (omega arith)))

  pub next_here : (lo end r : ℕ) → lo ≡ q * 64 + s → lo ≤ end → r ≡ min end (lo + count_trailing_zeros 64 (get_or ws q 0 / 2 ^ s)) → Next (bit_at ws) lo end r
  next_here lo end r e h m = record {
    low = omega arith;
    high = omega arith;
    gap = λ k a b.
        let j : ℕ = k - lo in
        let g : k ≡ q * 64 + (s + j) = omega arith in
        rw g (bit_in ws q (s + j) (omega (arith, rest_inside)) ∙ digit_add (get_or ws q 0) s j ∙ trailing_clear 64 (get_or ws q 0 / 2 ^ s) j (omega arith));
    hit = λ l.
        let g : r ≡ q * 64 + (s + count_trailing_zeros 64 (get_or ws q 0 / 2 ^ s)) = omega arith in
        rw g (bit_in ws q (s + count_trailing_zeros 64 (get_or ws q 0 / 2 ^ s)) rest_inside ∙ rest-set);
  }

-- the same of a whole word
pub next_word : (ws : List ℕ) (q end r : ℕ) → get_or ws q 0 < 2 ^ 64 → 0 < get_or ws q 0 → q * 64 ≤ end
    → r ≡ min end (q * 64 + count_trailing_zeros 64 (get_or ws q 0))
    → Next (bit_at ws) (q * 64) end r
next_word ws q end r f h l e = next_here ws q 0 f (rw div-one h) (q * 64) end r (omega arith) l (rw div-one e)

-- what is left of a word is 0
pub gap_rest : (ws : List ℕ) (q s lo : ℕ) → lo ≡ q * 64 + s → s < 64 → get_or ws q 0 / 2 ^ s ≡ 0 → Gap (bit_at ws) lo ((q + 1) * 64)
gap_rest ws q s lo e h z k a b =
    let j : ℕ = k - lo in
    let g : k ≡ q * 64 + (s + j) = omega arith in
    rw g (bit_in ws q (s + j) (omega arith) ∙ digit_add (get_or ws q 0) s j ∙ rw z (digit_none j))

pub next_after : (f : ℕ → ℕ) (lo p end r : ℕ) → lo ≤ p → Gap f lo p → Next f p end r → Next f lo end r
next_after f lo p end r l g n = record { low = omega (arith, n.low); high = n.high; gap = gap_join f lo p r g n.gap; hit = n.hit }

-- none up to the end
pub next-none : (f : ℕ → ℕ) (lo p end : ℕ) → lo ≤ end → end ≤ p → Gap f lo p → Next f lo end end
next-none f lo p end l h g = record { low = omega arith; high = omega arith; gap = λ k a b. g k a (omega arith); hit = λ z. absurd (omega arith) }

pub gap_end : (ws : List ℕ) (lo q end : ℕ) → Gap (bit_at ws) lo (q * 64) → min (length ws) (end / 64 + 1) ≤ q → Gap (bit_at ws) lo end
gap_end ws lo q end g h k a b = go (dec_lt k (q * 64))
  where
    go : Dec (k < q * 64) → bit_at ws k ≡ 0
    go (yes l) = g k a l
    go (no l) = bit_out ws k (omega arith)

-- the lowest digit of w that is set, and `w & (w - 1)`
pub lowest_taken : (w : ℕ) → 0 < w → w < 2 ^ 64 → LowestTaken w (count_trailing_zeros 64 w) (bit_and w (w - 1))
lowest_taken w some fits = record {
  small = trailing_lt 64 w some fits;
  hit = trailing_set 64 w some fits;
  gap = λ k a b. trailing_clear 64 w k b;
  left = fun_ext (λ k. go k (ℕ_discrete k (count_trailing_zeros 64 w)));
  falls = omega (arith, and_le_r w (w - 1));
}
  where
    go : (k : ℕ) → Dec (k ≡ count_trailing_zeros 64 w) → digit (bit_and w (w - 1)) k ≡ put (count_trailing_zeros 64 w) 0 (digit w) k
    go k (yes e) = rw (e, put_at) (lowest_gone 64 w some fits)
    go k (no n) = rw (put_off _ _ _ k n) (lowest_left 64 w some fits k n)

-- the digits of what is left
module _ {w p v : ℕ} (T : LowestTaken w p v) where
  pub taken_gone : digit v p ≡ 0
  taken_gone = rw T.left (put_at p 0 (digit w))

  pub taken_other : (k : ℕ) → (k ≡ p → ⊥) → digit v k ≡ digit w k
  taken_other k n = rw T.left (put_off p 0 (digit w) k n)

pub gap_past : (ws : List ℕ) (lo p : ℕ) → length ws ≤ lo / 64 → Gap (bit_at ws) lo p
gap_past ws lo p h k a b = bit_out ws k (omega arith)
