-- Laws of `bit_at`, `ones_below` and `words_of`.
--   Bits f                f has no value but 0 and 1
--   bit_lt, bit_in, bit_out, bit_within, bit_zero, zeros_at, bit_replicate
--                         a bit of words: below 2, a digit of its word, 0 past the end and in a word of 0
--   bit_set, bit_set_off  after a word is stored: its own bits, and every other as it was
--   bit_take              the bits of a part of the words
--   bits_tell             words of the same length with the same bits are the same
--   Upto n f g            f and g agree in the first n words
--   upto_none, upto_more, upto_all
--                         words written in turn: before the first, one more, all of them
--   ones-le, ones_same, ones_most, ones_less, ones_gap, ones_more, ones_part, ones_word, ones_shl
--                         the count of ones: below its bound, of the same bits, of fewer ones, over a gap, one digit more, of a part of a word, of a whole
--                         one, of a word shifted
--   ones_cons, ones_append, ones_first
--                         the count of ones of lists of bits, joined
--   value_lt, value_digit
--                         the number of n bits: how large, and its digits
--   packed_length, packed_fits, packed_bits
--                         bits packed into n words: so many, of 64 bits, with these bits
--   words_bits, words_length, words_fit, words_tell
--                         the words of a list of bits: their bits, how many they are, that they fit, and that no other words of this length have these bits
-- Assumes nothing.
use Rattle.std.specs.Prelude.{◌≡◌, List, [], ◌∷◌, ◌++◌, ℕ, zero, suc, ◌+◌, ◌-◌, ◌*◌, ◌/◌, ◌%◌, ◌^◌, ◌≤◌, ◌<◌, length, get_or, set, take, replicate}
use Rattle.std.proofs.Math.Path.{refl, fun_ext}
use Rattle.std.proofs.Common.{sym, ap, ◌∙◌, zero-le, add-zero, zero-add, add-suc, suc-add, add_comm, mod-lt, mod-eq_of_lt, mul-div_cancel, pow-suc}
use Rattle.std.proofs.Common.{not-suc-le-zero, le_of_suc-le-suc, one-add, arith, pow_pos, get_or-set_same, get_or-set_other, get_or-take, ext_get_or}
use Rattle.std.proofs.Math.Nat.{mod-one, mul-mod_left}
use Rattle.std.proofs.Math.Decide.{dec_lt, ℕ_discrete}
use Rattle.std.specs.Int.Count.{ones}
use Rattle.std.proofs.lemmas.Nat.{ones_cat, mod-pow-add}
use Rattle.std.proofs.Math.ListN.{get_or-eq_default}
use Rattle.k2.specs.Bits.{digit, bit_at, bits_of, ones_below, from, value, packed, words_of}
use Rattle.k2.specs.DigitLaws.{digit_lt, digit_zero, digit-suc, digit_none, digits_tell}

abbrev pub Bits : (ℕ → ℕ) → Type 0
Bits f = (k : ℕ) → f k < 2

-- ---- a bit
pub bit_lt : (ws : List ℕ) (p : ℕ) → bit_at ws p < 2
unfolding bit_at
bit_lt ws p = digit_lt (get_or ws (p / 64) 0) (p % 64)

pub bit_in : (ws : List ℕ) (q k : ℕ) → k < 64 → bit_at ws (q * 64 + k) ≡ digit (get_or ws q 0) k
unfolding bit_at
bit_in ws q k h =
    let a : (q * 64 + k) / 64 ≡ q = omega arith in
    let b : (q * 64 + k) % 64 ≡ k = omega arith in
    rw (a, b)

-- past the end
pub bit_out : (ws : List ℕ) (p : ℕ) → length ws ≤ p / 64 → bit_at ws p ≡ 0
unfolding bit_at
bit_out ws p h = rw (get_or-eq_default ws 0 h) (digit_none (p % 64))

-- a bit that is set is within the words
pub bit_within : (ws : List ℕ) (p : ℕ) → (bit_at ws p ≡ 0 → ⊥) → p / 64 < length ws
bit_within ws p n = go (dec_lt (p / 64) (length ws))
  where
    go : Dec (p / 64 < length ws) → p / 64 < length ws
    go (yes l) = l
    go (no l) = absurd (n (bit_out ws p (omega arith)))

-- a word of 0
pub bit_zero : (ws : List ℕ) (p : ℕ) → get_or ws (p / 64) 0 ≡ 0 → bit_at ws p ≡ 0
unfolding bit_at
bit_zero ws p e = rw e (digit_none (p % 64))

pub zeros_at : (n i : ℕ) → get_or {A = ℕ} (replicate n 0) i 0 ≡ 0
zeros_at zero i = refl
zeros_at (suc n) zero = refl
zeros_at (suc n) (suc i) = zeros_at n i

pub bit_replicate : (n p : ℕ) → bit_at (replicate n 0) p ≡ 0
bit_replicate n p = bit_zero (replicate n 0) p (zeros_at n (p / 64))

-- ---- a store of v at word q
pub bit_set : (ws : List ℕ) (q v k : ℕ) → q < length ws → k / 64 ≡ q → bit_at (set ws q v) k ≡ digit v (k % 64)
unfolding bit_at
bit_set ws q v k h e = rw (e, get_or-set_same ws q v 0 h)

pub bit_set_off : (ws : List ℕ) (q v k : ℕ) → (k / 64 ≡ q → ⊥) → bit_at (set ws q v) k ≡ bit_at ws k
unfolding bit_at
bit_set_off ws q v k h = rw (get_or-set_other ws q (k / 64) v 0 h)

-- ---- a part

pub bit_take : (n : ℕ) (ws : List ℕ) (p : ℕ) → p / 64 < n → bit_at (take n ws) p ≡ bit_at ws p
unfolding bit_at
bit_take n ws p h = rw (get_or-take n ws (p / 64) 0 h)

-- ---- the bits tell the words
pub bits_tell : (a b : List ℕ) → length a ≡ length b → ((i : ℕ) → get_or a i 0 < 2 ^ 64) → ((i : ℕ) → get_or b i 0 < 2 ^ 64) → bit_at a ≡ bit_at b → a ≡ b
bits_tell a b l fa fb e =
    ext_get_or 0 a b l (λ i h. digits_tell 64 (get_or a i 0) (get_or b i 0) (fa i) (fb i)
    (λ k g. sym (bit_in a i k g) ∙ ap (λ (f : ℕ → ℕ). f (i * 64 + k)) e ∙ bit_in b i k g))

-- ---- words written in turn, so that the bits become g
abbrev pub Upto : ℕ → (ℕ → ℕ) → (ℕ → ℕ) → Type 0
Upto n f g = (p : ℕ) → p < n * 64 → f p ≡ g p

pub upto_none : (f g : ℕ → ℕ) → Upto 0 f g
upto_none f g p h = absurd (omega arith)

-- one word more: v holds the bits of g from i * 64 on
pub upto_more : (ws : List ℕ) (i v : ℕ) (g : ℕ → ℕ) → i < length ws → Upto i (bit_at ws) g
    → ((k : ℕ) → k < 64 → digit v k ≡ g (i * 64 + k)) → Upto (i + 1) (bit_at (set ws i v)) g
upto_more ws i v g h u d p l = go (ℕ_discrete (p / 64) i)
  where
    go : Dec (p / 64 ≡ i) → bit_at (set ws i v) p ≡ g p
    go (yes e) = let s : i * 64 + p % 64 ≡ p = omega arith in bit_set ws i v p h e ∙ d (p % 64) (omega arith) ∙ ap g s
    go (no e) = let z : (p / 64 ≡ i → ⊥) = e in bit_set_off ws i v p e ∙ u p (omega (arith, z))

-- all words
pub upto_all : (ws : List ℕ) (n : ℕ) (g : ℕ → ℕ) → length ws ≤ n → Upto n (bit_at ws) g → ((p : ℕ) → n ≤ p / 64 → g p ≡ 0) → bit_at ws ≡ g
upto_all ws n g h u z = fun_ext (λ p. less p (dec_lt p (n * 64)))
  where
    less : (p : ℕ) → Dec (p < n * 64) → bit_at ws p ≡ g p
    less p (yes l) = u p l
    less p (no l) = bit_out ws p (omega arith) ∙ sym (z p (omega arith))

-- ---- the count of ones
pub ones-le : (f : ℕ → ℕ) → Bits f → (n : ℕ) → ones_below f n ≤ n
unfolding ones_below
ones-le f b zero = zero-le
ones-le f b (suc n) = omega (arith, ones-le f b n, b n)

-- the same bits
pub ones_same : (f g : ℕ → ℕ) (n : ℕ) → ((k : ℕ) → k < n → f k ≡ g k) → ones_below f n ≡ ones_below g n
unfolding ones_below
ones_same f g zero h = refl
ones_same f g (suc n) h = omega (arith, ones_same f g n (λ k l. h k (omega arith)), h n (omega arith))

-- fewer ones
pub ones_most : (g f : ℕ → ℕ) (n : ℕ) → ((y : ℕ) → y < n → g y ≤ f y) → ones_below g n ≤ ones_below f n
unfolding ones_below
ones_most g f zero h = omega arith
ones_most g f (suc n) h = omega (arith, ones_most g f n (λ y l. h y (omega arith)), h n (omega arith))

pub ones_less : (g f : ℕ → ℕ) (n z : ℕ) → z < n → ((y : ℕ) → y < n → g y ≤ f y) → g z < f z → ones_below g n < ones_below f n
unfolding ones_below
ones_less g f zero z l h s = absurd (omega arith)
ones_less g f (suc n) z l h s = go (dec_lt z n) (λ k. ones_less g f n z k (λ y d. h y (omega arith)) s)
  where
    go : Dec (z < n) → (z < n → ones_below g n < ones_below f n) → ones_below g n + g n < ones_below f n + f n
    go (yes k) i = omega (arith, i k, h n (omega arith))
    go (no k) i =
        let e : z ≡ n = omega arith in
        let q : g n < f n = rw (← e) s in
        omega (arith, ones_most g f n (λ y d. h y (omega arith)), q)

ones_far : (f : ℕ → ℕ) (p d : ℕ) → ((k : ℕ) → p ≤ k → k < p + d → f k ≡ 0) → ones_below f (p + d) ≡ ones_below f p
unfolding ones_below
ones_far f p zero g = ap (ones_below f) (add-zero p)
ones_far f p (suc d) g =
    ap (ones_below f) (add-suc p d) ∙ rw (g (p + d) (omega arith) (omega arith), add-zero) (ones_far f p d (λ k a b. g k a (omega arith)))

-- no bit from place p to q - 1
pub ones_gap : (f : ℕ → ℕ) (p q : ℕ) → p ≤ q → ((k : ℕ) → p ≤ k → k < q → f k ≡ 0) → ones_below f q ≡ ones_below f p
ones_gap f p q l g = let e : q ≡ p + (q - p) = omega arith in ap (ones_below f) e ∙ ones_far f p (q - p) (λ k a b. g k a (omega arith))

ones_bit : (r : ℕ) → r < 2 → ones r ≡ r
unfolding ones
ones_bit zero h = refl
ones_bit (suc zero) h = refl
ones_bit (suc (suc r)) h = absurd (omega arith)

-- one digit more
pub ones_more : (w k : ℕ) → ones (w % 2 ^ suc k) ≡ ones (w % 2 ^ k) + digit w k
unfolding digit
ones_more w k =
    ap (λ (x : ℕ). ones (w % 2 ^ x)) (sym (one-add k)) ∙ ap ones (mod-pow-add w 1 k)
    ∙ ones_cat k (w / 2 ^ k % 2) (w % 2 ^ k) (mod-lt w (pow_pos k))
    ∙ ap (λ (x : ℕ). x + ones (w % 2 ^ k)) (ones_bit (w / 2 ^ k % 2) (omega arith))
    ∙ add_comm (w / 2 ^ k % 2) (ones (w % 2 ^ k))

-- the first k bits of word q
pub ones_part : (ws : List ℕ) (q k : ℕ) → k ≤ 64
    → ones_below (bit_at ws) (q * 64 + k) ≡ ones_below (bit_at ws) (q * 64) + ones (get_or ws q 0 % 2 ^ k)
unfolding ones_below ones
ones_part ws q zero h = rw (add-zero, mod-one (get_or ws q 0), add-zero)
ones_part ws q (suc k) h =
    rw (add-suc, ones_more, bit_in ws q k (omega arith))
    (omega (arith, ones_part ws q k (omega arith)))

-- the whole of word q
pub ones_word : (ws : List ℕ) (q : ℕ) → get_or ws q 0 < 2 ^ 64
    → ones_below (bit_at ws) ((q + 1) * 64) ≡ ones_below (bit_at ws) (q * 64) + ones (get_or ws q 0)
ones_word ws q h =
    let e : (q + 1) * 64 ≡ q * 64 + 64 = omega arith in
    rw (e, ones_part ws q 64 (omega arith), mod-eq_of_lt h)

-- `w << s` at a width of j + s has as many ones as w's low j digits
pub ones_shl : (w j s : ℕ) → ones ((w * 2 ^ s) % 2 ^ (j + s)) ≡ ones (w % 2 ^ j)
unfolding ones
ones_shl w j s =
    ap ones (mod-pow-add (w * 2 ^ s) j s)
    ∙ ones_cat s (w * 2 ^ s / 2 ^ s % 2 ^ j) (w * 2 ^ s % 2 ^ s) (mod-lt (w * 2 ^ s) (pow_pos s))
    ∙ rw (mul-div_cancel w (pow_pos s), mul-mod_left, add-zero)

-- of lists of bits
pub ones_cons : (x : ℕ) (xs : List ℕ) (n : ℕ) → ones_below (bits_of (x ∷ xs)) (suc n) ≡ x + ones_below (bits_of xs) n
unfolding ones_below
ones_cons x xs zero = omega arith
ones_cons x xs (suc n) = omega (arith, ones_cons x xs n)

pub ones_append : (xs ys : List ℕ) (n : ℕ) → ones_below (bits_of (xs ++ ys)) (length xs + n) ≡ ones_below (bits_of xs) (length xs) + ones_below (bits_of ys) n
ones_append [] ys n = rw zero-add (unfold ones_below in (omega arith))
ones_append (x ∷ xs) ys n = rw (suc-add, ones_cons, ones_cons) (omega (arith, ones_append xs ys n))

pub ones_first : (xs ys : List ℕ) (n : ℕ) → n ≤ length xs → ones_below (bits_of (xs ++ ys)) n ≡ ones_below (bits_of xs) n
ones_first xs ys zero h = unfold ones_below in refl
ones_first [] ys (suc n) h = absurd (not-suc-le-zero h)
ones_first (x ∷ xs) ys (suc n) h = rw (ones_cons, ones_cons x xs n, ones_first xs ys n (le_of_suc-le-suc h))

-- ---- the words of bits
pub value_lt : (n : ℕ) (f : ℕ → ℕ) → Bits f → value n f < 2 ^ n
unfolding value
value_lt zero f b = omega arith
value_lt (suc n) f b = omega (arith, value_lt n (from 1 f) (λ k. b (1 + k)), b 0, pow-suc 2 n)

pub value_digit : (n : ℕ) (f : ℕ → ℕ) (k : ℕ) → Bits f → k < n → digit (value n f) k ≡ f k
unfolding value
value_digit zero f k b l = absurd (omega arith)
value_digit (suc n) f zero b l = digit_zero (f 0 + 2 * value n (from 1 f)) ∙ omega (arith, b 0)
value_digit (suc n) f (suc k) b l =
    let e : (f 0 + 2 * value n (from 1 f)) / 2 ≡ value n (from 1 f) = omega (arith, b 0) in
    digit-suc (f 0 + 2 * value n (from 1 f)) k ∙ ap (λ (x : ℕ). digit x k) e ∙ value_digit n (from 1 f) k (λ j. b (1 + j)) (omega arith) ∙ ap f (one-add k)

pub packed_length : (n : ℕ) (f : ℕ → ℕ) → length (packed n f) ≡ n
unfolding packed
packed_length zero f = refl
packed_length (suc n) f = ap suc (packed_length n (from 64 f))

pub packed_fits : (n : ℕ) (f : ℕ → ℕ) → Bits f → (i : ℕ) → get_or (packed n f) i 0 < 2 ^ 64
unfolding packed
packed_fits zero f b i = omega arith
packed_fits (suc n) f b zero = value_lt 64 f b
packed_fits (suc n) f b (suc i) = packed_fits n (from 64 f) (λ j. b (64 + j)) i

pub packed_bits : (n : ℕ) (f : ℕ → ℕ) (p : ℕ) → Bits f → p < n * 64 → bit_at (packed n f) p ≡ f p
unfolding packed bit_at
packed_bits zero f p b l = absurd (omega arith)
packed_bits (suc n) f p b l = go (packed_bits n (from 64 f) (p - 64) (λ j. b (64 + j))) (dec_lt p 64)
  where
    go : (p - 64 < n * 64 → digit (get_or (packed n (from 64 f)) ((p - 64) / 64) 0) ((p - 64) % 64) ≡ f (64 + (p - 64)))
        → Dec (p < 64) → digit (get_or (value 64 f ∷ packed n (from 64 f)) (p / 64) 0) (p % 64) ≡ f p
    go ih (yes g) =
        let a : p / 64 ≡ 0 = omega arith in
        let c : p % 64 ≡ p = omega arith in
        rw (a, c) (value_digit 64 f p b g)
    go ih (no g) =
        let a : p / 64 ≡ suc ((p - 64) / 64) = omega arith in
        let c : p % 64 ≡ (p - 64) % 64 = omega arith in
        let d : 64 + (p - 64) ≡ p = omega arith in
        rw (a, c) (ih (omega arith) ∙ ap f d)

pub words_bits : (bs : List ℕ) → Bits (bits_of bs) → bit_at (words_of bs) ≡ bits_of bs
unfolding words_of
words_bits bs b = fun_ext (λ p. go p (dec_lt p ((length bs + 63) / 64 * 64)))
  where
    N : ℕ
    N = (length bs + 63) / 64

    go : (p : ℕ) → Dec (p < N * 64) → bit_at (packed N (bits_of bs)) p ≡ bits_of bs p
    go p (yes l) = packed_bits N (bits_of bs) p b l
    go p (no l) =
        bit_out (packed N (bits_of bs)) p (rw (packed_length N (bits_of bs)) (omega arith)) ∙ sym (get_or-eq_default bs 0 (omega arith))

pub words_length : (bs : List ℕ) → length (words_of bs) ≡ (length bs + 63) / 64
unfolding words_of
words_length bs = packed_length ((length bs + 63) / 64) (bits_of bs)

pub words_fit : (bs : List ℕ) → Bits (bits_of bs) → (i : ℕ) → get_or (words_of bs) i 0 < 2 ^ 64
unfolding words_of
words_fit bs b = packed_fits ((length bs + 63) / 64) (bits_of bs) b

-- no other words of this length have these bits
pub words_tell : (ws bs : List ℕ) → Bits (bits_of bs) → ((i : ℕ) → get_or ws i 0 < 2 ^ 64)
    → length ws ≡ (length bs + 63) / 64 → bit_at ws ≡ bits_of bs → ws ≡ words_of bs
words_tell ws bs b f l e =
    bits_tell ws (words_of bs) (l ∙ sym (words_length bs)) f (words_fit bs b) (e ∙ sym (words_bits bs b))
