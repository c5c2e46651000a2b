-- Laws of `digit`: a word's bits after the language's operators.
--   shifted p v           the digits of v from place p on
--   digit_lt, digit_zero, digit-suc, digit_none
--                         a digit is 0 or 1; the lowest, the others, and those of 0
--   one_shl, one_shl_32   `1 << r` at a width of 64, and of 32, is a power of two
--   digit_or, digit_and, digit_not
--                         the digits of `|`, `&` and `!`
--   digit_pow, digit_big  a power of two has one digit set; above the highest digit all are 0
--   digit_add, digit_shl  a digit further up, and the digits of `v << r`
--   digit_four            four digits as a number
--   digits_tell           the digits of a number tell it
-- Assumes nothing.
use Rattle.std.specs.Prelude.{◌≡◌, ℕ, zero, suc, ◌+◌, ◌-◌, ◌*◌, ◌/◌, ◌%◌, ◌^◌, ◌≤◌, ◌<◌, min, max, eqb, leb}
use Rattle.std.proofs.Common.{sym, ◌∙◌, pow-suc, div-one, mul-div_cancel, zero-lt-suc, one-mul, mul-one, lt_of_lt_of_le, arith, lit<, shl_exact, shr-shr}
use Rattle.std.proofs.Common.{pow_mono}
use Rattle.std.proofs.Math.Nat.{div-div-eq-div-mul, pow-succ', zero-div, mul-mod_left, div-eq_of_lt, sub-zero, suc-sub-suc}
use Rattle.std.specs.Int.Bits.{bit_and, bit_or, and_step, or_step, shifted_half, shifted_even}
use Rattle.std.proofs.lemmas.Nat.{and_shr, or_shr}
use Rattle.std.proofs.Math.Dec.{leb-zero, leb-suc-zero, leb-suc-suc, eqb-zero-suc, eqb-suc-zero, eqb-suc-suc}
use Rattle.book.specs.Basics.{pick}
use Rattle.k2.specs.Bits.{digit}

-- the digits of v from place p on
unfoldable pub shifted : ℕ → ℕ → ℕ → ℕ
shifted p v k = pick (leb p k) (digit v (k - p)) 0

pub digit_lt : (w k : ℕ) → digit w k < 2
unfolding digit
digit_lt w k = omega arith

-- the lowest digit, and the others
pub digit_zero : (w : ℕ) → digit w 0 ≡ w % 2
unfolding digit
digit_zero w = rw div-one

pub digit-suc : (w k : ℕ) → digit w (suc k) ≡ digit (w / 2) k
unfolding digit
digit-suc w k = rw (pow-succ', ← div-div-eq-div-mul)

pub digit_none : (k : ℕ) → digit 0 k ≡ 0
unfolding digit
digit_none k = rw zero-div

-- `1 << r` at a width of 64
pub one_shl : (r : ℕ) → r < 64 → (1 * 2 ^ r) % 2 ^ 64 ≡ 2 ^ r
one_shl r h = shl_exact 1 r 64 (lit< tt) (omega arith) ∙ one-mul (2 ^ r)

pub one_shl_32 : (r : ℕ) → r < 32 → (1 * 2 ^ r) % 2 ^ 32 ≡ 2 ^ r
one_shl_32 r h = shl_exact 1 r 32 (lit< tt) (omega arith) ∙ one-mul (2 ^ r)

-- ---- the operators
low : (x y : ℕ) → y < 2 → (x * 2 + y) % 2 ≡ y
low x y h = omega arith

pub digit_or : (a b k : ℕ) → digit (bit_or a b) k ≡ max (digit a k) (digit b k)
unfolding digit
digit_or a b k = rw (or_shr, or_step) (low _ _ (omega arith))

pub digit_and : (a b k : ℕ) → digit (bit_and a b) k ≡ min (digit a k) (digit b k)
unfolding digit
digit_and a b k = rw (and_shr, and_step) (low _ _ (omega arith))

-- `!a` at a width of n
pub digit_not : (n k a : ℕ) → a < 2 ^ n → k < n → digit ((2 ^ n - 1) - a) k ≡ 1 - digit a k
digit_not zero k a h l = absurd (omega arith)
digit_not (suc n) zero a h l = rw (digit_zero, digit_zero, pow-suc) (omega (arith, pow-suc 2 n))
digit_not (suc n) (suc k) a h l =
    let half : ((2 ^ suc n - 1) - a) / 2 ≡ (2 ^ n - 1) - a / 2 = omega (arith, pow-suc 2 n) in
    rw (digit-suc, digit-suc, half) (digit_not n k (a / 2) (omega (arith, pow-suc 2 n)) (omega arith))

-- a power of two has one digit set
pub digit_pow : (j k : ℕ) → digit (2 ^ j) k ≡ pick (eqb k j) 1 0
digit_pow zero zero = digit_zero 1
digit_pow zero (suc k) = rw (digit-suc, eqb-suc-zero) (digit_none k)
digit_pow (suc j) zero = rw (digit_zero, eqb-zero-suc, pow-suc, mul-mod_left)
digit_pow (suc j) (suc k) = rw (digit-suc, eqb-suc-suc, pow-suc, mul-div_cancel (2 ^ j) (zero-lt-suc 1)) (digit_pow j k)

-- above the highest digit
pub digit_big : (n k a : ℕ) → a < 2 ^ n → n ≤ k → digit a k ≡ 0
unfolding digit
digit_big n k a h l = rw (div-eq_of_lt (lt_of_lt_of_le h (pow_mono l)))

pub digit_add : (w r j : ℕ) → digit w (r + j) ≡ digit (w / 2 ^ r) j
unfolding digit
digit_add w r j = rw (shr-shr)

-- `v << r`, where nothing is shifted out
pub digit_shl : (v r k : ℕ) → digit (v * 2 ^ r) k ≡ shifted r v k
unfolding shifted
digit_shl v zero k = rw (leb-zero, mul-one, sub-zero)
digit_shl v (suc r) zero = rw (digit_zero, leb-suc-zero, shifted_even)
digit_shl v (suc r) (suc k) = rw (digit-suc, leb-suc-suc, suc-sub-suc, shifted_half) (unfold shifted in (digit_shl v r k))

-- four digits as a number
four_of : (x : ℕ) → x % 2 + 2 * (x / 2 % 2) + 4 * (x / 2 / 2 % 2) + 8 * (x / 2 / 2 / 2 % 2) ≡ x % 16
four_of x =
    let e : x / 2 / 2 / 2 / 2 ≡ x / 16 = rw (div-div-eq-div-mul x 2 2, div-div-eq-div-mul x 4 2, div-div-eq-div-mul x 8 2) in
    omega arith

pub digit_four : (w r : ℕ) → digit w r + 2 * digit w (r + 1) + 4 * digit w (r + 2) + 8 * digit w (r + 3) ≡ w / 2 ^ r % 16
digit_four w r =
    let x : ℕ = w / 2 ^ r in
    let d₁ : digit w (r + 1) ≡ x / 2 % 2 = digit_add w r 1 ∙ digit-suc x 0 ∙ digit_zero (x / 2) in
    let d₂ : digit w (r + 2) ≡ x / 2 / 2 % 2 = digit_add w r 2 ∙ digit-suc x 1 ∙ digit-suc (x / 2) 0 ∙ digit_zero (x / 2 / 2) in
    let d₃ : digit w (r + 3) ≡ x / 2 / 2 / 2 % 2 =
    digit_add w r 3 ∙ digit-suc x 2 ∙ digit-suc (x / 2) 1 ∙ digit-suc (x / 2 / 2) 0 ∙ digit_zero (x / 2 / 2 / 2) in
    rw (d₁, d₂, d₃) (unfold digit in (four_of x))

-- the digits of a number tell it
pub digits_tell : (n a b : ℕ) → a < 2 ^ n → b < 2 ^ n → ((k : ℕ) → k < n → digit a k ≡ digit b k) → a ≡ b
digits_tell zero a b ha hb d = omega arith
digits_tell (suc n) a b ha hb d =
    let low : a % 2 ≡ b % 2 = sym (digit_zero a) ∙ d 0 (omega arith) ∙ digit_zero b in
    let high : a / 2 ≡ b / 2 =
    digits_tell n (a / 2) (b / 2) (omega (arith, pow-suc 2 n)) (omega (arith, pow-suc 2 n))
    (λ k h. sym (digit-suc a k) ∙ d (suc k) (omega arith) ∙ digit-suc b k) in
    omega arith
