-- Laws of the digits of a word.
--   digit_mod, digit_past
--                   those of a remainder by a power of two
--   shifted_in, shifted_out, digit_left
--                   those of a word moved up
--   digit_all       a word with none is 0
--   trailing_set, trailing_clear, trailing_lt
--                   the lowest that is set
--   less_one        of a word less one, at that digit and above it
--   lowest_gone, lowest_left
--                   of a word without it
--   or-none         the or of two words is 0 if both are
--   all-below       a table of tests, of which each holds
-- Assumes nothing.
use Rattle.std.specs.Prelude.{◌≡◌, refl, Bool, true, false, ℕ, zero, suc, ◌+◌, ◌-◌, ◌*◌, ◌/◌, ◌%◌, ◌^◌, ◌≤◌, ◌<◌, min}
use Rattle.std.proofs.Common.{sym, ap, ◌∙◌, mod-lt, pow-suc, arith, pow_pos, le-leb}
use Rattle.std.proofs.Math.Decide.{dec_lt}
use Rattle.std.specs.Int.Bits.{bit_and, bit_or, or_add_and}
use Rattle.std.proofs.lemmas.Nat.{and_le_l, and_le_r}
use Rattle.std.specs.Int.Count.{count_trailing_zeros, under}
use Rattle.std.proofs.Math.Pow.{field, mod-mod-pow}
use Rattle.std.proofs.lemmas.Bool.{lt-leb}
use Rattle.book.specs.Basics.{pick}
use Rattle.k2.specs.Bits.{digit}
use Rattle.k2.specs.DigitLaws.{shifted, digit_none, digit_zero, digit-suc, digit_and, digit_big, digit_shl}

-- of w % 2 ^ n
pub digit_mod : (n w j : ℕ) → j < n → digit (w % 2 ^ n) j ≡ digit w j
digit_mod zero w j l = absurd (omega arith)
digit_mod (suc n) w zero l =
    let e : n + 1 ≡ suc n = omega arith in
    rw (digit_zero, digit_zero) (rw e at (mod-mod-pow w n 1))
digit_mod (suc n) w (suc j) l =
    let e : n + 1 ≡ suc n = omega arith in
    let h : w % 2 ^ suc n / 2 ≡ w / 2 % 2 ^ n = rw e at (field w n 1) in
    rw (digit-suc, digit-suc, h) (digit_mod n (w / 2) j (omega arith))

pub digit_past : (n w j : ℕ) → n ≤ j → digit (w % 2 ^ n) j ≡ 0
digit_past n w j l = digit_big n j (w % 2 ^ n) (mod-lt w (pow_pos n)) l

-- moved up
pub shifted_in : (p v k : ℕ) → p ≤ k → shifted p v k ≡ digit v (k - p)
unfolding shifted
shifted_in p v k l = rw (le-leb p k l)

pub shifted_out : (p v k : ℕ) → k < p → shifted p v k ≡ 0
unfolding shifted
shifted_out p v k l = rw (lt-leb p k l)

-- of `w << k`
pub digit_left : (w k j : ℕ) → j < 64 → digit ((w * 2 ^ k) % 2 ^ 64) j ≡ shifted k w j
digit_left w k j l = digit_mod 64 (w * 2 ^ k) j l ∙ digit_shl w k j

-- a word that has no digit is 0
pub digit_all : (n w : ℕ) → w < 2 ^ n → ((j : ℕ) → j < n → digit w j ≡ 0) → w ≡ 0
digit_all zero w h d = omega arith
digit_all (suc n) w h d =
    let a : w % 2 ≡ 0 = sym (digit_zero w) ∙ d 0 (omega arith) in
    let b : w / 2 ≡ 0 = digit_all n (w / 2) (omega (arith, pow-suc 2 n)) (λ j l. sym (digit-suc w j) ∙ d (suc j) (omega arith)) in
    omega arith

-- the lowest digit that is set
pub trailing_set : (k w : ℕ) → 0 < w → w < 2 ^ k → digit w (count_trailing_zeros k w) ≡ 1
unfolding count_trailing_zeros
trailing_set zero w h l = absurd (omega arith)
trailing_set (suc k) w h l = go (w % 2) refl (trailing_set k (w / 2))
  where
    go : (d : ℕ) → w % 2 ≡ d → (0 < w / 2 → w / 2 < 2 ^ k → digit (w / 2) (count_trailing_zeros k (w / 2)) ≡ 1)
        → digit w (under d (count_trailing_zeros k (w / 2))) ≡ 1
    go zero e ih = digit-suc w (count_trailing_zeros k (w / 2)) ∙ ih (omega arith) (omega (arith, pow-suc 2 k))
    go (suc d) e ih = digit_zero w ∙ omega arith

pub trailing_clear : (k w j : ℕ) → j < count_trailing_zeros k w → digit w j ≡ 0
unfolding count_trailing_zeros
trailing_clear zero w j h = absurd (omega arith)
trailing_clear (suc k) w j h = go (w % 2) refl j h (trailing_clear k (w / 2))
  where
    go : (d : ℕ) → w % 2 ≡ d → (j : ℕ) → j < under d (count_trailing_zeros k (w / 2)) → ((i : ℕ) → i < count_trailing_zeros k (w / 2) → digit (w / 2) i ≡ 0)
        → digit w j ≡ 0
    go zero e zero h ih = digit_zero w ∙ e
    go zero e (suc j) h ih = digit-suc w j ∙ ih j (omega arith)
    go (suc d) e j h ih = absurd (omega arith)

pub trailing_lt : (k w : ℕ) → 0 < w → w < 2 ^ k → count_trailing_zeros k w < k
trailing_lt k w h l = go (dec_lt (count_trailing_zeros k w) k)
  where
    go : Dec (count_trailing_zeros k w < k) → count_trailing_zeros k w < k
    go (yes a) = a
    go (no a) = absurd (omega (arith, trailing_set k w h l, digit_big k (count_trailing_zeros k w) w l (omega arith)))

-- at the lowest digit that is set w - 1 has none, and above it those of w
pub less_one : (p w : ℕ) → digit w p ≡ 1 → ((j : ℕ) → j < p → digit w j ≡ 0) → (digit (w - 1) p ≡ 0) × ((j : ℕ) → p < j → digit (w - 1) j ≡ digit w j)
less_one zero w o n =
    let e : w % 2 ≡ 1 = sym (digit_zero w) ∙ o in
    (rw digit_zero (omega arith), λ j h. past e j h)
  where
    past : w % 2 ≡ 1 → (j : ℕ) → 0 < j → digit (w - 1) j ≡ digit w j
    past e zero h = absurd (omega arith)
    past e (suc j) h = let f : (w - 1) / 2 ≡ w / 2 = omega arith in rw (digit-suc, digit-suc, f)
less_one (suc p) w o n =
    let e : w % 2 ≡ 0 = sym (digit_zero w) ∙ n 0 (omega arith) in
    let q : digit (w / 2) p ≡ 1 = sym (digit-suc w p) ∙ o in
    let f : (w - 1) / 2 ≡ w / 2 - 1 = go (w / 2) refl e q in
    let r = less_one p (w / 2) q (λ j h. sym (digit-suc w j) ∙ n (suc j) (omega arith)) in
    (rw (digit-suc, f) r.0, λ j h. past f r.1 j h)
  where
    go : (x : ℕ) → w / 2 ≡ x → w % 2 ≡ 0 → digit x p ≡ 1 → (w - 1) / 2 ≡ x - 1
    go zero h e d = absurd (omega (arith, digit_none p))
    go (suc x) h e d = omega arith

    past : (w - 1) / 2 ≡ w / 2 - 1 → ((j : ℕ) → p < j → digit (w / 2 - 1) j ≡ digit (w / 2) j) → (j : ℕ) → suc p < j → digit (w - 1) j ≡ digit w j
    past f r zero h = absurd (omega arith)
    past f r (suc j) h = rw (digit-suc, digit-suc, f) (r j (omega arith))

-- `w & (w - 1)` is w without its lowest digit
module _ (k w : ℕ) (some : 0 < w) (fits : w < 2 ^ k) where
  pub lowest_gone : digit (bit_and w (w - 1)) (count_trailing_zeros k w) ≡ 0
  lowest_gone =
      let l = less_one (count_trailing_zeros k w) w (trailing_set k w some fits) (trailing_clear k w) in
      rw digit_and (omega (arith, l.0))

  pub lowest_left : (j : ℕ) → (j ≡ count_trailing_zeros k w → ⊥) → digit (bit_and w (w - 1)) j ≡ digit w j
  lowest_left j n = rw digit_and (go (dec_lt j (count_trailing_zeros k w)))
    where
      go : Dec (j < count_trailing_zeros k w) → min (digit w j) (digit (w - 1) j) ≡ digit w j
      go (yes h) = omega (arith, trailing_clear k w j h)
      go (no h) =
          let l = less_one (count_trailing_zeros k w) w (trailing_set k w some fits) (trailing_clear k w) in
          omega (arith, l.1 j (omega arith))

-- `|` that gives 0
pub or-none : (a b : ℕ) → bit_or a b ≡ 0 → (a ≡ 0) × (b ≡ 0)
or-none a b e = let s = or_add_and a b in (omega (arith, and_le_r a b), omega (arith, and_le_l a b))

-- ---- a table
-- a test of each number below n, computed
unfoldable pub all_below : ℕ → (ℕ → Bool) → Bool
all_below zero t = true
all_below (suc n) t = pick (t n) (all_below n t) false

pub all-below : (n : ℕ) (t : ℕ → Bool) → all_below n t ≡ true → (k : ℕ) → k < n → t k ≡ true
unfolding all_below
all-below zero t e k l = absurd (omega arith)
all-below (suc n) t e k l = go (t n) refl e (all-below n t) (dec_lt k n)
  where
    go : (b : Bool) → t n ≡ b → pick b (all_below n t) false ≡ true → (all_below n t ≡ true → (k : ℕ) → k < n → t k ≡ true) → Dec (k < n) → t k ≡ true
    go true s f ih (yes d) = ih f k d
    go true s f ih (no d) = let z : k ≡ n = omega arith in ap t z ∙ s
    go false s f ih d = let z : ◌≡◌ {A = Bool} false true = f in absurd (let y : ◌≡◌ {A = ℕ} 0 1 = cc in omega arith)
