-- Laws of what `together` finds, of the loop of `block`, and of the stores of `or_word` and `set_four`.
--   false_absurd, nil_of  false is not true; no words are the empty list
--   or_more, or_digits, byte_digit
--                         several words at once: where their `|` is 0, or has a digit or a byte of 0, so has each of them
--   Bytes ws i k r v      v has byte k of r words, 16 apart from word i on, one above the other
--   bytes_none, bytes_more, bytes_all
--                         the loop of `block`: no row, one more, all eight
--   or_word               `or_word`: the lower digits go to the word of p, the others to the next
--   or_short              `or_two`: digits that stand in one word
--   set-four              `set_four`
-- Assumes nothing.
use mathlib.Core.Path.{◌≡◌, refl, sym, ap, ap₂, ◌∙◌, fun_ext}
use mathlib.Core.Bool.{true, false}
use mathlib.Core.List.{List, [], ◌∷◌}
use Prim.Native.Nat.{ℕ, zero, suc, ◌+◌, ◌-◌, ◌*◌, ◌/◌, ◌%◌, ◌^◌, ◌≤◌, ◌<◌, min, max}
use native.Mathlib.Nat.{mod-lt}
use native.Mathlib.Decide.{dec_lt, ℕ_discrete}
use native.Mathlib.Omega.{arith}
use lib.Bits.{bit_and, bit_or}
use lib.Dec.{eqb, ltb}
use lib.ListN.{length, get_or, set, length-set}
use lib.Seq.{get_or-set_other}
use lib.Pow.{pow_pos, shr-shr}
use borrow.Author.Tests.{eq-eqb, ne_eqb, lt-ltb, le-ltb}
use Rattle.book.specs.Basics.{pick}
use Rattle.k2.specs.Bits.{digit, bit_at}
use Rattle.k2.specs.DigitLaws.{shifted, digit_lt, digit_none, digit_or, digit_and, digit_not, digit_big, digit_add}
use Rattle.k2.specs.BitLaws.{bit_set, bit_set_off}
use Rattle.k2.specs.WordLaws.{digit_mod, digit_past, digit_left, shifted_in, shifted_out, or-none}
use Rattle.bits.specs.BitSets.{either}
use Rattle.packing.specs.Image.{set_four}

-- false is not true
pub false_absurd : {A : Type 0} → false ≡ true → A
false_absurd e = absurd (let y : ◌≡◌ {A = ℕ} 0 1 = cc in omega arith)

-- no words
pub nil_of : (ws : List ℕ) → length ws ≡ 0 → ws ≡ []
nil_of [] e = refl
nil_of (w ∷ ws) e = absurd (omega arith)

-- ---- several words at once
pub or_more : (x : ℕ → ℕ) (w k : ℕ) → (w ≡ 0 → (j : ℕ) → j < k → x j ≡ 0) → bit_or w (x k) ≡ 0 → (j : ℕ) → j < k + 1 → x j ≡ 0
or_more x w k ih e j l = go (or-none w (x k) e) (dec_lt j k)
  where
    go : (w ≡ 0) × (x k ≡ 0) → Dec (j < k) → x j ≡ 0
    go b (yes g) = ih b.0 j g
    go b (no g) = let z : j ≡ k = omega arith in ap x z ∙ b.1

pub or_digits : (x : ℕ → ℕ) (w k : ℕ) → ((d j : ℕ) → j < k → digit w d ≡ 0 → digit (x j) d ≡ 0)
    → (d j : ℕ) → j < k + 1 → digit (bit_or w (x k)) d ≡ 0 → digit (x j) d ≡ 0
or_digits x w k ih d j l e = go (dec_lt j k)
  where
    m : max (digit w d) (digit (x k) d) ≡ 0
    m = sym (digit_or w (x k) d) ∙ e

    go : Dec (j < k) → digit (x j) d ≡ 0
    go (yes g) = ih d j g (omega (arith, m))
    go (no g) = let z : j ≡ k = omega arith in let y : digit (x k) d ≡ 0 = omega (arith, m) in ap (λ (t : ℕ). digit (x t) d) z ∙ y

-- a byte of 0
pub byte_digit : (w p t : ℕ) → w / 2 ^ p % 256 ≡ 0 → t < 8 → digit w (p + t) ≡ 0
byte_digit w p t z l = digit_add w p t ∙ sym (digit_mod 8 (w / 2 ^ p) t l) ∙ ap (λ (v : ℕ). digit v t) z ∙ digit_none t

-- ---- block: after r rows, their bytes
abbrev pub Bytes : List ℕ → ℕ → ℕ → ℕ → ℕ → Type 0
Bytes ws i k r v = (j : ℕ) → j < 64 → digit v j ≡ pick (ltb j (8 * r)) (digit (get_or ws (i + 16 * (j / 8)) 0) (8 * k + j % 8)) 0

pub bytes_none : (ws : List ℕ) (i k : ℕ) → Bytes ws i k 0 0
bytes_none ws i k j l = digit_none j ∙ sym (rw (le-ltb j (8 * 0) (omega arith)))

pub bytes_more : (ws : List ℕ) (i k r v : ℕ) → r < 8 → Bytes ws i k r v
    → Bytes ws i k (r + 1) (bit_or v ((get_or ws (i + 16 * r) 0 / 2 ^ (8 * k) % 256 * 2 ^ (8 * r)) % 2 ^ 64))
bytes_more ws i k r v rl b j l =
    rw (digit_or, digit_left (x / 2 ^ (8 * k) % 256) (8 * r) j l, b j l) (go (dec_lt j (8 * r)) (dec_lt j (8 * (r + 1))))
  where
    x : ℕ
    x = get_or ws (i + 16 * r) 0

    goal : ℕ
    goal = digit (get_or ws (i + 16 * (j / 8)) 0) (8 * k + j % 8)

    y : ℕ
    y = x / 2 ^ (8 * k) % 256

    go : Dec (j < 8 * r) → Dec (j < 8 * (r + 1)) → max (pick (ltb j (8 * r)) goal 0) (shifted (8 * r) y j) ≡ pick (ltb j (8 * (r + 1))) goal 0
    go (yes a) c = rw (lt-ltb j (8 * r) a, shifted_out (8 * r) y j a, lt-ltb j (8 * (r + 1)) (omega arith)) (omega arith)
    go (no a) (yes c) =
        let q : r ≡ j / 8 = omega arith in
        let d : j - 8 * r ≡ j % 8 = omega arith in
        let e : digit y (j % 8) ≡ goal =
        digit_mod 8 (x / 2 ^ (8 * k)) (j % 8) (omega arith) ∙ sym (digit_add x (8 * k) (j % 8))
        ∙ ap (λ (t : ℕ). digit (get_or ws (i + 16 * t) 0) (8 * k + j % 8)) q in
        rw (le-ltb j (8 * r) (omega arith), shifted_in (8 * r) y j (omega arith), lt-ltb j (8 * (r + 1)) c, d) (omega arith)
    go (no a) (no c) =
        let e : digit y (j - 8 * r) ≡ 0 = digit_past 8 (x / 2 ^ (8 * k)) (j - 8 * r) (omega arith) in
        rw (le-ltb j (8 * r) (omega arith), shifted_in (8 * r) y j (omega arith), le-ltb j (8 * (r + 1)) (omega arith)) (omega arith)

pub bytes_all : (ws : List ℕ) (i k v : ℕ) → Bytes ws i k 8 v → (j : ℕ) → j < 64 → digit v j ≡ digit (get_or ws (i + 16 * (j / 8)) 0) (8 * k + j % 8)
bytes_all ws i k v b j l = b j l ∙ rw (lt-ltb j (8 * 8) (omega arith))

-- ---- or_word: the lower digits go to the word of p, the others to the next
module _ (ws : List ℕ) (p v : ℕ) (vl : v < 2 ^ 64) (h : p / 64 + 1 < length ws) where
  abbrev q : ℕ
  q = p / 64

  abbrev s : ℕ
  s = p % 64

  abbrev first : List ℕ
  first = set ws q (bit_or (get_or ws q 0) ((v * 2 ^ s) % 2 ^ 64))

  abbrev both : List ℕ
  both = set first (q + 1) (bit_or (get_or first (q + 1) 0) (v / 2 ^ 1 / 2 ^ (63 - s)))

  first_length : length first ≡ length ws
  first_length = length-set ws q (bit_or (get_or ws q 0) ((v * 2 ^ s) % 2 ^ 64))

  abbrev high : ℕ
  high = v / 2 ^ 1 / 2 ^ (63 - s)

  high_digit : (j : ℕ) → digit high j ≡ digit v (64 - s + j)
  high_digit j =
      let e : 1 + (63 - s) ≡ 64 - s = omega arith in
      rw (shr-shr v 1 (63 - s), e) (sym (digit_add v (64 - s) j))

  pub or_word : bit_at both ≡ either (bit_at ws) (shifted p v)
  unfolding either bit_at
  or_word = fun_ext (λ k. go k (ℕ_discrete (k / 64) (q + 1)) (ℕ_discrete (k / 64) q))
    where
      go : (k : ℕ) → Dec (k / 64 ≡ q + 1) → Dec (k / 64 ≡ q) → bit_at both k ≡ max (bit_at ws k) (shifted p v k)
      go k (yes a) b =
          let d : 64 - s + k % 64 ≡ k - p = omega arith in
          bit_set first (q + 1) (bit_or (get_or first (q + 1) 0) high) k (rw first_length h) a
          ∙ digit_or (get_or first (q + 1) 0) high (k % 64)
          ∙ rw (
            get_or-set_other ws q (q + 1) (bit_or (get_or ws q 0) ((v * 2 ^ s) % 2 ^ 64)) 0 (λ x. omega arith),
            high_digit (k % 64),
            d,
            shifted_in p v k (omega arith),
            a,
          ) refl
      go k (no a) (yes b) =
          bit_set_off first (q + 1) (bit_or (get_or first (q + 1) 0) high) k a
          ∙ bit_set ws q (bit_or (get_or ws q 0) ((v * 2 ^ s) % 2 ^ 64)) k (omega arith) b
          ∙ digit_or (get_or ws q 0) ((v * 2 ^ s) % 2 ^ 64) (k % 64)
          ∙ ap₂ max (ap (λ (x : ℕ). digit (get_or ws x 0) (k % 64)) (sym b)) (digit_left v s (k % 64) (omega arith) ∙ moved k b (dec_lt k p))
        where
          moved : (k : ℕ) → k / 64 ≡ q → Dec (k < p) → shifted s v (k % 64) ≡ shifted p v k
          moved k b (yes l) = shifted_out s v (k % 64) (omega arith) ∙ sym (shifted_out p v k l)
          moved k b (no l) =
              let d : k % 64 - s ≡ k - p = omega arith in
              shifted_in s v (k % 64) (omega arith) ∙ ap (digit v) d ∙ sym (shifted_in p v k (omega arith))
      go k (no a) (no b) =
          bit_set_off first (q + 1) (bit_or (get_or first (q + 1) 0) high) k a
          ∙ bit_set_off ws q (bit_or (get_or ws q 0) ((v * 2 ^ s) % 2 ^ 64)) k b
          ∙ rw (off (dec_lt k p)) (omega arith)
        where
          off : Dec (k < p) → shifted p v k ≡ 0
          off (yes l) = shifted_out p v k l
          off (no l) = shifted_in p v k (omega arith) ∙ digit_big 64 (k - p) v vl (omega (arith, a, b))

-- ---- or_two: digits that stand in one word
pub or_short : (ws : List ℕ) (p v n : ℕ) → p % 64 + n ≤ 64 → v < 2 ^ n → p / 64 < length ws
    → bit_at (set ws (p / 64) (bit_or (get_or ws (p / 64) 0) ((v * 2 ^ (p % 64)) % 2 ^ 64))) ≡ either (bit_at ws) (shifted p v)
unfolding either
or_short ws p v n f vl h = fun_ext (λ k. go k (ℕ_discrete (k / 64) (p / 64)))
  where
    r : ℕ
    r = p % 64

    far : (k : ℕ) → p + n ≤ k → shifted p v k ≡ 0
    far k l = shifted_in p v k (omega arith) ∙ digit_big n (k - p) v vl (omega arith)

    moved : (k : ℕ) → k / 64 ≡ p / 64 → Dec (k < p) → shifted r v (k % 64) ≡ shifted p v k
    moved k e (yes l) = shifted_out r v (k % 64) (omega arith) ∙ sym (shifted_out p v k l)
    moved k e (no l) =
        let d : k % 64 - r ≡ k - p = omega arith in
        shifted_in r v (k % 64) (omega arith) ∙ ap (digit v) d ∙ sym (shifted_in p v k (omega arith))

    off : (k : ℕ) → (k / 64 ≡ p / 64 → ⊥) → Dec (k < p) → shifted p v k ≡ 0
    off k e (yes l) = shifted_out p v k l
    off k e (no l) = far k (omega (arith, e))

    go : (k : ℕ) → Dec (k / 64 ≡ p / 64) → bit_at (set ws (p / 64) (bit_or (get_or ws (p / 64) 0) ((v * 2 ^ (p % 64)) % 2 ^ 64))) k
        ≡ max (bit_at ws k) (shifted p v k)
    go k (yes e) =
        bit_set ws (p / 64) (bit_or (get_or ws (p / 64) 0) ((v * 2 ^ r) % 2 ^ 64)) k h e ∙ digit_or (get_or ws (p / 64) 0) ((v * 2 ^ r) % 2 ^ 64) (k % 64)
        ∙ ap₂ max (unfold bit_at in (rw e refl)) (digit_left v r (k % 64) (omega arith) ∙ moved k e (dec_lt k p))
    go k (no e) = bit_set_off ws (p / 64) (bit_or (get_or ws (p / 64) 0) ((v * 2 ^ r) % 2 ^ 64)) k e ∙ rw (off k e (dec_lt k p)) (omega arith)

-- ---- set_four
fifteen : (j : ℕ) → j < 4 → digit 15 j ≡ 1
unfolding digit
fifteen zero l = refl
fifteen (suc zero) l = refl
fifteen (suc (suc zero)) l = refl
fifteen (suc (suc (suc zero))) l = refl
fifteen (suc (suc (suc (suc j)))) l = absurd (omega arith)

module _ (ws : List ℕ) (g v : ℕ) (vl : v < 16) (h : g / 16 < length ws) where
  abbrev t : ℕ
  t = 4 * (g % 16)

  abbrev w : ℕ
  w = get_or ws (g / 16) 0

  abbrev four : ℕ
  four = bit_or (bit_and w ((2 ^ 64 - 1) - (15 * 2 ^ t) % 2 ^ 64)) ((v * 2 ^ t) % 2 ^ 64)

  four_digit : (j : ℕ) → j < 64 → digit four j ≡ max (min (digit w j) (1 - shifted t 15 j)) (shifted t v j)
  four_digit j l =
      rw (digit_or, digit_and, digit_not 64 j ((15 * 2 ^ t) % 2 ^ 64) (mod-lt (15 * 2 ^ t) (pow_pos 64)) l, digit_left 15 t j l, digit_left v t j l) refl

  -- four digits from t on
  four_clear : (u : ℕ) → u < 2 ^ 4 → (k : ℕ) → k / 64 ≡ g / 16 → (k / 4 ≡ g → ⊥) → shifted t u (k % 64) ≡ 0
  four_clear u ul k b a = by (dec_lt (k % 64) t)
    where
      by : Dec (k % 64 < t) → shifted t u (k % 64) ≡ 0
      by (yes l) = shifted_out t u (k % 64) l
      by (no l) = shifted_in t u (k % 64) (omega arith) ∙ digit_big 4 (k % 64 - t) u ul (omega (arith, a))

  pub set-four : bit_at (set ws (g / 16) four) ≡ set_four g v (bit_at ws)
  unfolding set_four
  set-four = fun_ext (λ k. go k (ℕ_discrete (k / 4) g) (ℕ_discrete (k / 64) (g / 16)))
    where
      go : (k : ℕ) → Dec (k / 4 ≡ g) → Dec (k / 64 ≡ g / 16) → bit_at (set ws (g / 16) four) k ≡ pick (eqb (k / 4) g) (digit v (k % 4)) (bit_at ws k)
      go k (yes a) b =
          let c : k / 64 ≡ g / 16 = omega arith in
          let d : k % 64 - t ≡ k % 4 = omega arith in
          bit_set ws (g / 16) four k h c ∙ four_digit (k % 64) (omega arith)
          ∙ rw (shifted_in t 15 (k % 64) (omega arith), shifted_in t v (k % 64) (omega arith), d, fifteen (k % 4) (omega arith), eq-eqb (k / 4) g a)
          (omega arith)
      go k (no a) (yes b) =
          bit_set ws (g / 16) four k h b ∙ four_digit (k % 64) (omega arith)
          ∙ rw (four_clear 15 (omega arith) k b a, four_clear v vl k b a, ne_eqb (k / 4) g a)
          (unfold bit_at in (rw b (omega (arith, digit_lt (get_or ws (g / 16) 0) (k % 64)))))
      go k (no a) (no b) = bit_set_off ws (g / 16) four k b ∙ sym (rw (ne_eqb (k / 4) g a))
