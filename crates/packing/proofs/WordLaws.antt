-- Laws of what `any_of_eight`, `block`, `swap`, `shuffle` and `summary` make of words.
--   swap_law             `swap`: which bit comes where
--   mask₁, mask₂, mask₃  the masks of the three exchanges of `shuffle`
--   apart_first, apart_second, apart_third
--                        the bits of each mask and those that they change places with are apart
--   shuffle_law          three exchanges bring the bits of rows into the order of a tree's last level
--   summary_law          `summary`: bit j of it tells whether the four bits of group j are not all 0
-- Assumes nothing.
use mathlib.Core.Path.{◌≡◌, refl, sym, ap, ◌∙◌}
use mathlib.Core.Bool.{Bool, true, false}
use Prim.Native.Nat.{ℕ, zero, suc, ◌+◌, ◌-◌, ◌*◌, ◌/◌, ◌%◌, ◌^◌, ◌≤◌, ◌<◌, min, max}
use native.Mathlib.Nat.{mod-lt}
use native.Mathlib.Decide.{dec_lt}
use native.Mathlib.Omega.{arith}
use lib.Bits.{bit_and, bit_or, or_lt}
use lib.Dec.{eqb, leb, ltb}
use lib.Pow.{pow_pos}
use borrow.Author.Tests.{eqb-true, le-leb, lt-leb, lt-ltb, le-ltb, ltb-true}
use Rattle.book.specs.Basics.{pick}
use Rattle.k2.specs.Bits.{digit}
use Rattle.k2.specs.DigitLaws.{shifted, digit_lt, digit_or, digit_and, digit_not, digit_big, digit_add}
use Rattle.k2.specs.WordLaws.{digit_left, all_below, all-below}
use Rattle.k2.specs.Heap.{row_at, column_at, any_four}
use Rattle.packing.specs.Image.{swap_place}

-- ---- swap
module _ (w k m : ℕ) (wl : w < 2 ^ 64) (ml : m < 2 ^ 64) (apart : (j : ℕ) → digit m j ≡ 1 → (j + k < 64) × (digit m (j + k) ≡ 0)) where
  abbrev low : ℕ
  low = bit_or m ((m * 2 ^ k) % 2 ^ 64)

  abbrev swapped : ℕ
  swapped = bit_or (bit_or (bit_and w ((2 ^ 64 - 1) - low)) ((bit_and w m * 2 ^ k) % 2 ^ 64)) (bit_and (w / 2 ^ k) m)

  low_lt : low < 2 ^ 64
  low_lt = or_lt 64 m ((m * 2 ^ k) % 2 ^ 64) ml (mod-lt (m * 2 ^ k) (pow_pos 64))

  -- digit j by those of w and m
  swapped_digit : (j : ℕ) → j < 64
      → digit swapped j
      ≡ max (max (min (digit w j) (1 - max (digit m j) (shifted k m j))) (shifted k (bit_and w m) j)) (min (digit w (k + j)) (digit m j))
  swapped_digit j l =
      rw (digit_or, digit_or, digit_and, digit_not 64 j low low_lt l, digit_or, digit_left m k j l, digit_left (bit_and w m) k j l, digit_and, ← digit_add) refl

  pub swap_law : (j : ℕ) → j < 64 → digit swapped j ≡ digit w (swap_place k m j)
  unfolding swap_place shifted
  swap_law j l = swapped_digit j l ∙ by (digit m j) refl (digit_lt m j) (dec_lt j k)
    where
      d : ℕ → ℕ
      d = digit w

      by : (b : ℕ) → digit m j ≡ b → b < 2 → Dec (j < k)
          → max (max (min (d j) (1 - max (digit m j) (pick (leb k j) (digit m (j - k)) 0))) (pick (leb k j) (digit (bit_and w m) (j - k)) 0))
          (min (d (k + j)) (digit m j))
          ≡ d (pick (eqb (digit m j) 1) (j + k) (pick (leb k j) (pick (eqb (digit m (j - k)) 1) (j - k) j) j))
      by zero e g (yes s) = rw (e, lt-leb k j s) (omega (arith, digit_lt w j))
      by zero e g (no s) = rw (e, le-leb k j (omega arith), digit_and w m (j - k)) (inner (digit m (j - k)) refl (digit_lt m (j - k)))
        where
          inner : (b : ℕ) → digit m (j - k) ≡ b → b < 2
              → max (max (min (d j) (1 - max 0 (digit m (j - k)))) (min (digit w (j - k)) (digit m (j - k)))) (min (d (k + j)) 0)
              ≡ d (pick (eqb (digit m (j - k)) 1) (j - k) j)
          inner zero i h = rw i (omega (arith, digit_lt w j))
          inner (suc zero) i h = rw i (omega (arith, digit_lt w (j - k)))
          inner (suc (suc b)) i h = absurd (omega arith)
      by (suc zero) e g s = rw (e, shut s) (let c : k + j ≡ j + k = omega arith in rw c (omega (arith, digit_lt w (j + k), digit_lt w j, part s)))
        where
          shut : Dec (j < k) → pick (leb k j) (digit (bit_and w m) (j - k)) 0 ≡ 0
          shut (yes s) = rw (lt-leb k j s)
          shut (no s) =
              rw (le-leb k j (omega arith), digit_and w m (j - k)) (under (digit m (j - k)) refl (digit_lt m (j - k)))
            where
              under : (b : ℕ) → digit m (j - k) ≡ b → b < 2 → min (digit w (j - k)) (digit m (j - k)) ≡ 0
              under zero i h = rw i (omega arith)
              under (suc zero) i h = let c : j - k + k ≡ j = omega arith in absurd (omega (arith, rw c at (apart (j - k) i).1))
              under (suc (suc b)) i h = absurd (omega arith)

          part : Dec (j < k) → pick (leb k j) (digit m (j - k)) 0 < 2
          part (yes s) = rw (lt-leb k j s) (omega arith)
          part (no s) = rw (le-leb k j (omega arith)) (digit_lt m (j - k))
      by (suc (suc b)) e g s = absurd (omega arith)

-- a mask whose bits and those k places above them are apart, by a table
unfoldable apart_at : ℕ → ℕ → ℕ → Bool
apart_at k m j = pick (eqb (digit m j) 1) (pick (ltb (j + k) 64) (eqb (digit m (j + k)) 0) false) true

mask_apart : (k m : ℕ) → m < 2 ^ 64 → all_below 64 (apart_at k m) ≡ true → (j : ℕ) → digit m j ≡ 1 → (j + k < 64) × (digit m (j + k) ≡ 0)
unfolding apart_at
mask_apart k m ml t j e = go (dec_lt j 64)
  where
    by : (b : Bool) → ltb (j + k) 64 ≡ b → pick b (eqb (digit m (j + k)) 0) false ≡ true → (j + k < 64) × (digit m (j + k) ≡ 0)
    by true s r = (ltb-true (j + k) 64 s, eqb-true (digit m (j + k)) 0 r)
    by false s r = absurd (let y : ◌≡◌ {A = ℕ} 0 1 = cc in omega arith)

    go : Dec (j < 64) → (j + k < 64) × (digit m (j + k) ≡ 0)
    go (yes l) = by (ltb (j + k) 64) refl (rw e at (all-below 64 (apart_at k m) t j l))
    go (no l) = absurd (omega (arith, digit_big 64 j m ml (omega arith)))

-- ---- shuffle: three exchanges bring the bits of rows into the order of a tree's last level
abbrev pub mask₁ : ℕ
mask₁ = 264913582878960

abbrev pub mask₂ : ℕ
mask₂ = 67555025218437360

abbrev pub mask₃ : ℕ
mask₃ = 868082074056920076

unfoldable shuffle_at : ℕ → Bool
shuffle_at j =
    pick (ltb (swap_place 2 mask₃ j) 64)
    (pick (ltb (swap_place 4 mask₂ (swap_place 2 mask₃ j)) 64)
    (eqb (swap_place 12 mask₁ (swap_place 4 mask₂ (swap_place 2 mask₃ j))) (8 * row_at 3 j + column_at 3 j))
    false)
    false

shuffle_table : all_below 64 shuffle_at ≡ true
unfolding all_below shuffle_at swap_place digit row_at column_at
shuffle_table = refl

pub apart_first : (j : ℕ) → digit mask₁ j ≡ 1 → (j + 12 < 64) × (digit mask₁ (j + 12) ≡ 0)
unfolding all_below apart_at digit
apart_first = mask_apart 12 mask₁ (omega arith) refl

pub apart_second : (j : ℕ) → digit mask₂ j ≡ 1 → (j + 4 < 64) × (digit mask₂ (j + 4) ≡ 0)
unfolding all_below apart_at digit
apart_second = mask_apart 4 mask₂ (omega arith) refl

pub apart_third : (j : ℕ) → digit mask₃ j ≡ 1 → (j + 2 < 64) × (digit mask₃ (j + 2) ≡ 0)
unfolding all_below apart_at digit
apart_third = mask_apart 2 mask₃ (omega arith) refl

module _ (w a b r : ℕ)
    (ea : (j : ℕ) → j < 64 → digit a j ≡ digit w (swap_place 12 mask₁ j))
    (eb : (j : ℕ) → j < 64 → digit b j ≡ digit a (swap_place 4 mask₂ j))
    (er : (j : ℕ) → j < 64 → digit r j ≡ digit b (swap_place 2 mask₃ j)) where
  pub shuffle_law : (j : ℕ) → j < 64 → digit r j ≡ digit w (8 * row_at 3 j + column_at 3 j)
  unfolding shuffle_at
  shuffle_law j l = by (ltb p 64) refl (ltb q 64) refl (all-below 64 shuffle_at shuffle_table j l)
    where
      p : ℕ
      p = swap_place 2 mask₃ j

      q : ℕ
      q = swap_place 4 mask₂ p

      z : ℕ
      z = 8 * row_at 3 j + column_at 3 j

      by : (s : Bool) → ltb p 64 ≡ s → (t : Bool) → ltb q 64 ≡ t → pick s (pick t (eqb (swap_place 12 mask₁ q) z) false) false ≡ true → digit r j ≡ digit w z
      by true f true g e =
          er j l ∙ eb p (ltb-true p 64 f) ∙ ea q (ltb-true q 64 g) ∙ ap (digit w) (eqb-true (swap_place 12 mask₁ q) z e)
      by true f false g e = absurd (let y : ◌≡◌ {A = ℕ} 0 1 = cc in omega arith)
      by false f t g e = absurd (let y : ◌≡◌ {A = ℕ} 0 1 = cc in omega arith)

-- ---- summary: in each word, some places hold the bits A in order, and the others 0; in groups of P places the first u hold bits
unfoldable held : ℕ → ℕ → ℕ → Bool
held P u p = pick (ltb p 64) (ltb (p % P) u) false

abbrev index : ℕ → ℕ → ℕ → ℕ
index P u p = p / P * u + p % P

abbrev Layer : ℕ → ℕ → (ℕ → ℕ) → ℕ → Type 0
Layer P u A x = (p : ℕ) → digit x p ≡ pick (held P u p) (A (index P u p)) 0

-- two groups become one of twice as many bits: each bit comes from its own place or from one s places above, as a table shows
unfoldable fold_at : ℕ → ℕ → ℕ → ℕ → ℕ → Bool
fold_at P u s m p =
    pick (held (2 * P) (2 * u) p)
    (pick (eqb (digit m p) 1)
    (pick (held P u p)
    (pick (held P u (p + s)) false (eqb (index P u p) (index (2 * P) (2 * u) p)))
    (pick (held P u (p + s)) (eqb (index P u (p + s)) (index (2 * P) (2 * u) p)) false))
    false)
    (eqb (digit m p) 0)

module _ (A : ℕ → ℕ) (bit : (i : ℕ) → A i < 2) (P u s m x : ℕ) (ml : m < 2 ^ 64) (t : all_below 64 (fold_at P u s m) ≡ true) (layer : Layer P u A x) where
  abbrev folded : ℕ
  folded = bit_and (bit_or x (x / 2 ^ s)) m

  fold_digit : (p : ℕ) → digit folded p ≡ min (max (digit x p) (digit x (p + s))) (digit m p)
  fold_digit p = let e : p + s ≡ s + p = omega arith in rw (digit_and, digit_or, ← digit_add, e) refl

  fold_law : Layer (2 * P) (2 * u) A folded
  unfolding held fold_at
  fold_law p = go (dec_lt p 64)
    where
      i : ℕ
      i = index (2 * P) (2 * u) p

      absurdly : {B : Type 0} → false ≡ true → B
      absurdly e = absurd (let y : ◌≡◌ {A = ℕ} 0 1 = cc in omega arith)

      by : (a : Bool) → (b : Bool) → (c : Bool) → (d : Bool) → held (2 * P) (2 * u) p ≡ a → eqb (digit m p) 1 ≡ b → held P u p ≡ c → held P u (p + s) ≡ d
          → pick a (pick b (pick c (pick d false (eqb (index P u p) i)) (pick d (eqb (index P u (p + s)) i) false)) false) (eqb (digit m p) 0) ≡ true
          → min (max (digit x p) (digit x (p + s))) (digit m p) ≡ pick a (A i) 0
      by true true true true ea eb ec ed e = absurdly e
      by true true true false ea eb ec ed e =
          let f : digit x p ≡ A i = layer p ∙ rw ec (ap A (eqb-true (index P u p) i e)) in
          let g : digit x (p + s) ≡ 0 = layer (p + s) ∙ rw ed in
          omega (arith, eqb-true (digit m p) 1 eb, bit i)
      by true true false true ea eb ec ed e =
          let f : digit x p ≡ 0 = layer p ∙ rw ec in
          let g : digit x (p + s) ≡ A i = layer (p + s) ∙ rw ed (ap A (eqb-true (index P u (p + s)) i e)) in
          omega (arith, eqb-true (digit m p) 1 eb, bit i)
      by true true false false ea eb ec ed e = absurdly e
      by true false c d ea eb ec ed e = absurdly e
      by false b c d ea eb ec ed e = let z : digit m p ≡ 0 = eqb-true (digit m p) 0 e in omega arith

      go : Dec (p < 64) → digit folded p ≡ pick (held (2 * P) (2 * u) p) (A i) 0
      go (yes l) =
          fold_digit p
          ∙ by (held (2 * P) (2 * u) p) (eqb (digit m p) 1) (held P u p) (held P u (p + s)) refl refl refl refl (all-below 64 (fold_at P u s m) t p l)
      go (no l) =
          let z : digit m p ≡ 0 = digit_big 64 p m ml (omega arith) in
          let h : held (2 * P) (2 * u) p ≡ false = rw (le-ltb p 64 (omega arith)) in
          fold_digit p ∙ rw (z, h) (omega arith)

-- the first layer: every fourth place tells of its group
unfoldable first_at : ℕ → Bool
first_at p = eqb (digit 1229782938247303441 p) (pick (held 4 1 p) 1 0)

first_table : all_below 64 first_at ≡ true
unfolding all_below first_at held digit
first_table = refl

first_mask : (p : ℕ) → digit 1229782938247303441 p ≡ pick (held 4 1 p) 1 0
unfolding first_at held
first_mask p = go (dec_lt p 64)
  where
    go : Dec (p < 64) → digit 1229782938247303441 p ≡ pick (held 4 1 p) 1 0
    go (yes l) = eqb-true (digit 1229782938247303441 p) (pick (held 4 1 p) 1 0) (all-below 64 first_at first_table p l)
    go (no l) = digit_big 64 p 1229782938247303441 (omega arith) (omega arith) ∙ rw (le-ltb p 64 (omega arith))

module _ (w : ℕ) (wl : w < 2 ^ 64) where
  abbrev A : ℕ → ℕ
  A i = any_four (digit w) (4 * i)

  A-bit : (i : ℕ) → A i < 2
  A-bit i = omega (arith, digit_lt w (4 * i), digit_lt w (4 * i + 1), digit_lt w (4 * i + 2), digit_lt w (4 * i + 3))

  abbrev two : ℕ
  two = bit_or w (w / 2 ^ 1)

  four_digit : (p : ℕ) → digit (bit_or two (two / 2 ^ 2)) p ≡ any_four (digit w) p
  four_digit p =
      let d₁ : digit (w / 2 ^ 1) p ≡ digit w (p + 1) = sym (digit_add w 1 p) ∙ ap (digit w) (omega arith) in
      let d₂ : digit (two / 2 ^ 2) p ≡ digit two (p + 2) = sym (digit_add two 2 p) ∙ ap (digit two) (omega arith) in
      let d₃ : digit (w / 2 ^ 1) (p + 2) ≡ digit w (p + 3) = sym (digit_add w 1 (p + 2)) ∙ ap (digit w) (omega arith) in
      rw (digit_or, digit_or, d₁, d₂, digit_or, d₃) refl

  abbrev x₁ : ℕ
  x₁ = bit_and (bit_or two (two / 2 ^ 2)) 1229782938247303441

  first_layer : Layer 4 1 A x₁
  unfolding held
  first_layer p = rw (digit_and, four_digit, first_mask p) (by (held 4 1 p) refl)
    where
      by : (b : Bool) → held 4 1 p ≡ b → min (any_four (digit w) p) (pick b 1 0) ≡ pick b (A (index 4 1 p)) 0
      by true e =
          let l : p % 4 < 1 = here (ltb p 64) e in
          let q : 4 * index 4 1 p ≡ p = omega arith in
          rw q (omega (arith, digit_lt w p, digit_lt w (p + 1), digit_lt w (p + 2), digit_lt w (p + 3)))
        where
          here : (c : Bool) → pick c (ltb (p % 4) 1) false ≡ true → p % 4 < 1
          here true f = ltb-true (p % 4) 1 f
          here false f = absurd (let y : ◌≡◌ {A = ℕ} 0 1 = cc in omega arith)
      by false e = omega arith

  abbrev x₂ : ℕ
  x₂ = bit_and (bit_or x₁ (x₁ / 2 ^ 3)) 217020518514230019

  abbrev x₃ : ℕ
  x₃ = bit_and (bit_or x₂ (x₂ / 2 ^ 6)) 4222189076152335

  abbrev x₄ : ℕ
  x₄ = bit_and (bit_or x₃ (x₃ / 2 ^ 12)) 1095216660735

  abbrev x₅ : ℕ
  x₅ = bit_and (bit_or x₄ (x₄ / 2 ^ 24)) 65535

  last_layer : Layer 64 16 A x₅
  unfolding all_below fold_at held digit
  last_layer =
      fold_law A A-bit 32 8 24 65535 x₄ (omega arith) refl
      (fold_law A A-bit 16 4 12 1095216660735 x₃ (omega arith) refl
      (fold_law A A-bit 8 2 6 4222189076152335 x₂ (omega arith) refl
      (fold_law A A-bit 4 1 3 217020518514230019 x₁ (omega arith) refl first_layer)))

  pub summary_law : (j : ℕ) → digit x₅ j ≡ any_four (digit w) (4 * j)
  unfolding held
  summary_law j = last_layer j ∙ go (dec_lt j 16)
    where
      go : Dec (j < 16) → pick (held 64 16 j) (A (index 64 16 j)) 0 ≡ A j
      go (yes l) =
          let e : index 64 16 j ≡ j = omega arith in
          rw (lt-ltb j 64 (omega arith), lt-ltb (j % 64) 16 (omega arith), e)
      go (no l) =
          let z : (i : ℕ) → 64 ≤ i → digit w i ≡ 0 = λ i h. digit_big 64 i w wl h in
          rw (z (4 * j) (omega arith), z (4 * j + 1) (omega arith), z (4 * j + 2) (omega arith), z (4 * j + 3) (omega arith)) (off (dec_lt j 64))
        where
          off : Dec (j < 64) → pick (held 64 16 j) (A (index 64 16 j)) 0 ≡ 0
          off (yes h) = rw (lt-ltb j 64 h, le-ltb (j % 64) 16 (omega arith))
          off (no h) = rw (le-ltb j 64 (omega arith))
