-- Laws of listing: the places of the bits of rows, word by word, and what is written of them.
--   places_length, places_first
--                         how many places of bits there are, and that they go on
--   placed a f n          the places of the bits 0 to n - 1 of f, from place a on
--   placed_taken, placed_none, placed_word
--                         the lowest bit of a word is the first place; a word of 0 has none; the places up to a word, and those in it
--   Wrote l e now         the list that held e holds l, and then what was there
--   wrote_one, wrote_full
--                         one number more; as much as there is room for
-- Assumes nothing.
use mathlib.Core.Path.{◌≡◌, refl, sym, ap, ap₂, ◌∙◌}
use mathlib.Core.List.{List, [], ◌∷◌, ◌++◌, append-nil, append_assoc}
use Prim.Native.Nat.{ℕ, zero, suc, ◌+◌, ◌-◌, ◌*◌, ◌≤◌, ◌<◌}
use native.Mathlib.Nat.{add-zero, add-suc}
use native.Mathlib.Numerals.{add-one}
use native.Mathlib.Omega.{arith}
use lib.ListN.{length, get_or, set, take, drop, length-append, drop_of_length-le}
use lib.Seq.{drop-cons, set_at, take_at}
use Rattle.k2.specs.Bits.{digit, bit_at, ones_below}
use Rattle.k2.specs.DigitLaws.{digit_none}
use Rattle.k2.specs.BitLaws.{Bits, bit_in}
use Rattle.k2.specs.PairSets.{if_set}
use Rattle.bits.specs.BitSets.{LowestTaken}
use Rattle.bits.specs.ScanLaws.{taken_gone, taken_other}
use Rattle.rows.specs.Rows.{places}

pub places_length : (f : ℕ → ℕ) → Bits f → (n : ℕ) → length (places f n) ≡ ones_below f n
unfolding places ones_below
places_length f b zero = refl
places_length f b (suc n) = length-append (places f n) (if_set (f n) n) ∙ ap₂ (λ (x y : ℕ). x + y) (places_length f b n) (one (f n) (b n))
  where
    one : (v : ℕ) → v < 2 → length (if_set v n) ≡ v
    one zero h = refl
    one (suc zero) h = refl
    one (suc (suc v)) h = absurd (omega arith)

-- ---- the places of a word's bits
unfoldable pub placed : ℕ → (ℕ → ℕ) → ℕ → List ℕ
placed a f zero = []
placed a f (suc n) = placed a f n ++ if_set (f n) (a + n)

-- the places below a, and n more
placed_on : (f g : ℕ → ℕ) (a n : ℕ) → ((k : ℕ) → k < n → f (a + k) ≡ g k) → places f (a + n) ≡ places f a ++ placed a g n
unfolding places placed
placed_on f g a zero h = ap (places f) (add-zero a) ∙ sym (append-nil (places f a))
placed_on f g a (suc n) h =
    ap (places f) (add-suc a n)
    ∙ ap₂ (λ (l : List ℕ) (v : ℕ). l ++ if_set v (a + n)) (placed_on f g a n (λ k b. h k (omega arith))) (h n (omega arith))
    ∙ append_assoc (places f a) (placed a g n) (if_set (g n) (a + n))

pub places_first : (f : ℕ → ℕ) (p q : ℕ) → p ≤ q → (rest : List ℕ) × (places f q ≡ places f p ++ rest)
places_first f p q l =
    let e : q ≡ p + (q - p) = omega arith in
    (placed p (λ k. f (p + k)) (q - p), ap (places f) e ∙ placed_on f (λ k. f (p + k)) p (q - p) (λ k h. refl))

pub placed_word : (ws : List ℕ) (q : ℕ) → places (bit_at ws) ((q + 1) * 64) ≡ places (bit_at ws) (q * 64) ++ placed (q * 64) (digit (get_or ws q 0)) 64
placed_word ws q =
    let e : (q + 1) * 64 ≡ q * 64 + 64 = omega arith in
    ap (places (bit_at ws)) e ∙ placed_on (bit_at ws) (digit (get_or ws q 0)) (q * 64) 64 (λ k h. bit_in ws q k h)

no_place : (a : ℕ) (f : ℕ → ℕ) (n : ℕ) → ((k : ℕ) → k < n → f k ≡ 0) → placed a f n ≡ []
unfolding placed
no_place a f zero h = refl
no_place a f (suc n) h = rw (h n (omega arith), no_place a f n (λ k l. h k (omega arith)))

pub placed_none : (a w : ℕ) → w ≡ 0 → placed a (digit w) 64 ≡ []
placed_none a w e = no_place a (digit w) 64 (λ k l. rw e (digit_none k))

-- the lowest bit of a word is the first of its places
module _ (a : ℕ) {w p v : ℕ} (T : LowestTaken w p v) where
  taken_first : placed a (digit w) (suc p) ≡ (a + p) ∷ []
  unfolding placed
  taken_first = rw (no_place a (digit w) p (λ k h. T.gap k (omega arith) h), T.hit)

  left_none : placed a (digit v) (suc p) ≡ []
  unfolding placed
  left_none = rw (no_place a (digit v) p (λ k h. taken_other T k (omega arith) ∙ T.gap k (omega arith) h), taken_gone T)

  taken_on : (d : ℕ) → placed a (digit w) (suc p + d) ≡ (a + p) ∷ placed a (digit v) (suc p + d)
  unfolding placed
  taken_on zero = rw (add-zero) (taken_first ∙ ap (λ (l : List ℕ). (a + p) ∷ l) (sym left_none))
  taken_on (suc d) =
      rw (add-suc, taken_other T (suc p + d) (omega arith))
      (ap (λ (l : List ℕ). l ++ if_set (digit w (suc p + d)) (a + (suc p + d))) (taken_on d))

  pub placed_taken : placed a (digit w) 64 ≡ (a + p) ∷ placed a (digit v) 64
  placed_taken =
      let s : 64 ≡ suc p + (63 - p) = omega (arith, T.small) in
      ap (placed a (digit w)) s ∙ taken_on (63 - p) ∙ ap (λ (n : ℕ). (a + p) ∷ placed a (digit v) n) (sym s)

-- ---- written
abbrev pub Wrote : List ℕ → List ℕ → List ℕ → Type 0
Wrote l e now = now ≡ l ++ drop (length l) e

pub wrote_one : (l e now : List ℕ) (v : ℕ) → length l < length e → Wrote l e now → Wrote (l ++ (v ∷ [])) e (set now (length l) v)
wrote_one l e now v h w =
    let n : length (l ++ (v ∷ [])) ≡ suc (length l) = length-append l (v ∷ []) ∙ add-one (length l) in
    ap (λ (t : List ℕ). set t (length l) v) (w ∙ ap (λ (t : List ℕ). l ++ t) (drop-cons e (length l) 0 h))
    ∙ set_at l (get_or e (length l) 0) (drop (suc (length l)) e) v (length l) refl
    ∙ sym (append_assoc l (v ∷ []) (drop (length (l ++ (v ∷ []))) e) ∙ ap (λ (k : ℕ). l ++ v ∷ drop k e) n)

-- as much as there is room for
pub wrote_full : (l m e now rest : List ℕ) → length l ≡ length e → m ≡ l ++ rest → Wrote l e now → now ≡ take (length e) m ++ drop (length m) e
wrote_full l m e now rest h s w =
    let long : length m ≡ length l + length rest = ap length s ∙ length-append l rest in
    w ∙ ap₂ (λ (u v : List ℕ). u ++ v)
    (sym (ap (take (length e)) s ∙ take_at l rest (length e) h))
    (drop_of_length-le e {i = length l} (omega arith) ∙ sym (drop_of_length-le e {i = length m} (omega arith)))
