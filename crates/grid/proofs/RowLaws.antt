-- Laws of one row: a word put in, and another row merged in word by word.
--   word_in, word_off  the bits of one word at its place in a row
--   row_same, row-at, row_empty, row_in
--                      a row depends on its mask and its own words; its bits, in a word that is not in the mask and in one that is
--   row_held, held_same, held_none
--                      what the words hold of a column is what the row has: in a word that is in the mask, in one that is as it was, and where it is nothing
--   Join m c old v r   r is word c of a row with the mask m, whose word was old, with v put in
--   join_in, join_new  by `|` if the word is in use, else v alone
--   Joined w b f c m s ws ws'
--                      the words that are in the mask s and below c are joined, the others as they were
--   joined-none        so before the first
--   Apart w b f        the rows at places b and f have no word in common
--   joined-more, joined_all
--                      a word more, and all of them: the row is merged in
--   put_is             one word put in is a row merged in
--   merged_none, merged_same, merged_more
--                      merging nothing, an equal row, one row after another
--   one_mask           `1 << c` in a mask is a power of two
-- Assumes nothing.
use mathlib.Core.Path.{◌≡◌, refl, sym, ap, ap₂, ◌∙◌}
use mathlib.Core.Logic.{◌⊎◌, inl, inr}
use mathlib.Core.List.{List}
use Prim.Native.Nat.{ℕ, ◌+◌, ◌-◌, ◌*◌, ◌/◌, ◌%◌, ◌^◌, ◌≤◌, ◌<◌, min, max}
use native.Mathlib.Decide.{dec_lt, ℕ_discrete}
use native.Mathlib.Omega.{arith}
use lib.Bits.{bit_or}
use lib.Dec.{lit<}
use lib.Pow.{shl_exact}
use native.Mathlib.Nat.{one-mul}
use lib.ListN.{length, get_or, set}
use lib.Seq.{get_or-set_same, get_or-set_other}
use borrow.Author.Tests.{eq-eqb, ne_eqb}
use Rattle.k2.specs.Bits.{digit}
use Rattle.k2.specs.DigitLaws.{digit_lt, digit_or}
use Rattle.bits.specs.BitSets.{put}
use Rattle.bits.specs.BitSetLaws.{digit_or_pow, put_at, put_off}
use Rattle.grid.specs.Grid.{row_of}
use Rattle.grid.specs.Steps.{Lowest, word_at, held, Merged}

-- ---- one word
pub word_in : (c v y : ℕ) → y / 64 ≡ c → word_at c v y ≡ digit v (y % 64)
unfolding word_at
word_in c v y e = rw (eq-eqb (y / 64) c e)

pub word_off : (c v y : ℕ) → (y / 64 ≡ c → ⊥) → word_at c v y ≡ 0
unfolding word_at
word_off c v y n = rw (ne_eqb (y / 64) c n)

-- a row depends on its mask and on its own words
pub row_same : (ws ws' : List ℕ) (b m m' y : ℕ) → m ≡ m' → get_or ws (b + y / 64) 0 ≡ get_or ws' (b + y / 64) 0 → row_of ws b m y ≡ row_of ws' b m' y
unfolding row_of
row_same ws ws' b m m' y e f = ap₂ (λ (d v : ℕ). min (digit d (y / 64)) (digit v (y % 64))) e f

pub row-at : (ws : List ℕ) (b m y : ℕ) → row_of ws b m y ≡ min (digit m (y / 64)) (digit (get_or ws (b + y / 64) 0) (y % 64))
unfolding row_of
row-at ws b m y = refl

-- a word not in the mask
pub row_empty : (ws : List ℕ) (b m y : ℕ) → digit m (y / 64) ≡ 0 → row_of ws b m y ≡ 0
unfolding row_of
row_empty ws b m y e = rw e (omega arith)

-- a word in the mask
pub row_in : (ws : List ℕ) (b m c y : ℕ) → y / 64 ≡ c → digit m c ≡ 1 → row_of ws b m y ≡ digit (get_or ws (b + c) 0) (y % 64)
unfolding row_of
row_in ws b m c y e d = rw (e, d) (omega (arith, digit_lt (get_or ws (b + c) 0) (y % 64)))

-- ---- what the words hold
pub row_held : (ws : List ℕ) (b m y : ℕ) → digit m (y / 64) ≡ 1 → held ws b y ≡ row_of ws b m y
unfolding row_of held
row_held ws b m y d = rw d (omega (arith, digit_lt (get_or ws (b + y / 64) 0) (y % 64)))

pub held_same : (ws ws' : List ℕ) (b m m' y : ℕ) → digit m' (y / 64) ≡ digit m (y / 64) → get_or ws' (b + y / 64) 0 ≡ get_or ws (b + y / 64) 0
    → held ws b y ≡ row_of ws b m y → held ws' b y ≡ row_of ws' b m' y
unfolding row_of held
held_same ws ws' b m m' y d e h =
    ap (λ (v : ℕ). digit v (y % 64)) e ∙ h ∙ sym (ap₂ (λ (k v : ℕ). min k (digit v (y % 64))) d e)

pub held_none : (ws : List ℕ) (b m y : ℕ) → held ws b y ≡ 0 → row_of ws b m y ≡ 0
unfolding row_of held
held_none ws b m y e = rw e (omega arith)

-- ---- a word
-- word c of a row with the mask m, v put in
abbrev pub Join : (m c old v r : ℕ) → Type 0
Join m c old v r = (j : ℕ) → digit r j ≡ max (min (digit m c) (digit old j)) (digit v j)

pub join_in : (m c old v : ℕ) → digit m c ≡ 1 → Join m c old v (bit_or old v)
join_in m c old v d j = digit_or old v j ∙ rw d (omega (arith, digit_lt old j))

pub join_new : (m c old v : ℕ) → digit m c ≡ 0 → Join m c old v v
join_new m c old v d j = rw d (omega arith)

-- ---- words joined, those of the mask s below c
pub record Joined (w b f c m s : ℕ) (ws ws' : List ℕ) : Type 0 where
  pub there : (k : ℕ) → k < w → k < c → digit s k ≡ 1 → Join m k (get_or ws (b + k) 0) (get_or ws (f + k) 0) (get_or ws' (b + k) 0)
  pub empty : (k : ℕ) → digit s k ≡ 0 → get_or ws' (b + k) 0 ≡ get_or ws (b + k) 0
  pub ahead : (k : ℕ) → c ≤ k → get_or ws' (b + k) 0 ≡ get_or ws (b + k) 0
  pub above : (k : ℕ) → w ≤ k → get_or ws' (b + k) 0 ≡ get_or ws (b + k) 0
  pub below : (k : ℕ) → k < b → get_or ws' k 0 ≡ get_or ws k 0

pub joined-none : (w b f c m s : ℕ) (ws : List ℕ) → Lowest (digit s) 0 64 c → Joined w b f c m s ws ws
joined-none w b f c m s ws L = record {
  there = λ k l h d. absurd (omega (arith, L.gap k (omega arith) h));
  empty = λ k d. refl;
  ahead = λ k h. refl;
  above = λ k h. refl;
  below = λ k h. refl;
}

abbrev pub Apart : (w b f : ℕ) → Type 0
Apart w b f = (b + w ≤ f) ⊎ (f + w ≤ b)

module _ (w b f c m s r : ℕ) (ws ws' : List ℕ) (cl : c < w) (bl : b + w ≤ length ws') (d : digit s c ≡ 1) where
  pub joined-more : (c' : ℕ) → Lowest (digit s) (c + 1) 64 c' → Apart w b f → Joined w b f c m s ws ws'
      → Join m c (get_or ws' (b + c) 0) (get_or ws' (f + c) 0) r → Joined w b f c' m s ws (set ws' (b + c) r)
  joined-more c' L A J e = record {
    there = λ k l h g. go k l h g (ℕ_discrete k c) (dec_lt k c);
    empty = λ k g. other (b + k) (λ q. absurd (omega (arith, d, ap (digit s) (same k q)))) ∙ J.empty k g;
    ahead = λ k h. other (b + k) (λ q. absurd (omega (arith, L.low))) ∙ J.ahead k (omega (arith, L.low));
    above = λ k h. other (b + k) (λ q. absurd (omega arith)) ∙ J.above k h;
    below = λ k h. other k (λ q. absurd (omega arith)) ∙ J.below k h;
  }
    where
      other : (k : ℕ) → (k ≡ b + c → ⊥) → get_or (set ws' (b + c) r) k 0 ≡ get_or ws' k 0
      other k n = get_or-set_other ws' (b + c) k r 0 n

      same : (k : ℕ) → b + k ≡ b + c → k ≡ c
      same k q = omega arith

      from : Apart w b f → get_or ws' (f + c) 0 ≡ get_or ws (f + c) 0
      from (inl h) = let e : f + c ≡ b + (f + c - b) = omega arith in rw e (J.above (f + c - b) (omega arith))
      from (inr h) = J.below (f + c) (omega arith)

      go : (k : ℕ) → k < w → k < c' → digit s k ≡ 1 → Dec (k ≡ c) → Dec (k < c)
          → Join m k (get_or ws (b + k) 0) (get_or ws (f + k) 0) (get_or (set ws' (b + c) r) (b + k) 0)
      go k l h g (yes q) p =
          rw (q, get_or-set_same ws' (b + c) r 0 (omega arith), ← J.ahead c (omega arith), ← from A) e
      go k l h g (no q) (yes p) = rw (other (b + k) (λ z. q (same k z))) (J.there k l p g)
      go k l h g (no q) (no p) = absurd (omega (arith, g, L.gap k (omega (arith, q, p)) h))

-- all of them
pub joined_all : (w t b f c m s : ℕ) (ws ws' ms : List ℕ) → w ≤ c → t < length ms → m ≡ get_or ms t 0 → Joined w b f c m s ws ws'
    → Merged w t b (row_of ws f s) ws ms ws' (set ms t (bit_or m s))
joined_all w t b f c m s ws ws' ms wc tl e J = record {
  row = λ y h. go y h (ℕ_discrete (digit s (y / 64)) 1);
  below = J.below;
  above = λ k h. let q : k ≡ b + (k - b) = omega arith in rw q (J.above (k - b) (omega arith));
  masks = λ k n. get_or-set_other ms t k (bit_or m s) 0 n;
  clean = λ y h k. clean y k (ℕ_discrete (digit s (y / 64)) 1);
}
  where
    m' : ℕ
    m' = get_or (set ms t (bit_or m s)) t 0

    mask : (k : ℕ) → digit m' k ≡ max (digit m k) (digit s k)
    mask k = ap (λ (x : ℕ). digit x k) (get_or-set_same ms t (bit_or m s) 0 tl) ∙ digit_or m s k

    old : ℕ → ℕ
    old y = digit (get_or ws (b + y / 64) 0) (y % 64)

    new : ℕ → ℕ
    new y = digit (get_or ws (f + y / 64) 0) (y % 64)

    joins : (d g o v x m' : ℕ) → m' ≡ max d g → g ≡ 1 → x ≡ max (min d o) v → o < 2 → v < 2 → d < 2 → min m' x ≡ max (min d o) (min g v)
    joins d g o v x m' a b e p q r = omega arith

    keeps : (d g o v x m' : ℕ) → m' ≡ max d g → g ≡ 0 → x ≡ o → min m' x ≡ max (min d o) (min g v)
    keeps d g o v x m' a b e = omega arith

    shown : (y : ℕ) → min (digit m' (y / 64)) (digit (get_or ws' (b + y / 64) 0) (y % 64)) ≡
        max (min (digit m (y / 64)) (old y)) (min (digit s (y / 64)) (new y))
        → row_of ws' b m' y ≡ max (row_of ws b (get_or ms t 0) y) (row_of ws f s y)
    shown y q = unfold row_of in (rw (← e) q)

    go : (y : ℕ) → y < w * 64 → Dec (digit s (y / 64) ≡ 1) → row_of ws' b m' y ≡ max (row_of ws b (get_or ms t 0) y) (row_of ws f s y)
    go y h (yes g) =
        shown y (joins (digit m (y / 64)) (digit s (y / 64)) (old y) (new y) _ _ (mask (y / 64)) g (J.there (y / 64) (omega arith) (omega arith) g (y % 64))
        (digit_lt (get_or ws (b + y / 64) 0) (y % 64)) (digit_lt (get_or ws (f + y / 64) 0) (y % 64)) (digit_lt m (y / 64)))
    go y h (no g) =
        let z : digit s (y / 64) ≡ 0 = omega (arith, digit_lt s (y / 64), g) in
        shown y (keeps (digit m (y / 64)) (digit s (y / 64)) (old y) (new y) _ _ (mask (y / 64)) z (ap (λ (x : ℕ). digit x (y % 64)) (J.empty (y / 64) z)))

    clean : (y : ℕ) → held ws b y ≡ row_of ws b (get_or ms t 0) y → Dec (digit s (y / 64) ≡ 1) → held ws' b y ≡ row_of ws' b m' y
    clean y k (yes g) = row_held ws' b m' y (omega (arith, mask (y / 64), g, digit_lt m (y / 64)))
    clean y k (no g) =
        let z : digit s (y / 64) ≡ 0 = omega (arith, digit_lt s (y / 64), g) in
        let d : digit m' (y / 64) ≡ digit m (y / 64) = omega (arith, mask (y / 64), z) in
        held_same ws ws' b (get_or ms t 0) m' y (d ∙ ap (λ (x : ℕ). digit x (y / 64)) e) (J.empty (y / 64) z) k

-- one word
pub put_is : (w t b c v m r : ℕ) (ws ms : List ℕ) → c < w → b + c < length ws → t < length ms → m ≡ get_or ms t 0 → Join m c (get_or ws (b + c) 0) v r
    → Merged w t b (word_at c v) ws ms (set ws (b + c) r) (set ms t (bit_or m (2 ^ c)))
put_is w t b c v m r ws ms cl bl tl e J = record {
  row = λ y h. go y (ℕ_discrete (y / 64) c);
  below = λ k h. get_or-set_other ws (b + c) k r 0 (λ q. absurd (omega arith));
  above = λ k h. get_or-set_other ws (b + c) k r 0 (λ q. absurd (omega arith));
  masks = λ k n. get_or-set_other ms t k (bit_or m (2 ^ c)) 0 n;
  clean = λ y h k. clean y k (ℕ_discrete (y / 64) c);
}
  where
    m' : ℕ
    m' = get_or (set ms t (bit_or m (2 ^ c))) t 0

    mask : (j : ℕ) → digit m' j ≡ put c 1 (digit m) j
    mask j = ap (λ (x : ℕ). digit x j) (get_or-set_same ms t (bit_or m (2 ^ c)) 0 tl) ∙ digit_or_pow m c j

    digits : (y : ℕ) → (y / 64 ≡ c → ⊥) → digit m' (y / 64) ≡ digit (get_or ms t 0) (y / 64)
    digits y n = mask (y / 64) ∙ put_off c 1 (digit m) (y / 64) n ∙ ap (λ (x : ℕ). digit x (y / 64)) e

    go : (y : ℕ) → Dec (y / 64 ≡ c) → row_of (set ws (b + c) r) b m' y ≡ max (row_of ws b (get_or ms t 0) y) (word_at c v y)
    go y (yes q) =
        row_in (set ws (b + c) r) b m' c y q (mask c ∙ put_at c 1 (digit m)) ∙ ap (λ (x : ℕ). digit x (y % 64)) (get_or-set_same ws (b + c) r 0 bl) ∙ J (y % 64)
        ∙ sym (ap₂ max (row-at ws b (get_or ms t 0) y ∙ rw (q, ← e)) (word_in c v y q))
    go y (no n) =
        row-at (set ws (b + c) r) b m' y
        ∙ ap₂ (λ (d x : ℕ). min d (digit x (y % 64))) (digits y n) (get_or-set_other ws (b + c) (b + y / 64) r 0 (λ q. n (omega arith)))
        ∙ sym (row-at ws b (get_or ms t 0) y) ∙ sym (ap (max (row_of ws b (get_or ms t 0) y)) (word_off c v y n) ∙ omega arith)

    clean : (y : ℕ) → held ws b y ≡ row_of ws b (get_or ms t 0) y → Dec (y / 64 ≡ c) → held (set ws (b + c) r) b y ≡ row_of (set ws (b + c) r) b m' y
    clean y k (yes q) = row_held (set ws (b + c) r) b m' y (ap (digit m') q ∙ mask c ∙ put_at c 1 (digit m))
    clean y k (no n) =
        held_same ws (set ws (b + c) r) b (get_or ms t 0) m' y (digits y n) (get_or-set_other ws (b + c) (b + y / 64) r 0 (λ q. n (omega arith))) k

-- ---- merging
pub merged_none : (w t b : ℕ) (src : ℕ → ℕ) (ws ms : List ℕ) → ((y : ℕ) → src y ≡ 0) → Merged w t b src ws ms ws ms
merged_none w t b src ws ms z = record {
  row = λ y h. sym (ap (max (row_of ws b (get_or ms t 0) y)) (z y) ∙ omega arith);
  below = λ k h. refl;
  above = λ k h. refl;
  masks = λ k n. refl;
  clean = λ y h k. k;
}

module _ {w t b : ℕ} {s : ℕ → ℕ} {ws ms ws' ms' : List ℕ} (M : Merged w t b s ws ms ws' ms') where
  pub merged_same : (g : ℕ → ℕ) → ((y : ℕ) → y < w * 64 → g y ≡ s y) → Merged w t b g ws ms ws' ms'
  merged_same g e = record {
    row = λ y h. M.row y h ∙ ap (max (row_of ws b (get_or ms t 0) y)) (sym (e y h));
    below = M.below;
    above = M.above;
    masks = M.masks;
    clean = M.clean;
  }

  pub merged_more : {r : ℕ → ℕ} {ws'' ms'' : List ℕ} → Merged w t b r ws' ms' ws'' ms'' → (g : ℕ → ℕ) → ((y : ℕ) → y < w * 64 → g y ≡ max (s y) (r y))
      → Merged w t b g ws ms ws'' ms''
  merged_more {r} {ws''} {ms''} N g e = record {
    row =
        λ y h. N.row y h ∙ ap (λ (x : ℕ). max x (r y)) (M.row y h)
        ∙ assoc (row_of ws b (get_or ms t 0) y) (s y) (r y) ∙ ap (max (row_of ws b (get_or ms t 0) y)) (sym (e y h));
    below = λ k h. N.below k h ∙ M.below k h;
    above = λ k h. N.above k h ∙ M.above k h;
    masks = λ k n. N.masks k n ∙ M.masks k n;
    clean = λ y h k. N.clean y h (M.clean y h k);
  }
    where
      assoc : (x y z : ℕ) → max (max x y) z ≡ max x (max y z)
      assoc x y z = omega arith

-- `1 << c` in a mask
pub one_mask : (c : ℕ) → c < 16 → (1 * 2 ^ c) % 65536 ≡ 2 ^ c
one_mask c h = shl_exact 1 c 16 (lit< tt) (omega arith) ∙ one-mul (2 ^ c)
