-- Laws of the search for a middle record: `most` over the squares, masks of squares, and the row of a product.
--   most_more, most_hit, most_far
--                  the largest of values: one more that is 0, one that is 1, many that are 0
--   meets_bits, meets_in, meets_word, meets_before, meets_record, record_next, record_none, served_bit
--                  two rows, a square at a time: the bits in common, in words with none, before the first of the second row, at a record of
--                  the first row, at its next, after its last; whether there is one
--   mask_set, mask_skip, row_bits, mask_empty
--                  the mask of a row's squares: a square more, an empty one, a row lent by itself, an empty row
--   masks_common, masks_apart
--                  rows have a column in common only in a square that both masks have
--   first_square, square_inside, common_first, common_last
--                  the squares in common, as the bits of a mask, from the first to the last
--   empty_serves   an empty row has no column in common with any
--   below_in, below_out, below_skip
--                  the bits before a place
--   row_start, row_skip, row_put
--                  a row of the product, an occupied column at a time
--   to_new, to_old, to_more, to_none, to_all, to_row
--                  rows replaced up to the i-th
--   product_store, product_skip
--                  the product, a row at a time: computed and stored, or empty
-- Assumes nothing.
use mathlib.Core.Path.{◌≡◌, refl, sym, ap, ap₂, ◌∙◌, fun_ext}
use mathlib.Core.List.{List}
use Prim.Native.Nat.{ℕ, zero, suc, ◌+◌, ◌-◌, ◌*◌, ◌/◌, ◌%◌, ◌^◌, ◌≤◌, ◌<◌, min, max}
use native.Mathlib.Nat.{add-zero, add-suc}
use native.Mathlib.Numerals.{add-one}
use native.Mathlib.Decide.{dec_lt, ℕ_discrete}
use native.Mathlib.Omega.{arith}
use lib.Bits.{bit_and, bit_or}
use lib.Count.{count_trailing_zeros, trailing_le}
use lib.ListN.{get_or, take, drop}
use lib.Pow.{shr-shr}
use lib.Seq.{get_or-take, get_or-drop}
use borrow.Author.Tests.{lt-ltb, le-ltb, eq-eqb, ne_eqb}
use Rattle.k2.specs.Bits.{digit, bit_at}
use Rattle.k2.specs.WordLaws.{trailing_set, trailing_clear}
use Rattle.k2.specs.DigitLaws.{digit_lt, digit_and, digit_none, digit_add, digit_big}
use Rattle.k2.specs.BitLaws.{Bits, bit_lt, bit_in, bit_zero}
use Rattle.k2.specs.PairSets.{Cells, IsSet, transpose, most, serves, product}
use Rattle.k2.specs.PairSetLaws.{most_bit, most_none, some_most, product_set}
use Rattle.bits.specs.BitSets.{put, none}
use Rattle.bits.specs.BitSetLaws.{put_at, put_off, digit_or_pow}
use Rattle.bits.specs.ScanLaws.{rest-set, rest_inside}
use Rattle.rows.specs.Rows.{flat}
use Rattle.rows.specs.RowLaws.{flat_at}
use Rattle.rows.specs.Steps.{EmptyRow, Masked, Occupied, meets, Common, served, below, with_row, rows_to}

-- ---- most
pub most_more : (n : ℕ) (f : ℕ → ℕ) → most n f ≡ 0 → f n ≡ 0 → most (n + 1) f ≡ 0
unfolding most
most_more n f a b = rw (add-one, a, b)

pub most_hit : (n : ℕ) (f : ℕ → ℕ) (k : ℕ) → Bits f → k < n → f k ≡ 1 → most n f ≡ 1
most_hit n f k b l e = omega (arith, some_most n k f l (omega arith), most_bit n f b)

pub most_far : (n d : ℕ) (f : ℕ → ℕ) → most n f ≡ 0 → ((k : ℕ) → n ≤ k → k < n + d → f k ≡ 0) → most (n + d) f ≡ 0
most_far n zero f e z = ap (λ (x : ℕ). most x f) (add-zero n) ∙ e
most_far n (suc d) f e z =
    let i = most_far n d f e (λ k a b. z k a (omega arith)) in
    let s : n + suc d ≡ n + d + 1 = omega arith in
    rw s (most_more (n + d) f i (z (n + d) (omega arith) (omega arith)))

-- the same below n, and no more from n on
most_same : (n d : ℕ) (f g : ℕ → ℕ) → ((k : ℕ) → k < n → f k ≡ g k) → ((k : ℕ) → n ≤ k → k < n + d → g k ≡ 0) → most n f ≡ most (n + d) g
unfolding most
most_same n zero f g s z = go n s ∙ ap (λ (x : ℕ). most x g) (sym (add-zero n))
  where
    go : (n : ℕ) → ((k : ℕ) → k < n → f k ≡ g k) → most n f ≡ most n g
    go zero s = refl
    go (suc n) s = ap₂ max (go n (λ k l. s k (omega arith))) (s n (omega arith))
most_same n (suc d) f g s z =
    most_same n d f g s (λ k a b. z k a (omega arith)) ∙ sym (ap (λ (x : ℕ). most x g) (add-suc n d) ∙ rw (z (n + d) (omega arith) (omega arith)) (omega arith))

-- ---- two rows, a square at a time
module _ (a b : List ℕ) (i j : ℕ) where
  pub meets_bits : Bits (meets (bit_at a) (bit_at b) i j)
  unfolding meets
  meets_bits k = omega (arith, bit_lt a (i * 1024 + k))

  -- in square s, the digits of the words' `&`
  pub meets_in : (s k : ℕ) → k < 64 → meets (bit_at a) (bit_at b) i j (s * 64 + k) ≡ digit (bit_and (get_or a (i * 16 + s) 0) (get_or b (j * 16 + s) 0)) k
  unfolding meets
  meets_in s k h =
      let ea : i * 1024 + (s * 64 + k) ≡ (i * 16 + s) * 64 + k = omega arith in
      let eb : j * 1024 + (s * 64 + k) ≡ (j * 16 + s) * 64 + k = omega arith in
      rw (ea, eb, bit_in a (i * 16 + s) k h, bit_in b (j * 16 + s) k h) (sym (digit_and (get_or a (i * 16 + s) 0) (get_or b (j * 16 + s) 0) k))

  -- words with no bit in common
  pub meets_word : (s : ℕ) → bit_and (get_or a (i * 16 + s) 0) (get_or b (j * 16 + s) 0) ≡ 0
      → (k : ℕ) → s * 64 ≤ k → k < s * 64 + 64 → meets (bit_at a) (bit_at b) i j k ≡ 0
  meets_word s z k l h =
      let e : k ≡ s * 64 + (k - s * 64) = omega arith in
      rw e (meets_in s (k - s * 64) (omega arith) ∙ rw z (digit_none (k - s * 64)))

  -- the records before the first of row j
  pub meets_before : (s k : ℕ) → s * 64 ≤ k → k < s * 64 + count_trailing_zeros 64 (get_or b (j * 16 + s) 0) → meets (bit_at a) (bit_at b) i j k ≡ 0
  meets_before s k l h =
      let column = get_or b (j * 16 + s) 0 in
      let d : ℕ = k - s * 64 in
      let e : k ≡ s * 64 + d = omega arith in
      let z : digit column d ≡ 0 = trailing_clear 64 column d (omega arith) in
      rw e (meets_in s d (omega (arith, trailing_le 64 column)) ∙ digit_and (get_or a (i * 16 + s) 0) column d ∙ rw z (omega arith))

  -- a record of row i: as row j has it
  pub meets_record : (s k : ℕ) → k < 64 → digit (get_or a (i * 16 + s) 0) k ≡ 1
      → meets (bit_at a) (bit_at b) i j (s * 64 + k) ≡ digit (get_or b (j * 16 + s) 0) k
  meets_record s k h e =
      meets_in s k h ∙ digit_and (get_or a (i * 16 + s) 0) (get_or b (j * 16 + s) 0) k ∙ rw e (omega (arith, digit_lt (get_or b (j * 16 + s) 0) k))

  -- no record of row i
  meets_clear : (s k : ℕ) → k < 64 → digit (get_or a (i * 16 + s) 0) k ≡ 0 → meets (bit_at a) (bit_at b) i j (s * 64 + k) ≡ 0
  meets_clear s k h e = meets_in s k h ∙ digit_and (get_or a (i * 16 + s) 0) (get_or b (j * 16 + s) 0) k ∙ rw e (omega arith)

  -- the records of row i in square s, lowest first: r is what is left of its word from place k on
  module _ (s k r : ℕ) (e : r ≡ get_or a (i * 16 + s) 0 / 2 ^ k) where
    pub record_next : get_or a (i * 16 + s) 0 < 2 ^ 64 → 0 < r
        → (k + count_trailing_zeros 64 r < 64) × (digit (get_or a (i * 16 + s) 0) (k + count_trailing_zeros 64 r) ≡ 1)
        × ((m : ℕ) → s * 64 + k ≤ m → m < s * 64 + k + count_trailing_zeros 64 r → meets (bit_at a) (bit_at b) i j m ≡ 0)
        × (r / 2 ^ count_trailing_zeros 64 r / 2 ≡ get_or a (i * 16 + s) 0 / 2 ^ (k + count_trailing_zeros 64 r + 1))
    record_next fits h =
        let word = get_or a (i * 16 + s) 0 in
        let t = count_trailing_zeros 64 r in
        let some : 0 < word / 2 ^ k = rw e at h in
        let inside : k + t < 64 = rw e (rest_inside a (i * 16 + s) k fits some) in (
          inside,
          rw e (rest-set a (i * 16 + s) k fits some),
          λ m l g.
              let d : ℕ = m - (s * 64 + k) in
              let z : m ≡ s * 64 + (k + d) = omega arith in
              rw z (meets_clear s (k + d) (omega arith) (digit_add word k d ∙ ap (λ (v : ℕ). digit v d) (sym e) ∙ trailing_clear 64 r d (omega arith))),
          ap (λ (v : ℕ). v / 2 ^ t / 2) e ∙ ap (λ (v : ℕ). v / 2) (shr-shr word k t) ∙ shr-shr word (k + t) 1,
        )

    pub record_none : r ≡ 0 → (m : ℕ) → s * 64 + k ≤ m → m < s * 64 + 64 → meets (bit_at a) (bit_at b) i j m ≡ 0
    record_none h m l g =
        let d : ℕ = m - (s * 64 + k) in
        let z : m ≡ s * 64 + (k + d) = omega arith in
        rw z (meets_clear s (k + d) (omega arith) (digit_add (get_or a (i * 16 + s) 0) k d ∙ ap (λ (v : ℕ). digit v d) (sym e ∙ h) ∙ digit_none d))

pub served_bit : (a b : List ℕ) (i j : ℕ) → served (bit_at a) (bit_at b) i j < 2
unfolding served
served_bit a b i j = most_bit 1024 (meets (bit_at a) (bit_at b) i j) (meets_bits a b i j)

-- ---- the mask of a row's squares
module _ (ws : List ℕ) (s v : ℕ) (g : (k : ℕ) → k < s * 64 → digit v (k / 64) ≡ 0 → bit_at ws k ≡ 0) where
  pub mask_set : (k : ℕ) → k < (s + 1) * 64 → digit (bit_or v (2 ^ s)) (k / 64) ≡ 0 → bit_at ws k ≡ 0
  mask_set k l e = go (ℕ_discrete (k / 64) s)
    where
      go : Dec (k / 64 ≡ s) → bit_at ws k ≡ 0
      go (yes p) = absurd (omega (arith, e, digit_or_pow v s (k / 64), ap (put s 1 (digit v)) p, put_at s 1 (digit v)))
      go (no p) =
          let z : (k / 64 ≡ s → ⊥) = p in
          g k (omega (arith, z)) (sym (digit_or_pow v s (k / 64) ∙ put_off s 1 (digit v) (k / 64) p) ∙ e)

  pub mask_skip : get_or ws s 0 ≡ 0 → (k : ℕ) → k < (s + 1) * 64 → digit v (k / 64) ≡ 0 → bit_at ws k ≡ 0
  mask_skip z k l e = go (dec_lt k (s * 64))
    where
      go : Dec (k < s * 64) → bit_at ws k ≡ 0
      go (yes p) = g k p e
      go (no p) = let q : k / 64 ≡ s = omega arith in bit_zero ws k (rw q z)

-- the bits of row i, lent by itself
pub row_bits : (ws : List ℕ) (i n k : ℕ) → k / 64 < n → bit_at (take n (drop (i * 16) ws)) k ≡ bit_at ws (i * 1024 + k)
unfolding bit_at
row_bits ws i n k h =
    let q : i * 16 + k / 64 ≡ (i * 1024 + k) / 64 = omega arith in
    let r : k % 64 ≡ (i * 1024 + k) % 64 = omega arith in
    ap₂ digit (get_or-take n (drop (i * 16) ws) (k / 64) 0 h ∙ get_or-drop (i * 16) ws (k / 64) 0 ∙ ap (λ (j : ℕ). get_or ws j 0) q) r

pub mask_empty : (f : ℕ → ℕ) (i v : ℕ) → Masked f i v → v ≡ 0 → EmptyRow f i
mask_empty f i v g e k l = g k l (rw e (digit_none (k / 64)))

-- rows have a column in common only in a square that both masks have
pub masks_common : (f g : ℕ → ℕ) (i j u v : ℕ) → Masked f i u → Masked g j v → Common f g i j (bit_and u v)
masks_common f g i j u v a b k l z = go (dec_lt 0 (digit u (k / 64)))
  where
    meet : min (digit u (k / 64)) (digit v (k / 64)) ≡ 0
    meet = sym (digit_and u v (k / 64)) ∙ z

    go : Dec (0 < digit u (k / 64)) → meets f g i j k ≡ 0
    go (yes p) = unfold meets in (rw (b k l (omega (arith, meet))) (omega arith))
    go (no p) = unfold meets in (rw (a k l (omega arith)) (omega arith))

-- masks that have no square in common
pub masks_apart : (f g : ℕ → ℕ) (i j u v : ℕ) → Masked f i u → Masked g j v → bit_and u v ≡ 0 → served f g i j ≡ 0
unfolding served
masks_apart f g i j u v a b z = most_none 1024 (meets f g i j) (λ k l. masks_common f g i j u v a b k l (rw z (digit_none (k / 64))))

-- ---- the squares in common, as the bits of a mask
pub first_square : (v : ℕ) → 0 < v → v < 65536 → count_trailing_zeros 32 v < 16
first_square v h l = go (dec_lt (count_trailing_zeros 32 v) 16)
  where
    go : Dec (count_trailing_zeros 32 v < 16) → count_trailing_zeros 32 v < 16
    go (yes p) = p
    go (no p) = absurd (omega (arith, trailing_set 32 v h (omega arith), digit_big 16 (count_trailing_zeros 32 v) v l (omega arith)))

pub square_inside : (v s : ℕ) → v < 65536 → s ≤ 16 → (v / 2 ^ s ≡ 0 → ⊥) → s < 16
square_inside v s l h n = go (dec_lt s 16)
  where
    go : Dec (s < 16) → s < 16
    go (yes p) = p
    go (no p) = let e : s ≡ 16 = omega arith in absurd (n (rw e (omega arith)))

module _ (a b : List ℕ) (i j v : ℕ) (g : Common (bit_at a) (bit_at b) i j v) where
  -- none before the first
  pub common_first : count_trailing_zeros 32 v < 16 → most (count_trailing_zeros 32 v * 64) (meets (bit_at a) (bit_at b) i j) ≡ 0
  common_first f = most_none (count_trailing_zeros 32 v * 64) (meets (bit_at a) (bit_at b) i j)
      (λ k l. g k (omega arith) (trailing_clear 32 v (k / 64) (omega arith)))

  -- none after the last
  pub common_last : (s : ℕ) → s ≤ 16 → v / 2 ^ s ≡ 0 → most (s * 64) (meets (bit_at a) (bit_at b) i j) ≡ 0 → served (bit_at a) (bit_at b) i j ≡ 0
  unfolding served
  common_last s h z e =
      let d : s * 64 + (1024 - s * 64) ≡ 1024 = omega arith in
      rw d at (most_far (s * 64) (1024 - s * 64) (meets (bit_at a) (bit_at b) i j) e gone)
    where
      gone : (k : ℕ) → s * 64 ≤ k → k < s * 64 + (1024 - s * 64) → meets (bit_at a) (bit_at b) i j k ≡ 0
      gone k l m =
          let q : k / 64 ≡ s + (k / 64 - s) = omega arith in
          g k (omega arith) (ap (digit v) q ∙ digit_add v s (k / 64 - s) ∙ rw z (digit_none (k / 64 - s)))

-- an empty row has no column in common with any
pub empty_serves : (f g : ℕ → ℕ) (i j : ℕ) → EmptyRow g j → served f g i j ≡ 0
unfolding served
empty_serves f g i j z = most_none 1024 (meets f g i j) (λ k l. unfold meets in (rw (z k l) (omega arith)))

-- ---- the bits before a place
module _ (g : ℕ → ℕ) where
  pub below_in : (b c : ℕ) → c < b → below b g c ≡ g c
  unfolding below
  below_in b c l = rw (lt-ltb c b l)

  pub below_out : (b c : ℕ) → b ≤ c → below b g c ≡ 0
  unfolding below
  below_out b c l = rw (le-ltb c b l)

  pub below_skip : (b d : ℕ) → b ≤ d → ((c : ℕ) → b ≤ c → c < d → g c ≡ 0) → below b g ≡ below d g
  below_skip b d l z = fun_ext (λ c. go c (dec_lt c b) (dec_lt c d))
    where
      go : (c : ℕ) → Dec (c < b) → Dec (c < d) → below b g c ≡ below d g c
      go c (yes p) q = below_in b c p ∙ sym (below_in d c (omega arith))
      go c (no p) (yes q) = below_out b c (omega arith) ∙ sym (below_in d c q ∙ z c (omega arith) q)
      go c (no p) (no q) = below_out b c (omega arith) ∙ sym (below_out d c (omega arith))

  below_put : (b : ℕ) → g b ≡ 1 → put b 1 (below b g) ≡ below (b + 1) g
  below_put b e = fun_ext (λ c. go c (ℕ_discrete c b) (dec_lt c b))
    where
      go : (c : ℕ) → Dec (c ≡ b) → Dec (c < b) → put b 1 (below b g) c ≡ below (b + 1) g c
      go c (yes p) q = ap (put b 1 (below b g)) p ∙ put_at b 1 (below b g) ∙ sym (below_in (b + 1) c (omega arith) ∙ ap g p ∙ e)
      go c (no p) (yes q) = put_off b 1 (below b g) c p ∙ below_in b c q ∙ sym (below_in (b + 1) c (omega arith))
      go c (no p) (no q) =
          let z : (c ≡ b → ⊥) = p in
          put_off b 1 (below b g) c p ∙ below_out b c (omega arith) ∙ sym (below_out (b + 1) c (omega (arith, z)))

-- ---- a row of the product, an occupied column at a time
module _ (f g : ℕ → ℕ) (i n m : ℕ) (r : ℕ → ℕ) (O : Occupied g n r m) where
  pub row_start : none ≡ below (r 0) (served f g i)
  row_start = fun_ext start ∙ below_skip (served f g i) 0 (r 0) (omega arith) (λ c a b. empty_serves f g i c (O.first c b))
    where
      start : (c : ℕ) → none c ≡ below 0 (served f g i) c
      start c = unfold none in (sym (below_out (served f g i) 0 c (omega arith)))

  pub row_skip : (t : ℕ) → t < m → served f g i (r t) ≡ 0 → below (r t) (served f g i) ≡ below (r (t + 1)) (served f g i)
  row_skip t l e = below_skip (served f g i) (r t) (r (t + 1)) (omega (arith, O.rise t l)) (λ c a b. go c a b (ℕ_discrete c (r t)))
    where
      go : (c : ℕ) → r t ≤ c → c < r (t + 1) → Dec (c ≡ r t) → served f g i c ≡ 0
      go c a b (yes p) = ap (served f g i) p ∙ e
      go c a b (no p) = let z : (c ≡ r t → ⊥) = p in empty_serves f g i c (O.gap t l c (omega (arith, z)) b)

  pub row_put : (t : ℕ) → t < m → served f g i (r t) ≡ 1 → put (r t) 1 (below (r t) (served f g i)) ≡ below (r (t + 1)) (served f g i)
  row_put t l e =
      below_put (served f g i) (r t) e
      ∙ below_skip (served f g i) (r t + 1) (r (t + 1)) (omega (arith, O.rise t l)) (λ c a b. empty_serves f g i c (O.gap t l c (omega arith) b))

-- ---- the product, a row at a time
module _ (i : ℕ) (a b : Cells) (x y : ℕ) where
  pub to_new : x < i → rows_to i a b x y ≡ a x y
  unfolding rows_to
  to_new l = rw (lt-ltb x i l)

  pub to_old : i ≤ x → rows_to i a b x y ≡ b x y
  unfolding rows_to
  to_old l = rw (le-ltb x i l)

-- rows that are the same in both
pub to_more : (i : ℕ) (a b : Cells) → ((y : ℕ) → a i y ≡ b i y) → rows_to i a b ≡ rows_to (i + 1) a b
to_more i a b e = fun_ext (λ x. fun_ext (λ y. go x y (dec_lt x i) (ℕ_discrete x i)))
  where
    go : (x y : ℕ) → Dec (x < i) → Dec (x ≡ i) → rows_to i a b x y ≡ rows_to (i + 1) a b x y
    go x y (yes p) q = to_new i a b x y p ∙ sym (to_new (i + 1) a b x y (omega arith))
    go x y (no p) (yes q) = to_old i a b x y (omega arith) ∙ sym (to_new (i + 1) a b x y (omega arith) ∙ rw q (e y))
    go x y (no p) (no q) = let z : (x ≡ i → ⊥) = q in to_old i a b x y (omega arith) ∙ sym (to_old (i + 1) a b x y (omega (arith, z)))

pub to_none : (a b : Cells) → rows_to 0 a b ≡ b
to_none a b = fun_ext (λ x. fun_ext (λ y. to_old 0 a b x y (omega arith)))

-- both empty from row n on
pub to_all : (n : ℕ) (a b : Cells) → IsSet n a → IsSet n b → rows_to n a b ≡ a
to_all n a b A B = fun_ext (λ x. fun_ext (λ y. go x y (dec_lt x n)))
  where
    go : (x y : ℕ) → Dec (x < n) → rows_to n a b x y ≡ a x y
    go x y (yes p) = to_new n a b x y p
    go x y (no p) = to_old n a b x y (omega arith) ∙ B.row x y (omega arith) ∙ sym (A.row x y (omega arith))

pub to_row : (i : ℕ) (a b : Cells) (k : ℕ) → k < 1024 → flat (rows_to i a b) (i * 1024 + k) ≡ b i k
to_row i a b k l = flat_at (rows_to i a b) i k l ∙ to_old i a b i k (omega arith)

-- a row stored
store_to : (i : ℕ) (a b : Cells) (g : ℕ → ℕ) → ((y : ℕ) → y < 1024 → g y ≡ a i y) → with_row i g (flat (rows_to i a b)) ≡ flat (rows_to (i + 1) a b)
unfolding with_row flat
store_to i a b g e = fun_ext (λ p. go p (ℕ_discrete (p / 1024) i) (dec_lt (p / 1024) i))
  where
    go : (p : ℕ) → Dec (p / 1024 ≡ i) → Dec (p / 1024 < i) → with_row i g (flat (rows_to i a b)) p ≡ rows_to (i + 1) a b (p / 1024) (p % 1024)
    go p (yes s) d = rw (eq-eqb (p / 1024) i s) (e (p % 1024) (omega arith) ∙ sym (to_new (i + 1) a b (p / 1024) (p % 1024) (omega arith) ∙ rw s))
    go p (no s) (yes d) = rw (ne_eqb (p / 1024) i s) (to_new i a b (p / 1024) (p % 1024) d ∙ sym (to_new (i + 1) a b (p / 1024) (p % 1024) (omega arith)))
    go p (no s) (no d) =
        let z : (p / 1024 ≡ i → ⊥) = s in
        rw (ne_eqb (p / 1024) i s) (to_old i a b (p / 1024) (p % 1024) (omega arith) ∙ sym (to_old (i + 1) a b (p / 1024) (p % 1024) (omega (arith, z))))

module _ (n : ℕ) (x y : Cells) (X : IsSet n x) (Y : IsSet n y) (nl : n ≤ 1024) where
  -- row i of any bits that is row i of x, with a row of y transposed
  served_product : (f : ℕ → ℕ) (i c : ℕ) → c < 1024 → ((k : ℕ) → k < 1024 → f (i * 1024 + k) ≡ x i k) → served f (flat (transpose y)) i c ≡ product n x y i c
  unfolding served product
  served_product f i c l e =
      let s : 1024 ≡ n + (1024 - n) = omega arith in
      ap (λ (t : ℕ). most t (meets f (flat (transpose y)) i c)) s ∙ sym (most_same n (1024 - n) (serves x y i c) (meets f (flat (transpose y)) i c) same far)
    where
      at : (k : ℕ) → k < 1024 → meets f (flat (transpose y)) i c k ≡ min (x i k) (y k c)
      at k h = unfold meets in (ap₂ min (e k h) (flat_at (transpose y) c k h ∙ unfold transpose in refl))

      same : (k : ℕ) → k < n → serves x y i c k ≡ meets f (flat (transpose y)) i c k
      same k h = unfold serves in (sym (at k (omega arith)))

      far : (k : ℕ) → n ≤ k → k < n + (1024 - n) → meets f (flat (transpose y)) i c k ≡ 0
      far k h g = at k (omega arith) ∙ rw (X.column i k h) (omega arith)

  -- row i, computed and stored
  pub product_store : (i : ℕ) → with_row i (below n (served (flat (rows_to i (product n x y) x)) (flat (transpose y)) i)) (flat (rows_to i (product n x y) x))
      ≡ flat (rows_to (i + 1) (product n x y) x)
  product_store i = store_to i (product n x y) x _ (λ c l. go c l (dec_lt c n))
    where
      S : ℕ → ℕ
      S = served (flat (rows_to i (product n x y) x)) (flat (transpose y)) i

      go : (c : ℕ) → c < 1024 → Dec (c < n) → below n S c ≡ product n x y i c
      go c l (yes h) = below_in S n c h ∙ served_product (flat (rows_to i (product n x y) x)) i c l (to_row i (product n x y) x)
      go c l (no h) = below_out S n c (omega arith) ∙ sym ((product_set n x y X Y).column i c (omega arith))

  -- an empty row leads nowhere
  pub product_skip : (i : ℕ) → EmptyRow (flat (rows_to i (product n x y) x)) i → rows_to i (product n x y) x ≡ rows_to (i + 1) (product n x y) x
  product_skip i z =
      to_more i (product n x y) x (λ c. unfold product serves in (most_none n (serves x y i c) (λ k h. rw (cell k) (omega arith))) ∙ sym (cell c))
    where
      cell : (k : ℕ) → x i k ≡ 0
      cell k = by (dec_lt k 1024)
        where
          by : Dec (k < 1024) → x i k ≡ 0
          by (yes l) = sym (to_row i (product n x y) x k l) ∙ z k l
          by (no l) = X.column i k (omega arith)
