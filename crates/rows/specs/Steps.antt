-- What the inner functions on rows promise.
--   EmptyRow f i      row i of the bits f has no pair
--   Masked f i v      nor have its squares of 64 columns at which the mask v has no bit
--   past_end          the entry past the end of a list
--   row_at n m l t     the row of entry t of m entries; n past the last
--   Occupied f n r m  r 0 < r 1 < .. r m are the rows below n that may hold a pair, and n: every row between them is empty
--   Masks f m l       each of m entries has a mask of its row
--   meets f g i j k   row i of f and row j of g both have column k
--   Common f g i j v  they have none in the squares at which the mask v has no bit
--   served f g i j    1 if they have a column in common, else 0
--   below b g         the bits g before place b
--   with_row i g f     f with the bits g as row i
--   rows_to i a b      the set a in the rows below i, b in the others
--   Serving a i b j common
--                        row i of a and row j of b, and words that both may have bits in
--   Multiplying a i mask columns list row
--                        row i of a with its mask, the columns with the list of those occupied, and the row written
-- Assumes nothing: these are definitions.
use Rattle.std.specs.Prelude.{◌≡◌, List, ℕ, ◌+◌, ◌*◌, ◌/◌, ◌%◌, ◌<◌, min, ◌≤◌, ltb, eqb, get_or, length}
use Rattle.book.specs.Basics.{pick}
use Rattle.k2.specs.Bits.{digit}
use Rattle.k2.specs.PairSets.{Cells, most}
use Rattle.k2.specs.Sizes.{rows_words}
use Rattle.book.specs.Causes.{max_records}
use Rattle.std.proofs.Math.Dec.{lit<}
use Rattle.rows.specs.declared.entry.Entry.{Entry}

abbrev pub EmptyRow : (ℕ → ℕ) → ℕ → Type 0
EmptyRow f i = (k : ℕ) → k < 1024 → f (i * 1024 + k) ≡ 0

abbrev pub Masked : (ℕ → ℕ) → ℕ → ℕ → Type 0
Masked f i v = (k : ℕ) → k < 1024 → digit v (k / 64) ≡ 0 → f (i * 1024 + k) ≡ 0

abbrev pub past_end : Entry
past_end = record { squares = 0; row = 0; inside = lit< tt }

unfoldable pub row_at : ℕ → ℕ → List Entry → ℕ → ℕ
row_at n m l t = pick (ltb t m) (get_or l t past_end).row n

pub record Occupied (f : ℕ → ℕ) (n : ℕ) (r : ℕ → ℕ) (m : ℕ) : Type 0 where
  pub first : (i : ℕ) → i < r 0 → EmptyRow f i
  pub gap : (t : ℕ) → t < m → (i : ℕ) → r t < i → i < r (t + 1) → EmptyRow f i
  pub rise : (t : ℕ) → t < m → r t < r (t + 1)
  pub last : r m ≡ n

abbrev pub Masks : (ℕ → ℕ) → ℕ → List Entry → Type 0
Masks f m l = (t : ℕ) → t < m → Masked f (get_or l t past_end).row (get_or l t past_end).squares

unfoldable pub meets : (ℕ → ℕ) → (ℕ → ℕ) → ℕ → ℕ → ℕ → ℕ
meets f g i j k = min (f (i * 1024 + k)) (g (j * 1024 + k))

abbrev pub Common : (ℕ → ℕ) → (ℕ → ℕ) → ℕ → ℕ → ℕ → Type 0
Common f g i j v = (k : ℕ) → k < 1024 → digit v (k / 64) ≡ 0 → meets f g i j k ≡ 0

unfoldable pub served : (ℕ → ℕ) → (ℕ → ℕ) → ℕ → ℕ → ℕ
served f g i j = most 1024 (meets f g i j)

unfoldable pub below : ℕ → (ℕ → ℕ) → ℕ → ℕ
below b g c = pick (ltb c b) (g c) 0

unfoldable pub with_row : ℕ → (ℕ → ℕ) → (ℕ → ℕ) → ℕ → ℕ
with_row i g f p = pick (eqb (p / 1024) i) (g (p % 1024)) (f p)

unfoldable pub rows_to : ℕ → Cells → Cells → Cells
rows_to i a b x y = pick (ltb x i) (a x y) (b x y)

-- ---- what functions ask for
pub record Serving (a : List ℕ) (i : ℕ) (b : List ℕ) (j common : ℕ) : Type 0 where
  pub a_long : length a ≡ rows_words
  pub i_in : i < max_records
  pub b_long : length b ≡ rows_words
  pub j_in : j < max_records
  pub some : 0 < common
  pub few : common < 65536

pub record Multiplying (a : List ℕ) (i mask : ℕ) (columns : List ℕ) (list : List Entry) (row : List ℕ) : Type 0 where
  pub a_long : length a ≡ rows_words
  pub i_in : i < max_records
  pub mask_few : mask < 65536
  pub columns_long : length columns ≡ rows_words
  pub list_most : length list ≤ max_records
  pub row_long : length row ≡ 16
