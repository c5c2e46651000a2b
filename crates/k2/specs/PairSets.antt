-- Sets of pairs of records, and what the algebra makes of them.
--   Cells            a set of pairs as the cells of a square table: 1 at row x and column y if (x, y) is in the set, else 0
--   IsSet n a        a is a set of pairs of records below n
--   pair_word x y     a pair's word, from × 1,024 + to
--   listed n a       the words of a set's pairs, ascending
--   set_of ps         the set of a list of pair words
--   PairsBelow n ps  both ends of each pair word of the list ps are below n
--   union, intersection, difference, transpose
--                    pairs in either, in both, in the first and not in the second; each pair exchanged
--   product n a b    (x, y) where some middle record z below n serves: (x, z) is in a and (z, y) in b
--   OneOrMore a x y  one or more pairs of a lead from x to y, each beginning where the one before ends
--   closure n a      the same computed, as a set: the pairs that lead from one to the other through records below n
--   diagonal f       each record at which f is 1, joined to itself
-- Assumes nothing: these are definitions.
use Rattle.std.specs.Prelude.{◌≡◌, List, [], ◌∷◌, ◌++◌, ℕ, zero, suc, ◌+◌, ◌-◌, ◌*◌, ◌/◌, ◌%◌, ◌≤◌, ◌<◌, min, max, ltb, eqb}
use Rattle.book.specs.Basics.{bit, has, In}

abbrev pub Cells : Type 0
Cells = ℕ → ℕ → ℕ

pub record IsSet (n : ℕ) (a : Cells) : Type 0 where
  pub bit : (x y : ℕ) → a x y < 2
  pub row : (x y : ℕ) → n ≤ x → a x y ≡ 0
  pub column : (x y : ℕ) → n ≤ y → a x y ≡ 0

abbrev pub pair_word : ℕ → ℕ → ℕ
pair_word x y = x * 1024 + y

-- the word w where the cell is not 0
abbrev pub if_set : ℕ → ℕ → List ℕ
if_set zero w = []
if_set (suc v) w = w ∷ []

-- of row x, the pairs in the columns below m
unfoldable pub row_pairs : Cells → ℕ → ℕ → List ℕ
row_pairs a x zero = []
row_pairs a x (suc m) = row_pairs a x m ++ if_set (a x m) (pair_word x m)

-- of the rows below m, the pairs in the columns below n
unfoldable pub rows_pairs : Cells → ℕ → ℕ → List ℕ
rows_pairs a n zero = []
rows_pairs a n (suc m) = rows_pairs a n m ++ row_pairs a m n

unfoldable pub listed : ℕ → Cells → List ℕ
listed n a = rows_pairs a n n

-- a column is below 1,024, so that no two pairs have one word
unfoldable pub set_of : List ℕ → Cells
set_of ps x y = min (bit (ltb y 1024)) (bit (has eqb (pair_word x y) ps))

abbrev pub PairsBelow : ℕ → List ℕ → Type 0
PairsBelow n ps = (w : ℕ) → In w ps → (w / 1024 < n) × (w % 1024 < n)

unfoldable pub union : Cells → Cells → Cells
union a b x y = max (a x y) (b x y)

unfoldable pub intersection : Cells → Cells → Cells
intersection a b x y = min (a x y) (b x y)

unfoldable pub difference : Cells → Cells → Cells
difference a b x y = a x y - b x y

unfoldable pub transpose : Cells → Cells
transpose a x y = a y x

-- the largest of f 0 to f (n - 1), or 0
unfoldable pub most : ℕ → (ℕ → ℕ) → ℕ
most zero f = 0
most (suc n) f = max (most n f) (f n)

-- whether the middle record z serves
unfoldable pub serves : Cells → Cells → ℕ → ℕ → ℕ → ℕ
serves a b x y z = min (a x z) (b z y)

unfoldable pub product : ℕ → Cells → Cells → Cells
product n a b x y = most n (serves a b x y)

pub data OneOrMore (a : Cells) : ℕ → ℕ → Type 0 where
  once : {x y : ℕ} → a x y ≡ 1 → OneOrMore a x y
  more : {x z y : ℕ} → a x z ≡ 1 → OneOrMore a z y → OneOrMore a x y

-- a, and the pairs that lead from one to the other via the record k
unfoldable pub via : ℕ → Cells → Cells
via k a x y = max (a x y) (min (a x k) (a k y))

unfoldable pub closure : ℕ → Cells → Cells
closure zero a = a
closure (suc k) a = via k (closure k a)

unfoldable pub diagonal : (ℕ → ℕ) → Cells
diagonal f x y = min (f x) (bit (eqb x y))
