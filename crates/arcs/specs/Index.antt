-- The index of the arcs by a record: the arcs of each record, one after another.
--   index_words      the words of an index: one for each record, and one for each arc
--   key_at cs b j    the record by which arc j is indexed: the one reached if b is 0, the one left if it is 10
--   first_arc ix r   the first arc of the record r, and next_arc ix j the one after arc j; each time an arc's number and 1, or 0 for none
--   Cursor key k r p
--                   p is 0, or the number and 1 of an arc below k of the record r
--   Indexed key k ix
--                   from its first arc on, in falling order, come all arcs below k of a record, and no other
--   Indexing arcs key index
--                        the arcs are few, the key is a part of an arc's word, and the index is long enough and empty
-- Assumes nothing: these are definitions.
use Rattle.std.specs.Prelude.{◌≡◌, List, ℕ, ◌+◌, ◌-◌, ◌/◌, ◌%◌, ◌^◌, ◌<◌, ◌≤◌, get_or, length}
use Rattle.arcs.specs.Arcs.{max_arcs}
use Rattle.book.specs.Causes.{max_records}

abbrev pub index_words : ℕ
index_words = 9216

unfoldable pub key_at : List ℕ → ℕ → ℕ → ℕ
key_at cs b j = get_or cs j 0 / 2 ^ b % 1024

unfoldable pub first_arc : List ℕ → ℕ → ℕ
first_arc ix r = get_or ix r 0

unfoldable pub next_arc : List ℕ → ℕ → ℕ
next_arc ix j = get_or ix (1024 + j) 0

abbrev pub Cursor : (ℕ → ℕ) → ℕ → ℕ → ℕ → Type 0
Cursor key k r p = (p ≤ k) × (0 < p → key (p - 1) ≡ r)

pub record Indexed (key : ℕ → ℕ) (k : ℕ) (ix : List ℕ) : Type 0 where
  pub first_at : (r : ℕ) → r < 1024 → Cursor key k r (first_arc ix r)
  pub first_all : (j : ℕ) → j < k → j < first_arc ix (key j)
  pub next_at : (j : ℕ) → j < k → Cursor key j (key j) (next_arc ix j)
  pub next_all : (i j : ℕ) → i < j → j < k → key i ≡ key j → i < next_arc ix j

-- ---- what functions ask for
pub record Indexing (arcs : List ℕ) (key : ℕ) (index : List ℕ) : Type 0 where
  pub few : length arcs ≤ max_arcs
  pub part : key ≤ 10
  pub room : max_records + length arcs ≤ length index
  pub clear : (r : ℕ) → get_or index r 0 ≡ 0
