-- The records of a level, and the level before it made from them.
--   Passed cs records k i p j
--                   arc j, below k, leads to one of the first i records, or to the record at i and j is at least p
--   Levelling cs ps es cur seen n k records i p nx
--                   the level over the arcs passed
--   Added nx n r v nx'
--                   nx' has besides the states v at the record r, if it is below n
--   has_state nx r   1 if the record r has a state in nx, else 0
--   Listed list c n nx
--                   the first c of the list are the records of nx with a state, each once, all below n; they are no more than these, so that there is
--                   room for one that comes new
--   Frontier records masks c cur
--                   the first c records and their words are those of cur with a state
--   Zero nx         no record has a state in nx
-- Assumes nothing: these are definitions.
use Rattle.std.specs.Prelude.{◌≡◌, List, ℕ, ◌<◌, ◌≤◌, min, max, get_or}
use Rattle.k2.specs.Bits.{digit, ones_below}
use Rattle.automaton.specs.Automata.{On}
use Rattle.arcs.specs.Arcs.{arc_to}
use Rattle.search.specs.Levels.{LevelledOver}

pub data Passed (cs records : List ℕ) (k i p j : ℕ) : Type 0 where
  before : (h : ℕ) → h < i → get_or records h 0 ≡ arc_to cs j → j < k → Passed cs records k i p j
  here : arc_to cs j ≡ get_or records i 0 → p ≤ j → j < k → Passed cs records k i p j

abbrev pub Levelling : List ℕ → List ℕ → List ℕ → List ℕ → List ℕ → ℕ → ℕ → List ℕ → ℕ → ℕ → List ℕ → Type 0
Levelling cs ps es cur seen n k records i p = LevelledOver (Passed cs records k i p) cs ps es cur seen n k

pub record Added (nx : List ℕ) (n r v : ℕ) (nx' : List ℕ) : Type 0 where
  pub added : (q : ℕ) → r < n → digit (get_or nx' r 0) q ≡ max (digit (get_or nx r 0) q) (digit v q)
  pub past : (q : ℕ) → n ≤ r → digit (get_or nx' r 0) q ≡ digit (get_or nx r 0) q
  pub other : (a q : ℕ) → (a ≡ r → ⊥) → digit (get_or nx' a 0) q ≡ digit (get_or nx a 0) q

unfoldable pub has_state : List ℕ → ℕ → ℕ
has_state nx r = min 1 (get_or nx r 0)

pub record Listed (list : List ℕ) (c n : ℕ) (nx : List ℕ) : Type 0 where
  pub small : (i : ℕ) → i < c → get_or list i 0 < n
  pub some : (i : ℕ) → i < c → (q : ℕ) × (q < 64) × On (digit (get_or nx (get_or list i 0) 0) q)
  pub all : (r : ℕ) → 0 < get_or nx r 0 → (i : ℕ) × (i < c) × (get_or list i 0 ≡ r)
  pub apart : (i j : ℕ) → i < j → j < c → get_or list i 0 ≡ get_or list j 0 → ⊥
  pub room : c ≤ ones_below (has_state nx) 1024

pub record Frontier (records masks : List ℕ) (c : ℕ) (cur : List ℕ) : Type 0 where
  pub small : (i : ℕ) → i < c → get_or records i 0 < 1024
  pub at : (i : ℕ) → i < c → get_or masks i 0 ≡ get_or cur (get_or records i 0) 0
  pub all : (r : ℕ) → 0 < get_or cur r 0 → (i : ℕ) × (i < c) × (get_or records i 0 ≡ r)

abbrev pub Zero : List ℕ → Type 0
Zero nx = (r : ℕ) → get_or nx r 0 ≡ 0
