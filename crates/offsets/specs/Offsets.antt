-- Offsets known within limits: what the answer of request #109 is.
--   Placing        the year in which each record begins
--   Meets, Places  a placing meets a tie, and all ties of a list
--   Joins, Joined  a tie joins two records, in either direction; zero or more ties do
--   Narrowest ts base x lo hi
--                  in every placing record x begins lo to hi rings after the base, and each of both is attained by some placing
--   Limit ts base x lo hi
--                  the two words of record x: the base has 0 and 0, a record that ties join to it its narrowest limits, any other one 1 and 0
--   OffsetsAre n base ts answer
--                  the answer: "cannot all hold" if there is no placing, else the words of the records below n in ascending order
-- Assumes nothing: these are definitions.
use Rattle.std.specs.Prelude.{◌≡◌, ◌⊎◌, List, ℕ, ◌+◌, ◌*◌, ◌<◌, ℤ, pos, ◌-ℤ◌, length, get_or, ◌≤ℤ◌}
use Rattle.book.specs.Basics.{In}
use Rattle.offsets.specs.declared.Tie.{Tie}

abbrev pub Placing : Type 0
Placing = ℕ → ℤ

abbrev pub Meets : Placing → Tie → Type 0
Meets p t = (t.least ≤ℤ (p t.second -ℤ p t.first)) × ((p t.second -ℤ p t.first) ≤ℤ t.most)

abbrev pub Places : Placing → List Tie → Type 0
Places p ts = (t : Tie) → In t ts → Meets p t

abbrev pub Joins : Tie → ℕ → ℕ → Type 0
Joins t x y = ((t.first ≡ x) × (t.second ≡ y)) ⊎ ((t.second ≡ x) × (t.first ≡ y))

pub data Joined (ts : List Tie) (x : ℕ) : ℕ → Type 0 where
  self : Joined ts x x
  onward : {y z : ℕ} (t : Tie) → Joined ts x y → In t ts → Joins t y z → Joined ts x z

pub record Narrowest (ts : List Tie) (base x : ℕ) (lo hi : ℤ) : Type 0 where
  pub holds : (p : Placing) → Places p ts → (lo ≤ℤ (p x -ℤ p base)) × ((p x -ℤ p base) ≤ℤ hi)
  pub low : (p : Placing) × (Places p ts × (p x -ℤ p base ≡ lo))
  pub high : (p : Placing) × (Places p ts × (p x -ℤ p base ≡ hi))

pub data Limit (ts : List Tie) (base : ℕ) : ℕ → ℤ → ℤ → Type 0 where
  itself : Limit ts base base (pos 0) (pos 0)
  joined : {x : ℕ} {lo hi : ℤ} → Joined ts base x → Narrowest ts base x lo hi → Limit ts base x lo hi
  free : {x : ℕ} → (x ≡ base → ⊥) → (Joined ts base x → ⊥) → Limit ts base x (pos 1) (pos 0)

pub data Answer : Type 0 where
  cannot : Answer
  limits : List ℤ → Answer

pub data OffsetsAre (n base : ℕ) (ts : List Tie) : Answer → Type 0 where
  none : ((p : Placing) → Places p ts → ⊥) → OffsetsAre n base ts cannot
  some : {ws : List ℤ} (p : Placing) → Places p ts → length ws ≡ n * 2
      → ((x : ℕ) → x < n → Limit ts base x (get_or ws (x * 2) (pos 0)) (get_or ws (x * 2 + 1) (pos 0)))
      → OffsetsAre n base ts (limits ws)
