-- What the helpers on tables of masks give.
--   Joined rows from to r
--                   r is rows with the set `to` joined to the rows that `from` has
--   sensed labels s c
--                   whether the letter of number c has the sense s and a label of the set, 1 or 0
--   letter_digit forward against c
--                   whether the letter of number c is in the two sets, 1 or 0
--   Mixed a b own r
--                   r has the rows of b at the states in own, and those of a elsewhere
--   inverse_number c the number of the same letter in the other sense
--   Turned es own k r
--                   for the letters below k, r is es with the states in own entered by each letter in its other sense
-- Assumes nothing: these are definitions.
use Rattle.std.specs.Prelude.{◌≡◌, List, ℕ, ◌+◌, ◌-◌, ◌*◌, ◌/◌, ◌%◌, ◌<◌, ◌≤◌, max, min, get_or}
use Rattle.k2.specs.Bits.{digit}
use Rattle.automaton.specs.Automata.{On, is}

pub record Joined (rows : List ℕ) (from : ℕ → ℕ) (to : ℕ) (r : List ℕ) : Type 0 where
  pub at : (p q : ℕ) → digit (get_or r p 0) q ≡ max (digit (get_or rows p 0) q) (min (from p) (digit to q))

abbrev pub sensed : ℕ → ℕ → ℕ → ℕ
sensed labels s c = min (is s (c % 2)) (digit labels (c / 2))

abbrev pub letter_digit : ℕ → ℕ → ℕ → ℕ
letter_digit forward against c = max (sensed forward 0 c) (sensed against 1 c)

pub record Mixed (a b : List ℕ) (own : ℕ → ℕ) (r : List ℕ) : Type 0 where
  pub inside : (p : ℕ) → On (own p) → get_or r p 0 ≡ get_or b p 0
  pub outside : (p : ℕ) → own p ≡ 0 → get_or r p 0 ≡ get_or a p 0

abbrev pub inverse_number : ℕ → ℕ
inverse_number c = c + 1 - 2 * (c % 2)

pub record Turned (es : List ℕ) (own k : ℕ) (r : List ℕ) : Type 0 where
  pub inside : (c q : ℕ) → c < k → q < 64 → On (digit own q) → digit (get_or r c 0) q ≡ digit (get_or es (inverse_number c) 0) q
  pub outside : (c q : ℕ) → c < k → q < 64 → digit own q ≡ 0 → digit (get_or r c 0) q ≡ digit (get_or es c 0) q
  pub high : (c q : ℕ) → c < k → 64 ≤ q → digit (get_or r c 0) q ≡ 0
  pub above : (c : ℕ) → k ≤ c → get_or r c 0 ≡ get_or es c 0
