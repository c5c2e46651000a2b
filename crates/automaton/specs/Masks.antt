-- An automaton as sets of bits: 64-bit words, bit q for the state q.
--   letter_number a  a letter's number, label × 2 + sense, 0 plain and 1 inverted
--   Masked fs ps es f M
--                   word p of fs is the set of the states that may follow p, word q of ps the set of those that q may follow,
--                   word c of es the set of those that the letter of number c may enter, and f the set of the final ones
-- Assumes nothing: these are definitions.
use Rattle.std.specs.Prelude.{◌≡◌, List, ℕ, ◌+◌, ◌*◌, get_or}
use Rattle.book.specs.Basics.{bit}
use Rattle.k2.specs.Bits.{digit}
use Rattle.paths.specs.Expressions.{Letter}
use Rattle.automaton.specs.Automata.{Automaton}

abbrev pub letter_number : Letter → ℕ
letter_number a = a.label * 2 + bit a.inverted

pub record Masked (fs ps es : List ℕ) (f : ℕ) (M : Automaton) : Type 0 where
  pub follow : (p q : ℕ) → digit (get_or fs p 0) q ≡ M.follow p q
  pub before : (p q : ℕ) → digit (get_or ps q 0) p ≡ M.follow p q
  pub enters : (q : ℕ) (a : Letter) → digit (get_or es (letter_number a) 0) q ≡ M.enters q a
  pub final : (q : ℕ) → digit f q ≡ M.final q
