-- The Glushkov automaton of an expression. Its states are 0, where it starts, and the places of the expression's letters, counted from 1.
-- A set is a function that is not 0 at its members.
--   On x            x is not 0
--   is a b          1 if b is a, else 0
--   Fragment        what is known of a part of an expression: whether it has the empty word, the positions that begin and end its words, those that
--                   may follow a position, and the letters that may enter a position. So a symbol that stands for many letters has one position
--   single, reversed, repeated, optional, either, followed
--                   the fragment of a set of letters at a position, and what each operator makes of fragments
--   fragment e o    the fragment of e after o letters: its positions are o + 1 to o + letters e
--   Automaton       which state may follow which, which are final, and the letters that may enter a state
--   started A       the automaton that starts in the state 0 and goes on to the positions of A
--   automaton e     the automaton of an expression
--   Run M q w       an accepted run: from the state q, entering a state by each letter of w, to a final state
-- Assumes nothing: these are definitions.
use Rattle.std.specs.Prelude.{List, [], ◌∷◌, Bool, ℕ, suc, ◌+◌, ◌<◌, max, min, eqb}
use Rattle.book.specs.Basics.{bit}
use Rattle.paths.specs.Expressions.{Letter, stands_for, Expr, symbol, group, inverse, star, plus, optional as optional-part, alternative, sequence, letters}
use Rattle.paths.specs.Words.{inverse_letter}

abbrev pub On : ℕ → Type 0
On x = 0 < x

abbrev pub is : ℕ → ℕ → ℕ
is a b = bit (eqb b a)

pub record Fragment : Type 0 where
  pub nullable : ℕ
  pub first : ℕ → ℕ
  pub last : ℕ → ℕ
  pub follow : ℕ → ℕ → ℕ
  pub enters : ℕ → Letter → ℕ

unfoldable pub single : ℕ → (Letter → Bool) → Fragment
single p f = record { nullable = 0; first = is p; last = is p; follow = λ q r. 0; enters = λ q a. min (is p q) (bit (f a)) }

unfoldable pub reversed : Fragment → Fragment
reversed A = record { nullable = A.nullable; first = A.last; last = A.first; follow = λ p q. A.follow q p; enters = λ q a. A.enters q (inverse_letter a) }

unfoldable pub repeated : Fragment → Fragment
repeated A =
    record { nullable = A.nullable; first = A.first; last = A.last; follow = λ p q. max (A.follow p q) (min (A.last p) (A.first q)); enters = A.enters }

unfoldable pub optional : Fragment → Fragment
optional A = record { nullable = 1; first = A.first; last = A.last; follow = A.follow; enters = A.enters }

unfoldable pub either : Fragment → Fragment → Fragment
either A B = record {
  nullable = max A.nullable B.nullable;
  first = λ q. max (A.first q) (B.first q);
  last = λ q. max (A.last q) (B.last q);
  follow = λ p q. max (A.follow p q) (B.follow p q);
  enters = λ q a. max (A.enters q a) (B.enters q a);
}

unfoldable pub followed : Fragment → Fragment → Fragment
followed A B = record {
  nullable = min A.nullable B.nullable;
  first = λ q. max (A.first q) (min A.nullable (B.first q));
  last = λ q. max (B.last q) (min B.nullable (A.last q));
  follow = λ p q. max (max (A.follow p q) (B.follow p q)) (min (A.last p) (B.first q));
  enters = λ q a. max (A.enters q a) (B.enters q a);
}

unfoldable pub fragment : Expr → ℕ → Fragment
fragment (symbol s) o = single (suc o) (stands_for s)
fragment (group e) o = fragment e o
fragment (inverse e) o = reversed (fragment e o)
fragment (star e) o = optional (repeated (fragment e o))
fragment (plus e) o = repeated (fragment e o)
fragment (optional-part e) o = optional (fragment e o)
fragment (alternative e f) o = either (fragment e o) (fragment f (o + letters e))
fragment (sequence e f) o = followed (fragment e o) (fragment f (o + letters e))

pub record Automaton : Type 0 where
  pub follow : ℕ → ℕ → ℕ
  pub final : ℕ → ℕ
  pub enters : ℕ → Letter → ℕ

unfoldable pub started : Fragment → Automaton
started A = record {
  follow = λ p q. max (A.follow p q) (min (is 0 p) (A.first q));
  final = λ q. max (A.last q) (min (is 0 q) A.nullable);
  enters = A.enters;
}

abbrev pub automaton : Expr → Automaton
automaton e = started (fragment e 0)

pub data Run (M : Automaton) : ℕ → List Letter → Type 0 where
  ends : {q : ℕ} → On (M.final q) → Run M q []
  goes : {q q' : ℕ} {a : Letter} {w : List Letter} → On (M.follow q q') → On (M.enters q' a) → Run M q' w → Run M q (a ∷ w)
