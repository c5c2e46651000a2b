-- The tables under construction: which parts of the expression wait on the stack, and that each one's masks are those of its fragment.
--   Build, build     the tables and the stack together: of each position those that may follow it and those that it may follow, of each letter those
--                    that it may enter, then what waits
--   Part             a part of an expression: how many letters it has, and its fragment after any number of letters
--   parts            the algebra of parts
--   Fit x            the positions of x's fragment are those of its letters
--   Item b i o hi A  place i of the stack holds the fragment A, whose positions are o + 1 to hi
--   Items b m k st   the parts st wait, the latest first, in k places, and have the positions 1 to m
--   Blank b m        nothing stands past the position m
--   Holds b m st     all of this, with m at most 63
--   symbols c        how many numbers of a code are symbols
--   places           how many places of the stack are enough
--   Next b c x       the code c is still to be run, leaves the part x alone, and finds enough operands, places and positions
--   Alone b x        nothing but the part x waits
--   in_sense against e
--                    the expression, or its inverse
--   Merging k follow pred s
--                        rows of both tables, and at least k parts on the stack s
--   Tabled follow pred enter
--                        a row of each table for every state or letter
--   Unwritten follow pred enter
--                        the tables are empty
-- Assumes nothing: these are definitions.
use Rattle.std.specs.Prelude.{◌≡◌, List, [], ◌∷◌, Bool, true, false, ℕ, suc, ◌+◌, ◌<◌, ◌≤◌, leb, get_or, length}
use Rattle.book.specs.Basics.{bit}
use Rattle.book.specs.Causes.{max_letters}
use Rattle.k2.specs.Bits.{digit}
use Rattle.paths.specs.Expressions.{Letter, Expr, inverse}
use Rattle.reader.specs.Letters.{letters_in}
use Rattle.reader.specs.Code.{first_letters, Algebra, run}
use Rattle.reader.specs.Running.{Runs}
use Rattle.automaton.specs.Automata.{On, Fragment, single, reversed, repeated, optional, either, followed}
use Rattle.automaton.specs.Traces.{Between, Within}
use Rattle.automaton.specs.Masks.{letter_number}
use Rattle.tables.specs.declared.Stack.{Stack}

pub record Build : Type 0 where
  pub follow : List ℕ
  pub pred : List ℕ
  pub enter : List ℕ
  pub first : List ℕ
  pub last : List ℕ
  pub own : List ℕ
  pub nullable : List ℕ
  pub top : ℕ
  pub used : ℕ

abbrev pub build : List ℕ → List ℕ → List ℕ → Stack → Build
build fs ps es s = record {
  follow = fs;
  pred = ps;
  enter = es;
  first = s.first;
  last = s.last;
  own = s.own;
  nullable = s.nullable;
  top = s.top;
  used = s.used;
}

pub record Part : Type 0 where
  pub letters : ℕ
  pub fragment : ℕ → Fragment

-- a part with its fragment changed, and two parts one after the other as one
abbrev pub changed : (Fragment → Fragment) → Part → Part
changed F x = record { letters = x.letters; fragment = λ o. F (x.fragment o) }

abbrev pub combined : (Fragment → Fragment → Fragment) → Part → Part → Part
combined F x y = record { letters = x.letters + y.letters; fragment = λ o. F (x.fragment o) (y.fragment (o + x.letters)) }

unfoldable pub parts : Algebra Part
parts = record {
  of = λ forward against. record { letters = 1; fragment = λ o. single (suc o) (letters_in forward against) };
  inverted = changed reversed;
  starred = changed (λ A. optional (repeated A));
  repeated = changed repeated;
  maybe = changed optional;
  either = combined either;
  followed = combined followed;
}

pub record Fit (x : Part) : Type 0 where
  pub within : (o : ℕ) → Within o (o + x.letters) (x.fragment o)
  pub nullable_lt : (o : ℕ) → (x.fragment o).nullable < 2

pub record Item (b : Build) (i o hi : ℕ) (A : Fragment) : Type 0 where
  pub nullable : get_or b.nullable i 0 ≡ A.nullable
  pub first : (q : ℕ) → digit (get_or b.first i 0) q ≡ A.first q
  pub last : (q : ℕ) → digit (get_or b.last i 0) q ≡ A.last q
  pub own_on : (q : ℕ) → On (digit (get_or b.own i 0) q) → Between o hi q
  pub own_all : (q : ℕ) → Between o hi q → On (digit (get_or b.own i 0) q)
  pub follow : (p q : ℕ) → Between o hi p → digit (get_or b.follow p 0) q ≡ A.follow p q
  pub pred : (p q : ℕ) → Between o hi q → digit (get_or b.pred q 0) p ≡ A.follow p q
  pub enters : (q : ℕ) (a : Letter) → Between o hi q → digit (get_or b.enter (letter_number a) 0) q ≡ A.enters q a

pub data Items (b : Build) : ℕ → ℕ → List Part → Type 0 where
  none : Items b 0 0 []
  item : {o k : ℕ} {x : Part} {st : List Part} → Items b o k st → Fit x
      → Item b k o (o + x.letters) (x.fragment o) → Items b (o + x.letters) (suc k) (x ∷ st)

pub record Blank (b : Build) (m : ℕ) : Type 0 where
  pub follow : (p q : ℕ) → (Between 0 m p → ⊥) → digit (get_or b.follow p 0) q ≡ 0
  pub pred : (p q : ℕ) → (Between 0 m q → ⊥) → digit (get_or b.pred q 0) p ≡ 0
  pub enter : (c q : ℕ) → (Between 0 m q → ⊥) → digit (get_or b.enter c 0) q ≡ 0

pub record Holds (b : Build) (m : ℕ) (st : List Part) : Type 0 where
  pub items : Items b m b.top st
  pub count : b.used ≡ m
  pub few : m ≤ max_letters
  pub blank : Blank b m

unfoldable pub symbols : List ℕ → ℕ
symbols [] = 0
symbols (i ∷ c) = bit (leb first_letters i) + symbols c

abbrev pub places : ℕ
places = 19

pub record Next (b : Build) (c : List ℕ) (x : Part) : Type 0 where
  pub m : ℕ
  pub st : List Part
  pub runs : Runs parts places c st
  pub leaves : run parts c st ≡ x ∷ []
  pub room : m + symbols c ≤ max_letters
  pub holds : Holds b m st

abbrev pub Alone : Build → Part → Type 0
Alone b x = (m : ℕ) × Holds b m (x ∷ [])

abbrev pub in_sense : Bool → Expr → Expr
in_sense false e = e
in_sense true e = inverse e

-- ---- what functions ask for
pub record Merging (k : ℕ) (follow pred : List ℕ) (s : Stack) : Type 0 where
  pub follow_long : length follow ≡ 64
  pub pred_long : length pred ≡ 64
  pub some : k ≤ s.top
  pub few : s.top ≤ places

pub record Tabled (follow pred enter : List ℕ) : Type 0 where
  pub follow_long : length follow ≡ 64
  pub pred_long : length pred ≡ 64
  pub enter_long : length enter ≡ 64

pub record Unwritten (follow pred enter : List ℕ) : Type 0 where
  pub no_follow : (p : ℕ) → get_or follow p 0 ≡ 0
  pub no_pred : (p : ℕ) → get_or pred p 0 ≡ 0
  pub no_enter : (p : ℕ) → get_or enter p 0 ≡ 0
