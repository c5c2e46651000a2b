-- The words that a fragment reads.
--   Trace A q w r   positions from q to r, each of which may follow the one before and is entered by a letter of w
--   Reads A w       the words of the fragment: a trace from a first to a last position, or the empty word
--   Between lo hi q the positions lo + 1 to hi
--   Within lo hi A  the positions of A are among these
-- Assumes nothing: these are definitions.
use Rattle.std.specs.Prelude.{List, [], ◌∷◌, ℕ, ◌<◌, ◌≤◌}
use Rattle.paths.specs.Expressions.{Letter}
use Rattle.automaton.specs.Automata.{On, Fragment}

pub data Trace (A : Fragment) : ℕ → List Letter → ℕ → Type 0 where
  at : {q : ℕ} {a : Letter} → On (A.enters q a) → Trace A q (a ∷ []) q
  on : {q q' r : ℕ} {a : Letter} {w : List Letter} → On (A.enters q a) → On (A.follow q q') → Trace A q' w r → Trace A q (a ∷ w) r

pub data Reads (A : Fragment) : List Letter → Type 0 where
  nothing : On A.nullable → Reads A []
  along : {q r : ℕ} {w : List Letter} → On (A.first q) → Trace A q w r → On (A.last r) → Reads A w

abbrev pub Between : ℕ → ℕ → ℕ → Type 0
Between lo hi q = (lo < q) × (q ≤ hi)

pub record Within (lo hi : ℕ) (A : Fragment) : Type 0 where
  pub first : (q : ℕ) → On (A.first q) → Between lo hi q
  pub last : (q : ℕ) → On (A.last q) → Between lo hi q
  pub from : (p q : ℕ) → On (A.follow p q) → Between lo hi p
  pub to : (p q : ℕ) → On (A.follow p q) → Between lo hi q
  pub enters : (q : ℕ) (a : Letter) → On (A.enters q a) → Between lo hi q
