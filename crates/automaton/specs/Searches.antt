-- The search over records and states at once: what its levels backward and its walk forward know.
--   Walk g M y r q ss
--                   the steps ss are a chain from the record r to y, and what they spell is an accepted run from the state q
--   Moves g M r q s q'
--                   one step of a walk: s crosses a present link from r, and the state q goes on to q' by the letter that s spells
--   Reach g M y k r q
--                   there is a walk of k steps
--   Shut g M n      no step leads out of the records below n and the states below 64
--   Known g M y n l d
--                   after l levels: the number d r q of a record and a state is 0, or one more than the least number of steps of a walk,
--                   and it is not 0 where there is a walk of at most l steps
--   Grown g M n l d d'
--                   the numbers d' are d with one level more
--   Best g M y G r m ss
--                   of the walks of m steps from the record r and a state of the set G, ss is the first by its step words
--   Picks g M y G r m s K
--                   the step s is the smallest that leads from r and G to a walk of m steps, and K are states that it leads to, among them all
--                   from which there is one
-- Assumes nothing: these are definitions.
use Rattle.std.specs.Prelude.{◌≡◌, ◌⊎◌, List, true, ℕ, suc, ◌<◌, ◌≤◌, length}
use Rattle.paths.specs.Chains.{Graph, Step, crossing, step_word, Chain, spell, step_words, Before}
use Rattle.automaton.specs.Automata.{On, Automaton, Run}

pub record Walk (g : Graph) (M : Automaton) (y r q : ℕ) (ss : List Step) : Type 0 where
  pub chain : Chain g r ss y
  pub run : Run M q (spell ss)

pub record Moves (g : Graph) (M : Automaton) (r q : ℕ) (s : Step) (q' : ℕ) : Type 0 where
  pub crosses : g.present (crossing s.spelt r s.reached) ≡ true
  pub follow : On (M.follow q q')
  pub enters : On (M.enters q' s.spelt)

abbrev pub Reach : Graph → Automaton → ℕ → ℕ → ℕ → ℕ → Type 0
Reach g M y k r q = (ss : List Step) × (length ss ≡ k) × Walk g M y r q ss

abbrev pub Shut : Graph → Automaton → ℕ → Type 0
Shut g M n = (r q q' : ℕ) (s : Step) → Moves g M r q s q' → (s.reached < n) × (q' < 64)

pub record Known (g : Graph) (M : Automaton) (y n l : ℕ) (d : ℕ → ℕ → ℕ) : Type 0 where
  pub sound : (r q k : ℕ) → r < n → q < 64 → d r q ≡ suc k → Reach g M y k r q
  pub complete : (r q k : ℕ) → r < n → q < 64 → k ≤ l → Reach g M y k r q → (0 < d r q) × (d r q ≤ suc k)
  pub bound : (r q : ℕ) → r < n → q < 64 → d r q ≤ suc l

pub record Grown (g : Graph) (M : Automaton) (n l : ℕ) (d d' : ℕ → ℕ → ℕ) : Type 0 where
  pub kept : (r q : ℕ) → r < n → q < 64 → 0 < d r q → d' r q ≡ d r q
  pub made : (r q : ℕ) → r < n → q < 64 → d r q ≡ 0 → 0 < d' r q
      → (d' r q ≡ suc (suc l)) × (s : Step) × (q' : ℕ) × Moves g M r q s q' × (d s.reached q' ≡ suc l)
  pub all : (r q q' : ℕ) (s : Step) → r < n → q < 64 → Moves g M r q s q' → d s.reached q' ≡ suc l → 0 < d' r q

pub record Best (g : Graph) (M : Automaton) (y : ℕ) (G : ℕ → ℕ) (r m : ℕ) (ss : List Step) : Type 0 where
  pub from : ℕ
  pub among : On (G from)
  pub walk : Walk g M y r from ss
  pub long : length ss ≡ m
  pub least : (q : ℕ) (ts : List Step) → On (G q) → Walk g M y r q ts → length ts ≡ m → Before (step_words ss) (step_words ts)

pub record Picks (g : Graph) (M : Automaton) (y : ℕ) (G : ℕ → ℕ) (r m : ℕ) (s : Step) (K : ℕ → ℕ) : Type 0 where
  pub came : (q' : ℕ) → On (K q') → (q : ℕ) × On (G q) × Moves g M r q s q'
  pub least : (q q' : ℕ) (t : Step) → On (G q) → Moves g M r q t q' → Reach g M y m t.reached q' → (step_word s < step_word t) ⊎ ((s ≡ t) × On (K q'))
