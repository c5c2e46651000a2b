-- The walk forward: what the functions give, and what the search answers.
--   Kept w n a m d r
--                   r are the states of m whose number at the record a, below n, is d
--   Serve cs es w seen n r follows d j q
--                   arc j leads from the record r to the state q, one of follows, whose number there is d
--   Chosen cs es w seen n r follows d k p word states
--                   the smallest step word of the arcs that serve, from p on and below k, and its states; 65,536 and none if none serves
--   Better w₀ s₀ w s w' s'
--                   w' and s' are the smaller of two step words, of which the second counts only with a state, and its states
--   Walked ..       the steps that the walk forward writes are the best walk, and the words past them are as they were
--   Untouched out out' r
--                   whatever the contents: the steps fit the list, and the words past the answer are as they were
--   Answered g e x y out out' r
--                   the first chain from x to y in the list's first words; nowhere, if there is no chain of any length; or short, if a shortest chain
--                   is longer than the list
-- Assumes nothing: these are definitions.
use Rattle.std.specs.Prelude.{◌≡◌, ◌⊎◌, List, map, ℕ, suc, ◌/◌, ◌%◌, ◌<◌, ◌≤◌, length, get_or, take, drop}
use Rattle.k2.specs.Bits.{digit}
use Rattle.paths.specs.Expressions.{Expr}
use Rattle.paths.specs.Chains.{Graph, Step, step_words, Answers, First}
use Rattle.automaton.specs.Automata.{On, is, Automaton}
use Rattle.automaton.specs.Searches.{Known, Best}
use Rattle.arcs.specs.Arcs.{arc_from, arc_to, arc_letter, arc_step_word, letter_of}
use Rattle.search.specs.Levels.{Setting, number_at, distance}
use Rattle.search.specs.declared.Found.{Found}
use Rattle.search.specs.declared.Found.TheVariants.{Steps, Nowhere, Short}

pub record Kept (w : List ℕ) (n a m d r : ℕ) : Type 0 where
  pub from : (q : ℕ) → On (digit r q) → (q < 64) × (a < n) × On (digit m q) × (number_at w a q ≡ d)
  pub all : (q : ℕ) → a < n → On (digit m q) → number_at w a q ≡ d → On (digit r q)

pub record Serve (cs es w seen : List ℕ) (n r follows d j q : ℕ) : Type 0 where
  pub from : arc_from cs j ≡ r
  pub small : q < 64
  pub to : arc_to cs j < n
  pub among : On (digit follows q)
  pub enters : On (digit (get_or es (arc_letter cs j) 0) q)
  pub seen_at : On (digit (get_or seen (arc_to cs j) 0) q)
  pub number : number_at w (arc_to cs j) q ≡ d

pub record Chosen (cs es w seen : List ℕ) (n r follows d k p word states : ℕ) : Type 0 where
  pub from : (q : ℕ) → On (digit states q) → (j : ℕ) × (j < k) × (arc_step_word cs j ≡ word) × Serve cs es w seen n r follows d j q × (p ≤ j)
  pub all : (j q : ℕ) → j < k → p ≤ j → Serve cs es w seen n r follows d j q → (word < arc_step_word cs j) ⊎ ((word ≡ arc_step_word cs j) × On (digit states q))
  pub some : word < 65536 → (q : ℕ) × On (digit states q)
  pub top : word ≤ 65536

pub data Better (w₀ s₀ w s : ℕ) : ℕ → ℕ → Type 0 where
  no_states : s ≡ 0 → Better w₀ s₀ w s w₀ s₀
  not-less : w₀ ≤ w → Better w₀ s₀ w s w₀ s₀
  less : 0 < s → w < w₀ → Better w₀ s₀ w s w s

-- the step of a step word
abbrev pub step_of : ℕ → Step
step_of w = record { spelt = letter_of (w / 1024); reached = w % 1024 }

pub record Walked (fs es w seen : List ℕ) (cs : List ℕ) (k n x m : ℕ) (out out' : List ℕ) : Type 0 where
  pub best : (g : Graph) (M : Automaton) (ps : List ℕ) (f y l : ℕ) → Setting g M fs ps es f n cs k
      → Known g M y n l (distance w seen) → distance w seen x 0 ≡ suc m
      → Best g M y (is 0) x m (map step_of (take m out'))
  pub rest : drop m out' ≡ drop m out

pub data Untouched (out out' : List ℕ) : Found → Type 0 where
  written : {k : ℕ} → k ≤ length out → drop k out' ≡ drop k out → Untouched out out' (Steps k)
  none : out' ≡ out → Untouched out out' Nowhere
  too_long : out' ≡ out → Untouched out out' Short

pub data Answered (g : Graph) (e : Expr) (x y : ℕ) (out out' : List ℕ) : Found → Type 0 where
  first : {k : ℕ} (ss : List Step) → First g e x y ss → take k out' ≡ step_words ss → Answered g e x y out out' (Steps k)
  none : ((ss : List Step) → Answers g e x y ss → ⊥) → Answered g e x y out out' Nowhere
  short : (ss : List Step) → Answers g e x y ss → ((ts : List Step) → Answers g e x y ts → length ss ≤ length ts)
      → length out < length ss → Answered g e x y out out' Short
