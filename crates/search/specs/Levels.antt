-- The levels backward: what the functions give. A number stands in work at record × 64 + state, and counts where the state's bit is set in the
-- word of the record.
--   Setting g M fs ps es f n cs k
--                   the first k arcs are the crossings of the graph g that are of use, and the tables are those of the automaton M
--   distance w seen r q
--                   the number of a record and a state; 0 where the state was not seen at the record
--   Spread rows x left r
--                   r is the union of the rows of the states in x that are not left
--   LevelledOver P cs ps es cur seen n m nx
--                   nx has states, not seen yet, from which one of the first m arcs leads to a state of the current level; and all those at records
--                   below n from which an arc of P does
--   Levelled cs ps es cur seen n m nx
--                   the same over all of the first m arcs
--   Stamped w r m mark left w'
--                   the mark is at the record r, at the states of m that are not left
--   Committed w seen nx mark k w' seen'
--                   the mark is at every record below k, at the states of its word in nx, which are seen from now on
--   Sought g M x y n w seen v
--                   v is 0 and there is no walk from x and the start to y, or v is the number at x and the start and the numbers are known
-- Assumes nothing: these are definitions.
use Rattle.std.specs.Prelude.{◌≡◌, List, ℕ, suc, ◌+◌, ◌*◌, ◌<◌, ◌≤◌, max, length, get_or}
use Rattle.k2.specs.Bits.{digit}
use Rattle.paths.specs.Chains.{Graph, Step}
use Rattle.automaton.specs.Automata.{On, Automaton}
use Rattle.automaton.specs.Searches.{Walk, Known}
use Rattle.automaton.specs.Masks.{Masked}
use Rattle.arcs.specs.Arcs.{arc_from, arc_to, arc_letter, Drawn}

pub record Setting (g : Graph) (M : Automaton) (fs ps es : List ℕ) (f n : ℕ) (cs : List ℕ) (k : ℕ) : Type 0 where
  pub drawn : Drawn g n es cs k
  pub masked : Masked fs ps es f M
  pub states : length ps ≡ 64

-- the word in work of a record and a state
unfoldable pub number_at : List ℕ → ℕ → ℕ → ℕ
number_at w r q = get_or w (r * 64 + q) 0

unfoldable pub distance : List ℕ → List ℕ → ℕ → ℕ → ℕ
distance w seen r q = digit (get_or seen r 0) q * number_at w r q

pub record Spread (rows : List ℕ) (x left r : ℕ) : Type 0 where
  pub from : (p : ℕ) → On (digit r p) → (q : ℕ) × (q < 64) × On (digit x q) × On (digit (get_or rows q 0) p)
  pub all : (p q : ℕ) → On (digit x q) → digit left q ≡ 0 → On (digit (get_or rows q 0) p) → On (digit r p)

pub record LevelledOver (P : ℕ → Type 0) (cs ps es cur seen : List ℕ) (n m : ℕ) (nx : List ℕ) : Type 0 where
  pub fresh : (r q : ℕ) → q < 64 → On (digit (get_or nx r 0) q) → digit (get_or seen r 0) q ≡ 0
  pub from : (r q : ℕ) → q < 64 → On (digit (get_or nx r 0) q)
      → (j t : ℕ) × (j < m) × (t < 64) × (arc_from cs j ≡ r) × On (digit (get_or cur (arc_to cs j) 0) t)
      × On (digit (get_or es (arc_letter cs j) 0) t) × On (digit (get_or ps t 0) q)
  pub all : (q j t : ℕ) → q < 64 → P j → arc_from cs j < n → On (digit (get_or cur (arc_to cs j) 0) t)
      → On (digit (get_or es (arc_letter cs j) 0) t) → On (digit (get_or ps t 0) q)
      → digit (get_or seen (arc_from cs j) 0) q ≡ 0 → On (digit (get_or nx (arc_from cs j) 0) q)

abbrev pub Levelled : List ℕ → List ℕ → List ℕ → List ℕ → List ℕ → ℕ → ℕ → List ℕ → Type 0
Levelled cs ps es cur seen n m = LevelledOver (λ j. j < m) cs ps es cur seen n m

pub record Stamped (w : List ℕ) (r m mark left : ℕ) (w' : List ℕ) : Type 0 where
  pub hit : (q : ℕ) → q < 64 → On (digit m q) → digit left q ≡ 0 → number_at w' r q ≡ mark
  pub miss : (q : ℕ) → q < 64 → digit m q ≡ 0 → number_at w' r q ≡ number_at w r q
  pub rest : (a q : ℕ) → q < 64 → (a ≡ r → ⊥) → number_at w' a q ≡ number_at w a q

pub record Committed (w seen nx : List ℕ) (mark k : ℕ) (w' seen' : List ℕ) : Type 0 where
  pub hit : (r q : ℕ) → r < k → q < 64 → On (digit (get_or nx r 0) q) → number_at w' r q ≡ mark
  pub miss : (r q : ℕ) → q < 64 → digit (get_or nx r 0) q ≡ 0 → number_at w' r q ≡ number_at w r q
  pub seen_more : (r q : ℕ) → r < k → digit (get_or seen' r 0) q ≡ max (digit (get_or seen r 0) q) (digit (get_or nx r 0) q)
  pub seen_same : (r q : ℕ) → k ≤ r → digit (get_or seen' r 0) q ≡ digit (get_or seen r 0) q

pub data Sought (g : Graph) (M : Automaton) (x y n : ℕ) (w seen : List ℕ) : ℕ → Type 0 where
  nowhere : ((ss : List Step) → Walk g M y x 0 ss → ⊥) → Sought g M x y n w seen 0
  found : {l m : ℕ} → Known g M y n l (distance w seen) → distance w seen x 0 ≡ suc m → Sought g M x y n w seen (suc m)
