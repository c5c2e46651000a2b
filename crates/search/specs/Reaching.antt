-- The search forward from one record: what the functions give.
--   Came fs es cs k x r q
--                   the state q at the record r is come to from the record x and the state 0, over some of the first k arcs
--   Due at mask p r q j
--                   arc j counts at the record r and the state q: it does everywhere but at the states of the mask at the record `at`, where only the arcs
--                   from p on do
--   Expanding fs es cs k n x seen pending at mask p
--                   what was seen is come to, the start is seen, what is pending or in the mask was seen, and from what was seen and is not pending the arcs
--                   that count lead to what was seen
--   Reached fs es cs k n x seen
--                   the same with nothing pending: what was seen is what is come to
--   to_do seen pending p
--                   1 if bit p is not seen yet or is pending, else 0
--   Fewer n seen pending seen' pending'
--                   no more is to be done than before
--   Ended g e x f seen
--                   the records with a chain from x are those at which a state of f was seen
-- Assumes nothing: these are definitions.
use Rattle.std.specs.Prelude.{◌≡◌, List, ℕ, ◌*◌, ◌-◌, ◌<◌, ◌≤◌, max, get_or}
use Rattle.std.specs.Int.Bits.{bit_and}
use Rattle.k2.specs.Bits.{digit, bit_at}
use Rattle.paths.specs.Expressions.{Expr}
use Rattle.paths.specs.Chains.{Graph, Has}
use Rattle.automaton.specs.Automata.{On}
use Rattle.arcs.specs.Arcs.{arc_from, arc_to, arc_letter}

pub data Came (fs es cs : List ℕ) (k x : ℕ) : ℕ → ℕ → Type 0 where
  begins : Came fs es cs k x x 0
  onward : {r q r' q' : ℕ} (j : ℕ) → j < k → Came fs es cs k x r q → arc_from cs j ≡ r → arc_to cs j ≡ r'
      → On (digit (get_or fs q 0) q') → On (digit (get_or es (arc_letter cs j) 0) q') → Came fs es cs k x r' q'

abbrev pub Due : ℕ → ℕ → ℕ → ℕ → ℕ → ℕ → Type 0
Due at mask p r q j = r ≡ at → On (digit mask q) → p ≤ j

pub record Expanding (fs es cs : List ℕ) (k n x : ℕ) (seen pending : List ℕ) (at mask p : ℕ) : Type 0 where
  pub start : On (digit (get_or seen x 0) 0)
  pub sound : (r q : ℕ) → On (digit (get_or seen r 0) q) → Came fs es cs k x r q
  pub waits : (r q : ℕ) → On (digit (get_or pending r 0) q) → On (digit (get_or seen r 0) q)
  pub out : (q : ℕ) → On (digit mask q) → On (digit (get_or seen at 0) q)
  pub closed : (r q q' j : ℕ) → r < n → q' < 64 → On (digit (get_or seen r 0) q) → digit (get_or pending r 0) q ≡ 0 → Due at mask p r q j → j < k
      → arc_from cs j ≡ r → On (digit (get_or fs q 0) q') → On (digit (get_or es (arc_letter cs j) 0) q') → On (digit (get_or seen (arc_to cs j) 0) q')

pub record Reached (fs es cs : List ℕ) (k n x : ℕ) (seen : List ℕ) : Type 0 where
  pub start : On (digit (get_or seen x 0) 0)
  pub sound : (r q : ℕ) → On (digit (get_or seen r 0) q) → Came fs es cs k x r q
  pub closed : (r q q' j : ℕ) → r < n → q' < 64 → On (digit (get_or seen r 0) q) → j < k
      → arc_from cs j ≡ r → On (digit (get_or fs q 0) q') → On (digit (get_or es (arc_letter cs j) 0) q') → On (digit (get_or seen (arc_to cs j) 0) q')

unfoldable pub to_do : List ℕ → List ℕ → ℕ → ℕ
to_do seen pending p = max (1 - bit_at seen p) (bit_at pending p)

abbrev pub Fewer : ℕ → List ℕ → List ℕ → List ℕ → List ℕ → Type 0
Fewer n seen pending seen' pending' = (p : ℕ) → p < n * 64 → to_do seen' pending' p ≤ to_do seen pending p

pub record Ended (g : Graph) (e : Expr) (x f : ℕ) (seen : List ℕ) : Type 0 where
  pub sound : (y : ℕ) → On (bit_and (get_or seen y 0) f) → Has g e x y
  pub whole : (y : ℕ) → Has g e x y → On (bit_and (get_or seen y 0) f)
