-- The meaning of an expression as a relation of records, and the pairs that have a chain.
--   Rel g e x y     the relation
--   crossed_by g f   the pairs that one step joins, whose letter is one of the set f, as a set, computed
--   crossed g s     those whose letter the symbol s stands for
--   zero_steps g     zero steps: each record in use joined to itself, linked or not
--   cells g e       the relation as a set of pairs, computed: 1 where Rel, else 0
--   PairsAre g e l  the list l is the answer of a pair question: its numbers ascend, and they are the words of the pairs that have a chain
--   pairs g e       that list, computed
-- Assumes nothing: these are definitions.
use Rattle.std.specs.Prelude.{◌≡◌, List, Bool, true, false, ℕ, max}
use Rattle.book.specs.Basics.{pick, bit, In, Rises}
use Rattle.book.specs.Causes.{labels}
use Rattle.k2.specs.PairSets.{Cells, pair_word, listed, union, transpose, most, product, closure, diagonal}
use Rattle.paths.specs.Expressions.{Letter, Symbol, stands_for, Expr, symbol, group, inverse, star, plus, optional, alternative, sequence}
use Rattle.paths.specs.Chains.{Graph, crossing, Has}

pub data Rel (g : Graph) : Expr → ℕ → ℕ → Type 0 where
  -- a letter is its links
  link : {s : Symbol} (a : Letter) {x y : ℕ} → stands_for s a ≡ true → g.present (crossing a x y) ≡ true → Rel g (symbol s) x y
  inside : {e : Expr} {x y : ℕ} → Rel g e x y → Rel g (group e) x y
  -- ^ swaps each pair
  swapped : {e : Expr} {x y : ℕ} → Rel g e y x → Rel g (inverse e) x y
  -- | is union
  left : {e f : Expr} {x y : ℕ} → Rel g e x y → Rel g (alternative e f) x y
  right : {e f : Expr} {x y : ℕ} → Rel g f x y → Rel g (alternative e f) x y
  -- / is composition
  joined : {e f : Expr} {x z y : ℕ} → Rel g e x z → Rel g f z y → Rel g (sequence e f) x y
  -- + is one or more
  once : {e : Expr} {x y : ℕ} → Rel g e x y → Rel g (plus e) x y
  again : {e : Expr} {x z y : ℕ} → Rel g e x z → Rel g (plus e) z y → Rel g (plus e) x y
  -- * is that or zero steps
  star_none : {e : Expr} {x : ℕ} → g.in_use x ≡ true → Rel g (star e) x x
  star_some : {e : Expr} {x y : ℕ} → Rel g (plus e) x y → Rel g (star e) x y
  -- ? is once or zero steps
  optional_none : {e : Expr} {x : ℕ} → g.in_use x ≡ true → Rel g (optional e) x x
  optional_once : {e : Expr} {x y : ℕ} → Rel g e x y → Rel g (optional e) x y

-- whether a step that spells the letter a, one of the set f, joins x to y
abbrev pub joins : Graph → (Letter → Bool) → Letter → Cells
joins g f a x y = pick (f a) (bit (g.present (crossing a x y))) 0

unfoldable pub crossed_by : Graph → (Letter → Bool) → Cells
crossed_by g f x y = most labels (λ l. max (joins g f (record { label = l; inverted = false }) x y) (joins g f (record { label = l; inverted = true }) x y))

abbrev pub crossed : Graph → Symbol → Cells
crossed g s = crossed_by g (stands_for s)

unfoldable pub zero_steps : Graph → Cells
zero_steps g = diagonal (λ x. bit (g.in_use x))

unfoldable pub cells : Graph → Expr → Cells
cells g (symbol s) = crossed g s
cells g (group e) = cells g e
cells g (inverse e) = transpose (cells g e)
cells g (star e) = union (closure g.n (cells g e)) (zero_steps g)
cells g (plus e) = closure g.n (cells g e)
cells g (optional e) = union (cells g e) (zero_steps g)
cells g (alternative e f) = union (cells g e) (cells g f)
cells g (sequence e f) = product g.n (cells g e) (cells g f)

pub record PairsAre (g : Graph) (e : Expr) (l : List ℕ) : Type 0 where
  pub ascending : Rises 0 l
  pub sound : (w : ℕ) → In w l → (x y : ℕ) × (w ≡ pair_word x y) × Has g e x y
  pub whole : (x y : ℕ) → Has g e x y → In (pair_word x y) l

unfoldable pub pairs : Graph → Expr → List ℕ
pairs g e = listed g.n (cells g e)
