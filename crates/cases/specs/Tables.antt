-- The worked cases K1 to K12 (S8.1) as a table, and what it is for a case to be met. The other tables are in RequestTables.
--   Case            the pairs of an expression; the first chain; no chain of any length; the tree's bits
--   Met g k         the text is an expression of the grammar, and of the graph g its meaning is as the case k says
--   made n cs       the graph of the book after the calls cs, from a fresh one of n records
--   links, table    K1 to K12: the links 0 a 1, 1 a 2, 2 b 0, with n = 4
-- Assumes nothing: these are definitions.
use Rattle.std.specs.Prelude.{◌≡◌, ◌↔◌, List, [], ◌∷◌, map, true, false, ℕ}
use Prim.Native.Char.{code}
use Prim.Native.String.{String, [] as end, ◌∷◌ as then}
use Rattle.book.specs.Book.{Call, edit, add, fresh, after}
use Rattle.k2.specs.PairSets.{Cells, IsSet, pair_word}
use Rattle.k2.specs.Trees.{height, tree_bits}
use Rattle.paths.specs.Expressions.{Expr}
use Rattle.paths.specs.Grammar.{accepted, Judged}
use Rattle.paths.specs.Chains.{Graph, asked, Step, Has, First, none, ChainIs}
use Rattle.paths.specs.Relations.{PairsAre}

-- a text's bytes
unfoldable pub bytes : String → List ℕ
bytes end = []
bytes (then c s) = code c ∷ bytes s

-- the bits are those of the tree of the pairs that have a chain
pub record TreeIs (g : Graph) (e : Expr) (bits : List ℕ) : Type 0 where
  pub set : Cells
  pub is_set : IsSet g.n set
  pub means : (x y : ℕ) → (set x y ≡ 1) ↔ Has g e x y
  pub tree : bits ≡ tree_bits (height g.n) set

pub data Case : Type 0 where
  pairs_of : String → List (ℕ × ℕ) → Case
  chain_of : ℕ → ℕ → String → List Step → Case
  none_of : ℕ → ℕ → String → Case
  tree_of : String → List ℕ → Case

abbrev pub word_of : ℕ × ℕ → ℕ
word_of p = pair_word p.0 p.1

abbrev pub Met : Graph → Case → Type 0
Met g (pairs_of t l) = (e : Expr) × Judged (bytes t) (accepted e) × PairsAre g e (map word_of l)
Met g (chain_of x y t ss) = (e : Expr) × Judged (bytes t) (accepted e) × First g e x y ss
Met g (none_of x y t) = (e : Expr) × Judged (bytes t) (accepted e) × ChainIs g e x y none
Met g (tree_of t bits) = (e : Expr) × Judged (bytes t) (accepted e) × TreeIs g e bits

abbrev pub made : ℕ → List Call → Graph
made n cs = asked (after (fresh n) cs)

-- labels, links and steps as S8.1 writes them
abbrev pub a : ℕ
a = 0

abbrev pub b : ℕ
b = 1

abbrev pub c : ℕ
c = 2

abbrev pub d : ℕ
d = 3

abbrev pub link : ℕ → ℕ → ℕ → Call
link f l t = edit (add (record { from = f; label = l; to = t }))

abbrev pub forward : ℕ → ℕ → Step
forward l r = record { spelt = record { label = l; inverted = false }; reached = r }

abbrev pub against : ℕ → ℕ → Step
against l r = record { spelt = record { label = l; inverted = true }; reached = r }

unfoldable pub links : List Call
links = link 0 a 1 ∷ link 1 a 2 ∷ link 2 b 0 ∷ []

unfoldable pub table : List Case
table =
    pairs_of "a" ((0, 1) ∷ (1, 2) ∷ []) ∷
    pairs_of "a/b" ((1, 0) ∷ []) ∷
    pairs_of "^(a/b)" ((0, 1) ∷ []) ∷
    pairs_of "a+" ((0, 1) ∷ (0, 2) ∷ (1, 2) ∷ []) ∷
    pairs_of "b?" ((0, 0) ∷ (1, 1) ∷ (2, 0) ∷ (2, 2) ∷ (3, 3) ∷ []) ∷
    pairs_of "c" [] ∷
    pairs_of "(a|b)+" ((0, 0) ∷ (0, 1) ∷ (0, 2) ∷ (1, 0) ∷ (1, 1) ∷ (1, 2) ∷ (2, 0) ∷ (2, 1) ∷ (2, 2) ∷ []) ∷
    chain_of 2 2 "(a|b)+" (forward b 0 ∷ forward a 1 ∷ forward a 2 ∷ []) ∷
    chain_of 0 0 "a*" [] ∷
    chain_of 0 2 "a/a|^b" (against b 2 ∷ []) ∷
    none_of 0 3 "(a|b|^a|^b)*" ∷
    tree_of "a" (1 ∷ 1 ∷ 0 ∷ 0 ∷ 0 ∷ 1 ∷ 0 ∷ 0 ∷ 0 ∷ 0 ∷ 1 ∷ 0 ∷ []) ∷ []
