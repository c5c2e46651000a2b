-- What the inner functions of pair questions by trees promise.
--   Taking g ws work u y S q st
--                   of a graph whose records in use have the bits u: the item y takes q off the stack S, whose operands stand for st; its value is the term's,
--                   and the operands that stay stand for the rest
--   Takes d y S q   the item y takes the term q off the stack S, its trees having at most d words each, and for every graph whose links ws are so it is
--   Goes n ws used y work work' S S'
--                   one number of the code, which is the item y: the operands that wait before it and after it, as Room for any
--                   contents and as Waiting for a book
--   Going n ws used c work S i
--                   the first i numbers of the code c have been run
--   Ends n ws used y work S rows
--                   the last number of the code, which is the item y: for every book whose links ws are, the rows are its value's
-- Assumes nothing: these are definitions.
use Rattle.std.specs.Prelude.{◌≡◌, List, [], ◌∷◌, ℕ, ◌+◌, ◌≤◌, take, drop}
use Rattle.book.specs.Book.{Book}
use Rattle.k2.specs.Bits.{bit_at}
use Rattle.k2.specs.PairSets.{Cells, IsSet, diagonal}
use Rattle.k2.specs.Trees.{tree_unit, tree_words}
use Rattle.paths.specs.Expressions.{Expr}
use Rattle.paths.specs.Chains.{Graph, asked}
use Rattle.paths.specs.Relations.{crossed_by, zero_steps, cells}
use Rattle.reader.specs.declared.items.Item.{Item}
use Rattle.reader.specs.Letters.{letters_in}
use Rattle.reader.specs.Code.{item_of, does}
use Rattle.reader.specs.Running.{operands}
use Rattle.rows.specs.Rows.{flat}
use Rattle.rows.specs.RowSets.{crossed_words}
use Rattle.query.specs.Evaluation.{relations, Coded, Lettered}
use Rattle.tree.specs.Inner.{term_set}
use Rattle.pairs.specs.declared.Stack.{Stack}
use Rattle.pairs.specs.declared.Taken.{Taken}
use Rattle.pairs.specs.Evaluation.{Standing, Waiting, Totals, Room}

pub record Taking (g : Graph) (ws work : List ℕ) (u : ℕ → ℕ) (y : Item) (S : Stack) (q : Taken) (st : List Cells) : Type 0 where
  pub a : Cells
  pub b : Cells
  pub others : List Cells
  pub first : IsSet g.n a
  pub second : IsSet g.n b
  pub front : take q.term.first.size (drop q.start work) ≡ tree_words g.n a
  pub behind : take q.term.second.size (drop q.term.first.size (drop q.start work)) ≡ tree_words g.n b
  pub stand : Standing g.n ws work S.operands q.below q.start others
  pub does : does (relations g) y st ≡ term_set q.term g.n ws u a b ∷ others

pub record Takes (d : ℕ) (y : Item) (S : Stack) (q : Taken) : Type 0 where
  pub below : q.below + operands y ≡ S.count
  pub totals : Totals d S.operands q.below q.start
  pub first : q.term.first.size ≤ d
  pub second : q.term.second.size ≤ d
  pub taking : (g : Graph) (ws work : List ℕ) (u : ℕ → ℕ) (st : List Cells) → diagonal u ≡ zero_steps g
      → ((forward against : ℕ) → crossed_words ws forward against ≡ crossed_by g (letters_in forward against))
      → Standing g.n ws work S.operands S.count S.end st → Taking g ws work u y S q st

pub record Goes (n : ℕ) (ws used : List ℕ) (y : Item) (work work' : List ℕ) (S S' : Stack) : Type 0 where
  pub room : (i : ℕ) (c : List ℕ) → item_of i ≡ y → Room (tree_unit n) (i ∷ c) S → Room (tree_unit n) c S'
  pub waits : (b : Book) → Lettered b n ws (bit_at used) → (e : Expr) (i : ℕ) (c : List ℕ) (st : List Cells)
      → item_of i ≡ y → Waiting (asked b) e (i ∷ c) ws work S st
      → (st' : List Cells) × Waiting (asked b) e c ws work' S' st'

pub record Going (n : ℕ) (ws used c work : List ℕ) (S : Stack) (i : ℕ) : Type 0 where
  pub room : Room (tree_unit n) (drop i c) S
  pub waits : (b : Book) → Lettered b n ws (bit_at used) → (s : List ℕ) (e : Expr)
      → Coded s e c → (st : List Cells) × Waiting (asked b) e (drop i c) ws work S st

pub record Ends (n : ℕ) (ws used : List ℕ) (y : Item) (work : List ℕ) (S : Stack) (rows : List ℕ) : Type 0 where
  pub value : (b : Book) → Lettered b n ws (bit_at used) → (e : Expr) (i : ℕ) (st : List Cells)
      → item_of i ≡ y → Waiting (asked b) e (i ∷ []) ws work S st → bit_at rows ≡ flat (cells (asked b) e)
