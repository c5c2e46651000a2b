-- What both engines of pair questions run: the code of an expression, on a stack of values.
--   relations g       the algebra of sets of pairs in a graph: running an expression's code in it gives the expression's set
--   heights           the algebra in which every value is 0: running a code in it tells how high the stack is
--   most_waiting      so many values wait at once at the most
--   Ready y k         k values are as many as the item y asks, and there is room for its own
--   Coded s e c       s is a text of the expression e, not too deep, and c is its code
--   Height c k        k values wait, the code c is left to run on as many, it never wants more than `most_waiting`, and leaves one
--   used_below n ms    the bits of the records below n whose mark, of the marks ms, is not that of a withdrawn one
--   Lettered b n ws u
--                     the words ws are those of the links of the book b, of n records, and the bits u are its records in use
-- Assumes nothing: these are definitions.
use Rattle.std.specs.Prelude.{◌≡◌, List, [], ◌∷◌, not, ◌&&◌, ℕ, suc, ◌-◌, ◌≤◌, ltb, length}
use Rattle.book.specs.Basics.{bit}
use Rattle.book.specs.Book.{Book}
use Rattle.book.specs.Causes.{max_records}
use Rattle.book.specs.Sheets.{Fit}
use Rattle.k2.specs.PairSets.{Cells, union, transpose, product, closure}
use Rattle.paths.specs.Expressions.{Expr, depth}
use Rattle.paths.specs.Grammar.{alternatives, Is}
use Rattle.paths.specs.Chains.{Graph, asked}
use Rattle.paths.specs.Relations.{crossed_by, zero_steps}
use Rattle.reader.specs.declared.items.Item.{Item}
use Rattle.reader.specs.Letters.{letters_in}
use Rattle.reader.specs.Code.{Algebra, code, run}
use Rattle.reader.specs.Running.{operands, Runs}
use Rattle.links.specs.Links.{Linked}
use Rattle.register.specs.Marks.{withdrawn_mark, has_mark}

unfoldable pub relations : Graph → Algebra Cells
relations g = record {
  of = λ forward against. crossed_by g (letters_in forward against);
  inverted = transpose;
  starred = λ a. union (closure g.n a) (zero_steps g);
  repeated = closure g.n;
  maybe = λ a. union a (zero_steps g);
  either = union;
  followed = product g.n;
}

unfoldable pub heights : Algebra ℕ
heights = record {
  of = λ forward against. 0;
  inverted = λ a. 0;
  starred = λ a. 0;
  repeated = λ a. 0;
  maybe = λ a. 0;
  either = λ a b. 0;
  followed = λ a b. 0;
}

abbrev pub most_waiting : ℕ
most_waiting = 19

pub record Ready (y : Item) (k : ℕ) : Type 0 where
  pub found : operands y ≤ k
  pub few : k ≤ most_waiting
  pub room : suc (k - operands y) ≤ most_waiting

pub record Coded (s : List ℕ) (e : Expr) (c : List ℕ) : Type 0 where
  pub syntax : Is alternatives s e
  pub shallow : depth e ≤ 8
  pub is : c ≡ code e

pub record Height (c : List ℕ) (k : ℕ) : Type 0 where
  pub stack : List ℕ
  pub rest : run heights c stack ≡ 0 ∷ []
  pub runs : Runs heights most_waiting c stack
  pub count : k ≡ length stack

unfoldable pub used_below : ℕ → List ℕ → ℕ → ℕ
used_below n ms x = bit (ltb x n && not (has_mark withdrawn_mark ms x))

pub record Lettered (b : Book) (n : ℕ) (ws : List ℕ) (u : ℕ → ℕ) : Type 0 where
  pub size : n ≡ b.n
  pub small : b.n ≤ max_records
  pub fit : Fit b.n b.sheet
  pub linked : Linked ws b.sheet
  pub in_use : u ≡ (λ x. bit ((asked b).in_use x))
