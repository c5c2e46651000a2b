-- A relation that is left where it was made, for the crates above that read it there.
--   LeftBy b v work left a
--                   asked of the book b with a text of the verdict v and so many words of work: the answer a is the first cause against the pair question by
--                   trees, or the number of records n, and then `left n` is the relation
--   Leaves known v work left a
--                   asked of what is known of a book: over any contents a refusal has the number of a cause; for every book of which it is known, so
-- Assumes nothing: these are definitions.
use Rattle.std.specs.Prelude.{◌≡◌, ℕ}
use Rattle.book.specs.Causes.{Caused, first_number}
use Rattle.book.specs.Book.{Book}
use Rattle.answers.specs.Answers.{answered}
use Rattle.answers.specs.declared.Counted.{Counted}
use Rattle.answers.specs.declared.Counted.TheVariants.{Count, Refused}
use Rattle.k2.specs.PairSets.{Cells}
use Rattle.paths.specs.Expressions.{Expr}
use Rattle.paths.specs.Grammar.{Verdict, accepted}
use Rattle.paths.specs.Chains.{asked}
use Rattle.paths.specs.Relations.{cells}
use Rattle.paths.specs.Questions.{by_trees, pairs_causes}

pub record LeftBy (b : Book) (v : Verdict) (work : ℕ) (left : ℕ → Cells) (a : Counted) : Type 0 where
  pub answer : a ≡ answered (first_number (pairs_causes by_trees b v work)) b.n
  pub value : (e : Expr) → v ≡ accepted e → (n : ℕ) → a ≡ Count n → left n ≡ cells (asked b) e

pub record Leaves (known : Book → Type 0) (v : Verdict) (work : ℕ) (left : ℕ → Cells) (a : Counted) : Type 0 where
  pub caused : (k : ℕ) → a ≡ Refused k → Caused k
  pub book : (b : Book) → known b → LeftBy b v work left a
