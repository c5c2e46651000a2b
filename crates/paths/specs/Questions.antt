-- The answers of the two questions, refusals included, as functions of the book, the text's verdict and the lengths that are lent.
--   Outcome         refused with a number; how many there are of what a question lists, and the words of them that are written; or the reply to a chain
--                   question
--   Engine          which engine answers a pair question: that on trees or that on rows of bits
--   pairs_work n, row_width n, rows_work n, chain_work n
--                   the words of work that a pair question by trees needs; the words of a row of n columns, 64 to a word; those of work that a pair question by
--                   rows needs, 32 relations of n rows, and a chain question
--   work_for d n     the words of work that the engine d needs
--   pairs_of b v     the pairs of a pair question, if the text is an expression
--   pairs_causes, chain_causes
--                   the causes against a question, in their order
--   pairs_answer d b v work room
--                   the outcome of a pair question that the engine d answers, with so many words of work and room for so many in the list: how many pairs
--                   there are in all, and the first of them, as many as there is room for
--   ReplyTo g v x y t
--                   t is the reply to a chain question from x to y, if the text is an expression
--   chain_answer b x y v t work room
--                   the outcome of a chain question to which t is the reply
--   list_after o l   what a result list that held l holds then: the words written, and those past them as they were
--   count_of o       the outcome as an answer that counts: refused, or how many there are; of a chain its steps
--   Tells o before after a
--                   the answer a and the list, which held `before` and holds `after`, are those of the outcome o
-- Assumes nothing: these are definitions.
use Rattle.std.specs.Prelude.{◌≡◌, List, [], ◌∷◌, ◌++◌, Bool, ◌||◌, ℕ, zero, suc, ◌+◌, ◌*◌, ◌/◌, length, take, leb, ltb}
pub use Rattle.book.specs.Basics.{over}
use Rattle.book.specs.Causes.{Cause, no_record, short_work, short_list, first_number}
use Rattle.book.specs.Book.{Book}
use Rattle.answers.specs.declared.Counted.{Counted}
use Rattle.answers.specs.declared.Counted.TheVariants.{Count, Refused}
use Rattle.k2.specs.Trees.{tree_unit}
use Rattle.paths.specs.Expressions.{Expr}
use Rattle.paths.specs.Grammar.{Verdict, accepted, long, outside, large, verdict_cause}
use Rattle.paths.specs.Chains.{Graph, asked, Reply, none, chain, ChainIs}
use Rattle.paths.specs.Relations.{pairs}

pub data Outcome : Type 0 where
  refused : ℕ → Outcome
  paired : ℕ → List ℕ → Outcome
  replied : Reply → Outcome

-- the number of a cause if there is one, else the outcome
abbrev pub unless : ℕ → Outcome → Outcome
unless zero o = o
unless (suc k) o = refused (suc k)

pub data Engine : Type 0 where
  by_trees : Engine
  by_rows : Engine

abbrev pub pairs_work : ℕ → ℕ
pairs_work n = 32 * tree_unit n

abbrev pub row_width : ℕ → ℕ
row_width n = (n + 63) / 64

abbrev pub rows_work : ℕ → ℕ
rows_work n = 32 * (n * row_width n)

abbrev pub work_for : Engine → ℕ → ℕ
work_for by_trees n = pairs_work n
work_for by_rows n = rows_work n

abbrev pub chain_work : ℕ → ℕ
chain_work n = 64 * n

unfoldable pub pairs_of : Book → Verdict → List ℕ
pairs_of b (accepted e) = pairs (asked b) e
pairs_of b long = []
pairs_of b outside = []
pairs_of b large = []

unfoldable pub pairs_causes : Engine → Book → Verdict → ℕ → List (Cause × Bool)
pairs_causes d b v work = verdict_cause v ++ ((short_work, ltb work (work_for d b.n)) ∷ [])

unfoldable pub pairs_answer : Engine → Book → Verdict → ℕ → ℕ → Outcome
pairs_answer d b v work room = unless (first_number (pairs_causes d b v work)) (paired (length (pairs_of b v)) (take room (pairs_of b v)))

abbrev pub ReplyTo : Graph → Verdict → ℕ → ℕ → Reply → Type 0
ReplyTo g v x y t = (e : Expr) → v ≡ accepted e → ChainIs g e x y t

unfoldable pub steps : Reply → List ℕ
steps none = []
steps (chain ws) = ws

unfoldable pub chain_causes : Book → ℕ → ℕ → Verdict → Reply → ℕ → ℕ → List (Cause × Bool)
chain_causes b x y v t work room =
    (no_record, leb b.n x || leb b.n y) ∷
    (verdict_cause v ++ (
    (short_work, ltb work (chain_work b.n)) ∷
    (short_list, ltb room (length (steps t))) ∷ []))

unfoldable pub chain_answer : Book → ℕ → ℕ → Verdict → Reply → ℕ → ℕ → Outcome
chain_answer b x y v t work room = unless (first_number (chain_causes b x y v t work room)) (replied t)

unfoldable pub list_after : Outcome → List ℕ → List ℕ
list_after (refused k) l = l
list_after (paired total ws) l = over ws l
list_after (replied t) l = over (steps t) l

unfoldable pub count_of : Outcome → Counted
count_of (refused k) = Refused k
count_of (paired total ws) = Count total
count_of (replied t) = Count (length (steps t))

pub record Tells (o : Outcome) (before after : List ℕ) (a : Counted) : Type 0 where
  pub answer : a ≡ count_of o
  pub list : after ≡ list_after o before
