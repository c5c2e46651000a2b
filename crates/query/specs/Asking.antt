-- What a question that counts promises of any register, and so the pair questions of both engines; and the relation as rows.
--   Asks most r o before after a
--                   asked of the register r. Over any contents: no more than `most` are told, the words past them are as they were, all of them with a refusal,
--                   whose number is a cause's. For every book b that the register represents: answer and list are those of the outcome o b
--   max_pairs        the most pairs that there are of records
--   AsksFor d r v work before after a
--                   a pair question that the engine d answers, with a text of the verdict v, so many words of work and a list that held `before`
--   AsksPairs, AsksRows r text work before after a
--                   the same of a text, on trees and on rows of bits
--   row_words        the words of a relation's rows: 1,024 rows of 1,024 bits
--   relation_causes b v work rows, relation_answer b v work rows
--                   the causes against a relation that is asked for as rows, in their order, and its outcome, with so many words of work and of rows
--   RelationOf b v work before after a
--                   asked of the book b with a text of the verdict v, so many words of work and rows that held `before`: the answer a tells the outcome that
--                   the book gives, and the rows, which hold `after`, are the relation's
--   RelatesFor r v work before after a
--                   asked of the register r: over any contents as above, the words past the rows being as they were; for every book that it represents, so
--   Relates r text work before after a
--                   the same of a text
-- Assumes nothing: these are definitions.
use Rattle.std.specs.Prelude.{◌≡◌, List, [], ◌∷◌, ◌++◌, Bool, ◌||◌, ℕ, ◌*◌, ltb, length, take}
use Rattle.book.specs.Causes.{Cause, short_work, first_number, max_records}
use Rattle.book.specs.Book.{Book}
use Rattle.answers.specs.Answers.{counted, Contained}
use Rattle.answers.specs.declared.Counted.{Counted}
use Rattle.answers.specs.declared.Counted.TheVariants.{Count}
use Rattle.k2.specs.Bits.{bit_at}
use Rattle.paths.specs.Expressions.{Expr}
use Rattle.paths.specs.Grammar.{Verdict, accepted, verdict_cause}
use Rattle.paths.specs.Verdicts.{verdict}
use Rattle.paths.specs.Chains.{asked}
use Rattle.paths.specs.Relations.{cells}
use Rattle.paths.specs.Questions.{Outcome, Engine, by_trees, by_rows, paired, unless, pairs_work, pairs_of, pairs_answer, count_of, Tells}
use Rattle.rows.specs.Rows.{flat}
use Rattle.register.specs.Representation.{Represents}
use Rattle.register.specs.declared.Register.{Register}

pub record Asks (most : ℕ) (r : Register) (o : Book → Outcome) (before after : List ℕ) (a : Counted) : Type 0 where
  pub contained : Contained most (counted a) before after a
  pub book : (b : Book) → Represents r b → Tells (o b) before after a

-- ---- pair questions
abbrev pub max_pairs : ℕ
max_pairs = max_records * max_records

abbrev pub AsksFor : Engine → Register → Verdict → ℕ → List ℕ → List ℕ → Counted → Type 0
AsksFor d r v work before after a = Asks max_pairs r (λ b. pairs_answer d b v work (length before)) before after a

abbrev pub AsksPairs : Register → List ℕ → ℕ → List ℕ → List ℕ → Counted → Type 0
AsksPairs r text work before after a = AsksFor by_trees r (verdict text) work before after a

abbrev pub AsksRows : Register → List ℕ → ℕ → List ℕ → List ℕ → Counted → Type 0
AsksRows r text work before after a = AsksFor by_rows r (verdict text) work before after a

-- ---- the relation as rows
abbrev pub row_words : ℕ
row_words = 16384

unfoldable pub relation_causes : Book → Verdict → ℕ → ℕ → List (Cause × Bool)
relation_causes b v work rows = verdict_cause v ++ ((short_work, ltb work (pairs_work b.n) || ltb rows row_words) ∷ [])

unfoldable pub relation_answer : Book → Verdict → ℕ → ℕ → Outcome
relation_answer b v work rows = unless (first_number (relation_causes b v work rows)) (paired (length (pairs_of b v)) (pairs_of b v))

pub record RelationOf (b : Book) (v : Verdict) (work : ℕ) (before after : List ℕ) (a : Counted) : Type 0 where
  pub answer : a ≡ count_of (relation_answer b v work (length before))
  pub rows : (e : Expr) → v ≡ accepted e → (k : ℕ) → a ≡ Count k → bit_at (take row_words after) ≡ flat (cells (asked b) e)

pub record RelatesFor (r : Register) (v : Verdict) (work : ℕ) (before after : List ℕ) (a : Counted) : Type 0 where
  pub contained : Contained max_pairs row_words before after a
  pub book : (b : Book) → Represents r b → RelationOf b v work before after a

abbrev pub Relates : Register → List ℕ → ℕ → List ℕ → List ℕ → Counted → Type 0
Relates r text work before after a = RelatesFor r (verdict text) work before after a
