-- A preview: what a pair question would give if an edit or an undo were made. Nothing is made: the register stays as it is.
--   preview_answer b c v work room
--                   the outcome of previewing the call c of the book b, and a pair question about a text of the verdict v, with so many words of work and
--                   room for so many in the list: the call's number if the book refuses it, else the question's outcome on the book after it
--   Previews r c text work before after a
--                   asked of the register r
-- Assumes nothing: these are definitions.
use Rattle.std.specs.Prelude.{List, ℕ, length}
use Rattle.book.specs.Book.{Book, Call, answer, next}
use Rattle.answers.specs.declared.Counted.{Counted}
use Rattle.paths.specs.Grammar.{Verdict}
use Rattle.paths.specs.Verdicts.{verdict}
use Rattle.paths.specs.Questions.{Outcome, by_trees, unless, pairs_answer}
use Rattle.query.specs.Asking.{Asks, max_pairs}
use Rattle.register.specs.declared.Register.{Register}

unfoldable pub preview_answer : Book → Call → Verdict → ℕ → ℕ → Outcome
preview_answer b c v work room = unless (answer b c) (pairs_answer by_trees (next b c) v work room)

abbrev pub Previews : Register → Call → List ℕ → ℕ → List ℕ → List ℕ → Counted → Type 0
Previews r c text work before after a = Asks max_pairs r (λ b. preview_answer b c (verdict text) work (length before)) before after a
