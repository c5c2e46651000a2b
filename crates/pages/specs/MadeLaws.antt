-- Pages asked of a register that calls made.
--   pages_made      the answer and the space are those of the book after the calls
-- Assumes nothing.
use Rattle.std.specs.Prelude.{List, ℕ, length}
use Rattle.book.specs.Book.{Call, fresh, after}
use Rattle.register.specs.Made.{MadeBy}
use Rattle.register.specs.declared.Register.{Register}
use Rattle.engine.specs.BookLaws.{made_book}
use Rattle.answers.specs.declared.Counted.{Counted}
use Rattle.paths.specs.Questions.{Tells}
use Rattle.pages.specs.PageCalls.{print_outcome, Prints}

pub pages_made : {n : ℕ} {cs : List Call} {r : Register} → MadeBy n cs r → (text : List ℕ) (work : ℕ) (before after' : List ℕ) (a : Counted)
    → Prints r text work before after' a → Tells (print_outcome (after (fresh n) cs) text work (length before)) before after' a
pages_made {n} {cs} M text work before after' a P = P.book (after (fresh n) cs) (made_book M)
