-- Sole support asked of a register that calls made.
--   support_made    the answer and the list are those of the book after the calls
-- Assumes nothing.
use Rattle.std.specs.Prelude.{List, ℕ, length}
use Rattle.book.specs.Book.{Call, fresh, after}
use Rattle.paths.specs.Verdicts.{verdict}
use Rattle.register.specs.Made.{MadeBy}
use Rattle.register.specs.declared.Register.{Register}
use Rattle.engine.specs.BookLaws.{made_book}
use Rattle.answers.specs.declared.Counted.{Counted}
use Rattle.paths.specs.Questions.{Tells}
use Rattle.support.specs.Support.{support_outcome, Supports}

pub support_made : {n : ℕ} {cs : List Call} {r : Register} → MadeBy n cs r → (core : ℕ) (text anchors : List ℕ) (work : ℕ) (before after' : List ℕ)
    (a : Counted) → Supports r core text anchors work before after' a
    → Tells (support_outcome (after (fresh n) cs) core (verdict text) anchors work (length before)) before after' a
support_made {n} {cs} M core text anchors work before after' a S = S.book (after (fresh n) cs) (made_book M)
