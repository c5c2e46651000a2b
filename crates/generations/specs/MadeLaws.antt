-- Generations asked of a register that calls made.
--   generations_made  the outcome and the list are those of the book after the calls
-- Assumes nothing.
use Rattle.std.specs.Prelude.{List, ℕ}
use Rattle.book.specs.Book.{Call, fresh, after}
use Rattle.register.specs.Made.{MadeBy}
use Rattle.register.specs.HistoryLaws.{made_history}
use Rattle.register.specs.declared.Register.{Register}
use Rattle.generations.specs.Generating.{BookGenerates, Generates}
use Rattle.generations.specs.declared.GenerationsAnswer.{GenerationsAnswer}

pub generations_made : {n : ℕ} {cs : List Call} {r : Register} → MadeBy n cs r → (ls : List ℕ) (work : ℕ) (list list' : List ℕ) (a : GenerationsAnswer)
    → Generates r ls work list list' a → BookGenerates (after (fresh n) cs) ls work list list' a
generations_made {n} {cs} M ls work list list' a G = G.book (after (fresh n) cs) (made_history M).2
