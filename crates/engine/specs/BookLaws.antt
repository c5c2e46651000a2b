-- What the engine promises of the book of a register that calls made: a crate above proves with this and with the calls' contracts, and needs nothing else of
-- a register.
--   made_book   a register that calls made represents the book after them
-- Assumes nothing.
use Rattle.std.specs.Prelude.{List, ℕ}
use Rattle.book.specs.Book.{Call, fresh, after}
use Rattle.register.specs.HistoryLaws.{made_history}
use Rattle.register.specs.Made.{MadeBy}
use Rattle.register.specs.Representation.{Represents}
use Rattle.register.specs.declared.Register.{Register}

pub made_book : {n : ℕ} {cs : List Call} {r : Register} → MadeBy n cs r → Represents r (after (fresh n) cs)
made_book M = (made_history M).2
