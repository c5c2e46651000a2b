-- Offsets asked of a register that calls made.
--   offsets_made    the answer and the list are those of the records of the book after the calls
-- Assumes nothing.
use Rattle.std.specs.Prelude.{List, ℕ, ℤ}
use Rattle.book.specs.Book.{Call, is_withdrawn, fresh, after}
use Rattle.register.specs.Made.{MadeBy}
use Rattle.register.specs.HistoryLaws.{made_history}
use Rattle.register.specs.declared.Register.{Register}
use Rattle.offsets.specs.Answers.{OffsetsAnswer, OffsetsFor, AsksOffsets}
use Rattle.offsets.specs.declared.Tie.{Tie}

pub offsets_made : {n : ℕ} {cs : List Call} {r : Register} → MadeBy n cs r → (base : ℕ) (ts : List Tie) (work : ℕ) (before after' : List ℤ)
    (a : OffsetsAnswer) → AsksOffsets r base ts work before after' a
    → OffsetsFor (after (fresh n) cs).n (is_withdrawn (after (fresh n) cs).sheet) base ts work before after' a
offsets_made {n} {cs} M base ts work before after' a A = A.book (after (fresh n) cs) (made_history M).2
