-- Offsets asked of words that keep a book.
--   offsets_book    the number tells an answer for the book's n and its withdrawn records, and the list is as that answer leaves it
--   limits_told, cannot_told
--                   which answer a number tells, of an answer of fewer than 2^32 words
-- Assumes nothing.
use Rattle.std.specs.Prelude.{◌≡◌, refl, List, ℕ, ◌<◌, ℤ}
use Rattle.std.proofs.Common.{ap, arith}
use Rattle.book.specs.Book.{Book, is_withdrawn}
use Rattle.answers.specs.Answers.{counted}
use Rattle.offsets.specs.Answers.{OffsetsAnswer, Limits, CannotHold, Refused, OffsetsFor, offsets_counted, told_offsets, OffsetsTold}
use Rattle.offsets.specs.declared.Tie.{Tie}
use Rattle.host.specs.Host.{KeepsBook, past_counts, Told}

pub offsets_book : {ws : List ℕ} {before after : List ℤ} {k : ℕ} (base : ℕ) (ts : List Tie) (work : ℕ) (b : Book) → KeepsBook ws b
    → OffsetsTold ws base ts work before after k → Told (OffsetsFor b.n (is_withdrawn b.sheet) base ts work before after) told_offsets k
offsets_book base ts work b h q = let t = q.answers h.0 h.1 in (t.0, t.1.0.book b h.2, t.1.1)

pub limits_told : (a : OffsetsAnswer) (k : ℕ) → told_offsets a ≡ k → k < past_counts → a ≡ Limits k
limits_told (Limits j) k e l = ap Limits e
limits_told CannotHold k e l = absurd (omega arith)
limits_told (Refused j) k e l = absurd (omega arith)

pub cannot_told : (a : OffsetsAnswer) → told_offsets a ≡ past_counts → counted (offsets_counted a) < past_counts → a ≡ CannotHold
unfolding counted offsets_counted
cannot_told (Limits j) e l = absurd (omega arith)
cannot_told CannotHold e l = refl
cannot_told (Refused j) e l = absurd (omega arith)
