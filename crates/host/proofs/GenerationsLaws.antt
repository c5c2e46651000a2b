-- What the promise of generations over words says of the plain book, and which answer a number tells. Assumes nothing.
--   generations_book
--                   asked of words that keep a book: the number tells the book's outcome, and the list is as that outcome leaves it
--   numbers_told, loop_told
--                   the answer that a number tells, of an answer of fewer than 2^32 words
use Rattle.std.specs.Prelude.{◌≡◌, List, ℕ, ◌+◌, ◌<◌}
use Rattle.std.proofs.Common.{ap, arith}
use Rattle.book.specs.Book.{Book}
use Rattle.answers.specs.Answers.{counted}
use Rattle.generations.specs.Generating.{generations_counted, BookGenerates, Generates}
use Rattle.generations.specs.declared.GenerationsAnswer.{GenerationsAnswer}
use Rattle.generations.specs.declared.GenerationsAnswer.TheVariants.{Numbers, Loop, Refused}
use Rattle.host.specs.Host.{KeepsBook, past_counts, Told, Asked}
use Rattle.host.specs.Generations.{told_generations}

pub generations_book : {ws before after : List ℕ} {k : ℕ} (ls : List ℕ) (work : ℕ) (b : Book) → KeepsBook ws b
    → Asked ws (λ r. Generates r ls work before after) told_generations before after k → Told (BookGenerates b ls work before after) told_generations k
generations_book ls work b h q = let t = q.answers h.0 h.1 in (t.0, t.1.book b h.2, t.2)

pub numbers_told : (a : GenerationsAnswer) (k : ℕ) → told_generations a ≡ k → k < past_counts → a ≡ Numbers k
numbers_told (Numbers j) k e l = ap Numbers e
numbers_told (Loop j) k e l = absurd (omega arith)
numbers_told (Refused j) k e l = absurd (omega arith)

pub loop_told : (a : GenerationsAnswer) (k : ℕ) → told_generations a ≡ past_counts + k → k < past_counts → counted (generations_counted a) < past_counts
    → a ≡ Loop k
unfolding counted generations_counted
loop_told (Numbers j) k e l s = absurd (omega arith)
loop_told (Loop j) k e l s = let z : j ≡ k = omega arith in ap Loop z
loop_told (Refused j) k e l s = absurd (omega arith)
