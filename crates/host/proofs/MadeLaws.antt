-- What is asked of words that exported calls made is answered as of the plain book after the calls, refusals too.
--   asked_exported  of every exported question that counts: the number tells the book's answer, and the list or space is as that answer leaves it
--   preview_exported, chain_exported, generations_exported, offsets_exported
--                   so of a preview of a call, and of the questions that say more than a count
-- Assumes nothing.
use Rattle.std.specs.Prelude.{List, ℕ, ℤ, length}
use Rattle.book.specs.Book.{Book, Call, is_withdrawn, fresh, after}
use Rattle.paths.specs.Verdicts.{verdict}
use Rattle.paths.specs.Questions.{Outcome, Tells}
use Rattle.register.specs.History.{Lent, is-call}
use Rattle.query.specs.Asking.{Asks}
use Rattle.chains.specs.Replies.{BookReplies, Replies}
use Rattle.engine.specs.Previews.{preview_answer}
use Rattle.generations.specs.Generating.{BookGenerates, Generates}
use Rattle.offsets.specs.Answers.{OffsetsFor, told_offsets, OffsetsTold}
use Rattle.offsets.specs.declared.Tie.{Tie}
use Rattle.host.specs.Host.{KeepsBook, told_counted, told_chain, Told, Asked}
use Rattle.host.specs.Histories.{WordsMade}
use Rattle.host.proofs.HostLaws.{words_made, asked_book, chain_book}
use Rattle.host.specs.Previews.{Previewed, foreseen}
use Rattle.host.specs.Generations.{told_generations}
use Rattle.host.proofs.GenerationsLaws.{generations_book}
use Rattle.host.proofs.OffsetsLaws.{offsets_book}

module _ {n : ℕ} {cs : List Call} {ws vs ks : List ℕ} {ls : List Lent} (M : WordsMade n cs ws vs ks ls) where
  kept : KeepsBook vs (after (fresh n) cs)
  kept = (words_made M).2

  pub offsets_exported : (base : ℕ) (ts : List Tie) (work : ℕ) {before after' : List ℤ} {k : ℕ} → OffsetsTold vs base ts work before after' k
      → Told (OffsetsFor (after (fresh n) cs).n (is_withdrawn (after (fresh n) cs).sheet) base ts work before after') told_offsets k
  offsets_exported base ts work q = offsets_book base ts work (after (fresh n) cs) kept q

  module _ {before after' : List ℕ} {k : ℕ} where
    pub asked_exported : {most : ℕ} {o : Book → Outcome} → Asked vs (λ r. Asks most r o before after') told_counted before after' k
        → Told (Tells (o (after (fresh n) cs)) before after') told_counted k
    asked_exported q = asked_book q (after (fresh n) cs) kept

    module _ (text : List ℕ) (work : ℕ) where
      pub preview_exported : (c : Call) → Previewed vs text work before after' k (is-call c)
          → Told (Tells (preview_answer (after (fresh n) cs) c (verdict text) work (length before)) before after') told_counted k
      preview_exported c (foreseen q) = asked_exported q

      pub chain_exported : (x y : ℕ) → Asked vs (λ r. Replies r x y text work before after') told_chain before after' k
          → Told (BookReplies (after (fresh n) cs) x y text work before after') told_chain k
      chain_exported x y q = chain_book x y text work q (after (fresh n) cs) kept

  pub generations_exported : (ls : List ℕ) (work : ℕ) {before after' : List ℕ} {k : ℕ}
      → Asked vs (λ r. Generates r ls work before after') told_generations before after' k
      → Told (BookGenerates (after (fresh n) cs) ls work before after') told_generations k
  generations_exported ls work q = generations_book ls work (after (fresh n) cs) kept q
