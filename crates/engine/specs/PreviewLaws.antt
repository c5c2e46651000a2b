-- Laws of previews.
--   accepted_as      an accepted call is accepted by every book that the register represents
--   preview_refused  a refused call's number, with the list as it was, is what a preview promises
--   preview_asked    what the question gives on the register that an accepted call hands back is what a preview promises
--   preview_same     a preview gives what the question gives on the register that the call hands back: of an accepted call the same answer and the same list;
--                    of a refused one its number, and the list as it was
--   preview_rows     of an accepted call also what the question by rows gives there, with work enough for either
--   preview_made     of every register that calls made: what the book gives
-- Assumes nothing.
use Rattle.std.specs.Prelude.{◌≡◌, refl, List, ℕ, zero, suc, ◌≤◌, ◌<◌, length}
use Rattle.std.proofs.Common.{sym, ◌∙◌, arith}
use Rattle.std.proofs.Math.Path.{ap}
use Rattle.book.specs.Causes.{Caused}
use Rattle.book.specs.Book.{Book, Call, answer, next, fresh, after}
use Rattle.book.proofs.BookLaws.{caused_positive}
use Rattle.answers.specs.declared.Counted.{Counted}
use Rattle.answers.specs.declared.Counted.TheVariants.{Refused}
use Rattle.paths.specs.Verdicts.{verdict}
use Rattle.paths.specs.Questions.{refused, Outcome as Question-as-Outcome, by_trees, by_rows, unless, pairs_work, rows_work, pairs_answer, list_after, count_of}
use Rattle.paths.specs.Questions.{Tells}
use Rattle.register.specs.Representation.{Represents}
use Rattle.register.specs.Calls.{answer_number, Steps}
use Rattle.register.specs.HistoryLaws.{number_answer, by_number}
use Rattle.register.specs.Made.{MadeBy}
use Rattle.register.specs.declared.Register.{Register}
use Rattle.register.specs.declared.Outcome.{Outcome}
use Rattle.register.specs.declared.Answer.{Answer}
use Rattle.register.specs.declared.Answer.TheVariants.{Done, Refused as Turned-down}
use Rattle.query.specs.Asking.{max_pairs, AsksPairs, AsksRows}
use Rattle.query.proofs.AskingLaws.{asks_refused, engines_outcome, tells_same}
use Rattle.engine.specs.BookLaws.{made_book}
use Rattle.engine.specs.Previews.{preview_answer, Previews}

-- an answer by its number: no cause has the number 0
by_zero : (a : Answer) (k : ℕ) → ((j : ℕ) → a ≡ Turned-down j → Caused j) → k ≡ answer_number a → k ≡ 0 → a ≡ Done
by_zero Done k c e z = refl
by_zero (Turned-down j) k c e z = absurd (omega (arith, e, z, caused_positive (c j refl)))

-- a number that is not 0 refuses
unless_refused : (k : ℕ) (o : Question-as-Outcome) → 0 < k → unless k o ≡ refused k
unless_refused zero o h = absurd (omega arith)
unless_refused (suc k) o h = refl

module _ {r : Register} {c : Call} {o : Outcome} (s : Steps r c o) where
  -- the book's answer, by the answer of the call
  refused_as : (k : ℕ) → o.answer ≡ Turned-down k → (b : Book) → Represents r b → answer b c ≡ k
  refused_as k e b R = sym (ap answer_number (sym e ∙ s.answers b R) ∙ number_answer (answer b c))

  pub accepted_as : o.answer ≡ Done → (b : Book) → Represents r b → answer b c ≡ 0
  accepted_as e b R = sym (ap answer_number (sym e ∙ s.answers b R) ∙ number_answer (answer b c))

  module _ (text : List ℕ) (work : ℕ) (before : List ℕ) where
    refused_outcome : (k : ℕ) → o.answer ≡ Turned-down k → (b : Book) → Represents r b → preview_answer b c (verdict text) work (length before) ≡ refused k
    unfolding preview_answer
    refused_outcome k e b R =
        rw (refused_as k e b R) (unless_refused k (pairs_answer by_trees (next b c) (verdict text) work (length before)) (caused_positive (s.caused k e)))

    accepted_outcome : o.answer ≡ Done → (b : Book) → Represents r b
        → preview_answer b c (verdict text) work (length before) ≡ pairs_answer by_trees (next b c) (verdict text) work (length before)
    unfolding preview_answer
    accepted_outcome e b R = rw (accepted_as e b R)

    pub preview_refused : (k : ℕ) → k ≡ answer_number o.answer → (k ≡ 0 → ⊥) → Previews r c text work before before (Refused k)
    preview_refused k n z = let e = by_number o.answer k n z in asks_refused max_pairs r _ before k (s.caused k e) (refused_outcome k e)

    pub preview_asked : {after : List ℕ} {a : Counted} (k : ℕ) → k ≡ answer_number o.answer → k ≡ 0 → AsksPairs o.register text work before after a
        → Previews r c text work before after a
    preview_asked k n z Q =
        let e = by_zero o.answer k s.caused n z in
        record {
          contained = Q.contained;
          book = λ b R. rw (accepted_outcome e b R) (Q.book (next b c) (s.follows b R));
        }

    pub preview_same : {after : List ℕ} {a : Counted} → Previews r c text work before after a → (b : Book) → Represents r b
        → (o.answer ≡ Done → (after' : List ℕ) (a' : Counted) → AsksPairs o.register text work before after' a' → (a ≡ a') × (after ≡ after'))
        × ((k : ℕ) → o.answer ≡ Turned-down k → (a ≡ Refused k) × (after ≡ before))
    unfolding list_after count_of
    preview_same P b R = (
      λ e after' a' Q. tells_same (accepted_outcome e b R) (P.book b R) (Q.book (next b c) (s.follows b R)),
      λ k e.
          let p = P.book b R in
          let u = refused_outcome k e b R in
          (p.answer ∙ ap count_of u, p.list ∙ ap (λ (t : Question-as-Outcome). list_after t before) u),
    )

    -- and what the question by rows gives there, with work enough for either
    pub preview_rows : {after : List ℕ} {a : Counted} → Previews r c text work before after a → (b : Book) → Represents r b
        → o.answer ≡ Done → pairs_work (next b c).n ≤ work → (rows : ℕ) → rows_work (next b c).n ≤ rows
        → (after' : List ℕ) (a' : Counted) → AsksRows o.register text rows before after' a' → (a ≡ a') × (after ≡ after')
    preview_rows P b R e h rows l after' a' Q =
        tells_same (accepted_outcome e b R ∙ engines_outcome by_trees by_rows (next b c) work rows h l (verdict text) (length before))
        (P.book b R) (Q.book (next b c) (s.follows b R))

-- of every register that calls made
pub preview_made : {n : ℕ} {cs : List Call} {r : Register} → MadeBy n cs r → (c : Call) (text : List ℕ) (work : ℕ) (before after' : List ℕ) (a : Counted)
    → Previews r c text work before after' a → Tells (preview_answer (after (fresh n) cs) c (verdict text) work (length before)) before after' a
preview_made {n} {cs} M c text work before after' a P = P.book (after (fresh n) cs) (made_book M)
