-- What the answers of the questions say.
--   total_said a    what the answer a to asking for a total prints
--   total-said     of the answer that a register gives, it is the text of its number and total
--   listing a l    the outcome that the answer a to a pair question says, with the pairs in the first words of the list l
--   listing_is     of a question that keeps its promise it is the outcome itself
--   AnswersPairs r text work before after a
--                  what the program's answer to a pair question of the register r promises: over any contents the words past the pairs are as they were; for
--                  every book that the register represents, it says what the program must, and the list is that outcome's
--   engine_answers the engine that the program asks
--   listing_left, reply_left
--                  an answer that leaves the words past it leaves the list that its outcome does
-- Assumes nothing.
use Rattle.std.specs.Prelude.{◌≡◌, refl, ℕ, zero, suc, ◌≤◌, ◌<◌, take, drop}
use Rattle.std.proofs.Math.Path.{sym}
use Rattle.std.proofs.Common.{ap, ◌∙◌, arith, take-append-drop, drop_of_length-le, take_at, take_all, length-take-le}
use mathlib.Core.List.{List, ◌++◌, append-nil}
use Rattle.std.proofs.Math.Decide.{dec_lt}
use Rattle.std.proofs.Math.ListN.{length}
use Rattle.book.specs.Causes.{first_number}
use Rattle.book.specs.Book.{Book}
use Rattle.paths.specs.Grammar.{Verdict}
use Rattle.answers.specs.Answers.{counted, answered}
use Rattle.answers.specs.declared.Counted.{Counted}
use Rattle.answers.specs.declared.Counted.TheVariants.{Count, Refused}
use Rattle.paths.specs.Questions.{Outcome, Engine, refused, paired, unless, pairs_of, pairs_causes, pairs_answer, steps, over, list_after, count_of, Tells}
use Rattle.paths.specs.Verdicts.{verdict}
use Rattle.register.specs.Questions.{Sized}
use Rattle.register.specs.Representation.{Represents}
use Rattle.register.specs.declared.Register.{Register}
use Rattle.report.specs.Report.{refused_text, total_text}
use Rattle.query.specs.Asking.{AsksFor}
use Rattle.chains.specs.Replies.{outcome_of, chain_counted}
use Rattle.chains.specs.declared.ChainAnswer.{ChainAnswer}
use Rattle.chains.specs.declared.ChainAnswer.TheVariants.{Chain, NoChain, Refused as Unanswered}
use Rattle.session.specs.Program.{engine_for}

unfoldable pub total_said : Counted → List ℕ
total_said (Count t) = total_text 0 t
total_said (Refused k) = refused_text k

pub total-said : (k t : ℕ) → total_said (answered k t) ≡ total_text k t
unfolding total_said total_text answered
total-said zero t = refl
total-said (suc k) t = refl

unfoldable pub listing : Counted → List ℕ → Outcome
listing (Count k) l = paired k (take k l)
listing (Refused k) l = refused k

-- the words of ps that stand in a list over whose front they were written, as many as it takes
front_over : (ps l : List ℕ) → take (length ps) (over (take (length l) ps) l) ≡ take (length l) ps
front_over ps l = go (dec_lt (length l) (length ps))
  where
    go : Dec (length l < length ps) → take (length ps) (over (take (length l) ps) l) ≡ take (length l) ps
    go (yes h) =
        let n : length (take (length l) ps) ≡ length l = length-take-le (length l) ps (omega arith) in
        let e : over (take (length l) ps) l ≡ take (length l) ps =
        ap (λ (t : List ℕ). take (length l) ps ++ t) (drop_of_length-le l {i = length (take (length l) ps)} (omega arith)) ∙ append-nil (take (length l) ps) in
        ap (take (length ps)) e ∙ take_all (length ps) (take (length l) ps) (omega arith)
    go (no h) = rw (take_all (length l) ps (omega arith)) (take_at ps (drop (length ps) l) (length ps) refl)

by_number : (k : ℕ) (ps before after : List ℕ) (a : Counted) → Tells (unless k (paired (length ps) (take (length before) ps))) before after a
    → listing a after ≡ unless k (paired (length ps) (take (length before) ps))
unfolding listing list_after count_of
by_number zero ps before after a t = rw t.answer (ap (paired (length ps)) (ap (take (length ps)) t.list ∙ front_over ps before))
by_number (suc k) ps before after a t = rw t.answer refl

listing_is : (d : Engine) (b : Book) (v : Verdict) (work : ℕ) (a : Counted) (before after : List ℕ)
    → Tells (pairs_answer d b v work (length before)) before after a → listing a after ≡ pairs_answer d b v work (length before)
unfolding pairs_answer
listing_is d b v work a before after t = by_number (first_number (pairs_causes d b v work)) (pairs_of b v) before after a t

pub record AnswersPairs (r : Register) (text : List ℕ) (work : ℕ) (before after : List ℕ) (a : Counted) : Type 0 where
  pub past : drop (counted a) after ≡ drop (counted a) before
  pub book : (b : Book) → Represents r b → (listing a after ≡ pairs_answer (engine_for b.n) b (verdict text) work (length before))
      × (after ≡ list_after (pairs_answer (engine_for b.n) b (verdict text) work (length before)) before)

pub engine_answers : {r : Register} {n work : ℕ} {text before after : List ℕ} {a : Counted} (d : Engine) → Sized r n → engine_for n ≡ d
    → AsksFor d r (verdict text) work before after a → AnswersPairs r text work before after a
engine_answers {n = n} {work} {text} {before} {after} {a} d S e A = record {
  past = A.contained.past;
  book = λ b R.
      let t = A.book b R in
      rw (ap engine_for (sym (S.size b R)) ∙ e) (listing_is d b (verdict text) work a before after t, t.list);
}

-- the first k words are the answer's
over_front : (k : ℕ) (before after : List ℕ) → k ≤ length before → length after ≡ length before
    → drop k after ≡ drop k before → after ≡ over (take k after) before
over_front k before after h same past =
    let size : length (take k after) ≡ k = length-take-le k after (omega arith) in
    sym (take-append-drop k after) ∙ ap (λ (l : List ℕ). take k after ++ l) (past ∙ ap (λ (n : ℕ). drop n before) (sym size))

module _ (before after : List ℕ) (same : length after ≡ length before) where
  pub listing_left : (a : Counted) → drop (counted a) after ≡ drop (counted a) before → after ≡ list_after (listing a after) before
  unfolding counted listing list_after
  listing_left (Refused k) past = past
  listing_left (Count k) past = go (dec_lt (length before) k)
    where
      go : Dec (length before < k) → after ≡ over (take k after) before
      go (yes h) =
          sym (rw (take_all k after (omega arith)) (ap (λ (t : List ℕ). after ++ t) (drop_of_length-le before {i = length after} (omega arith))
          ∙ append-nil after))
      go (no h) = over_front k before after (omega arith) same past

  pub reply_left : (a : ChainAnswer) → counted (chain_counted a) ≤ length before
      → drop (counted (chain_counted a)) after ≡ drop (counted (chain_counted a)) before → after ≡ list_after (outcome_of a after) before
  unfolding counted chain_counted outcome_of list_after steps
  reply_left (Chain k) h past = over_front k before after h same past
  reply_left NoChain h past = past
  reply_left (Unanswered k) h past = past
