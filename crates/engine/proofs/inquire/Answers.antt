-- `replay` and the questions keep their promises, and what is asked of a history follows from them. Assumes nothing.
use Rattle.std.proofs.Common.{◌≡◌, sym, ap, ◌∙◌, subst, List, ℕ, arith}
use Rattle.std.proofs.Math.Path.{refl}
use Rattle.book.specs.Basics.{has, tally}
use Rattle.book.specs.Book.{fresh, total}
use Rattle.register.specs.Calls.{answer_number}
use Rattle.register.specs.History.{replay_number}
use Rattle.register.specs.HistoryLaws.{number_answer}
use Rattle.register.specs.LaidLaws.{replayed_gives}
use Rattle.register.specs.declared.Register.{Register}
use Rattle.chains.specs.Replies.{Replies}
use Rattle.answers.specs.declared.Counted.TheVariants.{Refused}
use Rattle.chains.specs.declared.ChainAnswer.{ChainAnswer}
use Rattle.chains.specs.declared.ChainAnswer.TheVariants.{Refused as Unanswered}
use Rattle.engine.specs.DemandLaws.{claims, replayed_calls, none_linked}
use Rattle.engine.proofs.inquire.Goals as goal

pub returns-then-number-ne0 : goal.returns-then-number-ne0
unfolding has fresh total tally
returns-then-number-ne0 c =
    let told = c.number_of-number.ensures in
    let p = c.replay-opened.ensures in
    let k : c.number_of-number.result ≡ replay_number _ _ _ _ = told ∙ ap answer_number p.answer ∙ number_answer _ in
    record {
      answer = p.answer;
      refused = λ n.
          let e = (p.refused n).2 in
          record {
            pairs = ap Refused k;
            chain = ap Unanswered k;
            told = (p.refused n).0;
            given = (p.refused n).1;
            list = refl;
            steps = refl;
            size = c.size-size.ensures.size (fresh 0) e;
            links = none_linked 0 _ (c.links-links.ensures.linked (fresh 0) e);
            marks = c.marks-marks.ensures.marks (fresh 0) e;
            totals = c.totals-totals.ensures.totals (fresh 0) e;
          };
      made = λ z. absurd (c.if-number-ne0.true (k ∙ z));
    }

-- the questions are lent the same work
lent : {e : Register} {x y : ℕ} {u : List ℕ} {k m : ℕ} {l l' : List ℕ} {t : ChainAnswer} → k ≡ m → Replies e x y u k l l' t → Replies e x y u m l l' t
lent {e} {x} {y} {u} {l = l} {l'} {t} q R = subst (λ (j : ℕ). Replies e x y u j l l' t) q R

pub returns : goal.returns
returns c =
    let replied = c.chain-chain.ensures in
    let long = c.pairs-pairs.auto.work in
    let asked = c.pairs-pairs.ensures in
    let p = c.replay-opened.ensures in
    let nought : c.number_of-number.result ≡ 0 = omega arith in
    let none : replay_number _ _ _ _ ≡ 0 =
    sym (number_answer _) ∙ sym (ap answer_number p.answer) ∙ sym c.number_of-number.ensures ∙ nought in
    record {
      answer = p.answer;
      refused = λ n. absurd (n none);
      made = λ z. record {
        told = p.told z;
        given = p.given z;
        pairs = asked.book _ (p.book z);
        chain = (lent long replied).answers _ (p.book z);
        demand =
            claims _ _
            (record {
              size = c.size-size.ensures;
              links = (_, c.links-links.ensures, refl);
              marks = c.marks-marks.ensures;
              totals = c.totals-totals.ensures;
              pairs = asked;
              chain = lent long replied;
            })
            (replayed_calls _ _ _ _ (p.told z)) (replayed_gives p z) (p.book z);
      };
    }
