-- before an open it is refused (`closed_turns`), else it is the register's call (`call_turns`). Assumes nothing.
use mathlib.Core.Path.{refl, ap}
use borrow.Author.Tests.{not-true, not-false}
use Rattle.book.specs.Causes.{number}
use Rattle.register.specs.Calls.{call_of}
use Rattle.report.specs.Report.{answer_text}
use Rattle.answers.specs.WrittenLaws.{wrote_as}
use Rattle.session.specs.Program.{asks, call, next_session, printing}
use Rattle.session.specs.TurnLaws.{closed_turns, call_turns}
use Rattle.session.proofs.turns.edit.Goals as goal

pub returns-then-not-state : goal.returns-then-not-state
unfolding next_session printing number
returns-then-not-state c =
    let s = c.args in
    let w = c.refuse in
    λ work l. closed_turns s.state work l l s.out.now w.new.out w.result (asks (call (call_of s.call))) refl
    (λ v t. refl) (λ v t. refl) (not-true _ c.if-not-state.true) w.ensures.0 refl w.ensures.1

pub returns : goal.returns
returns c =
    let s = c.args in
    let o = c.apply-outcome in
    let w = c.put_answer-written in
    λ work l. call_turns s.state work l l s.out.now w.new.out _ (call_of s.call) o.result o.ensures
    (not-false _ c.if-not-state.false) refl refl refl (wrote_as (ap answer_text c.number_of.ensures) w.ensures)
