-- before an open it is refused (`closed_turns`), else the engine's answer is printed (`total_turns`).
-- Assumes nothing.
use mathlib.Core.Path.{refl}
use borrow.Author.Tests.{not-true, not-false}
use Rattle.book.specs.Causes.{number}
use Rattle.session.specs.Program.{asks, totalling, next_session, printing}
use Rattle.session.specs.TurnLaws.{closed_turns, total_turns}
use Rattle.session.proofs.turns.ask_total.Goals as goal

pub returns-then-not-state : goal.returns-then-not-state
unfolding next_session printing number
returns-then-not-state c =
    let s = c.args in
    let w = c.refuse in
    λ work l. closed_turns s.state work l l s.out.now w.new.out w.result (asks (totalling s.label)) refl
    (λ v t. refl) (λ v t. refl) (not-true _ c.if-not-state.true) w.ensures.0 refl w.ensures.1

pub returns : goal.returns
returns c =
    let s = c.args in
    let a = c.total-answer in
    let w = c.put_total-written in
    λ work l. total_turns s.state work l l s.out.now w.new.out _ s.label a.result
    a.ensures (not-false _ c.if-not-state.false) refl refl w.ensures
