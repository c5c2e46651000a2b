-- before an open it is refused (`closed_turns`), else the engine's answer is printed (`chain_turns`).
-- Assumes nothing.
use mathlib.Core.Path.{refl}
use borrow.Author.Tests.{not-true, not-false}
use lib.ListN.{length}
use Rattle.book.specs.Causes.{number}
use Rattle.session.specs.Program.{asks, chain, next_session, printing}
use Rattle.session.specs.Listing.{reply_left}
use Rattle.session.specs.TurnLaws.{closed_turns, chain_turns}
use Rattle.session.proofs.turns.ask_chain.Goals as goal

pub returns-then-not-state : goal.returns-then-not-state
unfolding next_session printing number
returns-then-not-state c =
    let s = c.args in
    let w = c.refuse in
    closed_turns s.state _ s.list.now s.list.now s.out.now w.new.out w.result (asks (chain s.x s.y s.text.now))
    refl (λ v t. refl) (λ v t. refl) (not-true _ c.if-not-state.true) w.ensures.0 refl w.ensures.1

pub returns : goal.returns
returns c =
    let s = c.args in
    let a = c.chain-answer in
    let w = c.put_reply-written in
    chain_turns s.state (length s.work.now) s.list.now _ s.out.now
    w.new.out _ s.x s.y s.text.now _ (not-false _ c.if-not-state.false) refl
    (reply_left s.list.now _ a.auto.list a.result a.ensures.contained.fits a.ensures.contained.past)
    a.ensures.answers w.ensures
