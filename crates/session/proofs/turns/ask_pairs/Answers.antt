-- before an open it is refused (`closed_turns`), else the answer is printed (`pairs_turns`).
-- Assumes nothing.
use mathlib.Core.Path.{refl}
use borrow.Author.Tests.{not-true, not-false}
use lib.ListN.{length}
use Rattle.book.specs.Causes.{number}
use Rattle.session.specs.Program.{asks, pairs, next_session, printing}
use Rattle.session.specs.Listing.{listing_left}
use Rattle.session.specs.TurnLaws.{closed_turns, pairs_turns}
use Rattle.session.proofs.turns.ask_pairs.Goals as goal

pub returns-then-not-state : goal.returns-then-not-state
unfolding next_session printing number
returns-then-not-state c =
    let s = c.args in
    let w = c.refuse in
    closed_turns s.state _ s.list.now s.list.now s.out.now w.new.out w.result (asks (pairs s.text.now))
    refl (λ v t. refl) (λ v t. refl) (not-true _ c.if-not-state.true) w.ensures.0 refl w.ensures.1

pub returns : goal.returns
returns c =
    let s = c.args in
    let a = c.answer_pairs-answer in
    let w = c.put_listing-written in
    pairs_turns s.state (length s.work.now) s.list.now _ s.out.now
    w.new.out _ s.text.now _ (not-false _ c.if-not-state.false) refl
    (listing_left s.list.now _ a.auto.list a.result a.ensures.past)
    a.ensures.book w.ensures
