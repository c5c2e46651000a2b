-- `host::edits::dating_fresh` stores the register that `engine::open` makes. Assumes nothing.
use mathlib.Core.Path.{sym, ◌∙◌}
use Rattle.book.specs.Causes.{number}
use Rattle.host.proofs.CarryLaws.{fresh_refused, fresh_short, fresh_made}
use Rattle.host.proofs.edits.dating_fresh.Goals as goal

pub returns-then-number-ne0 : goal.returns-then-number-ne0
returns-then-number-ne0 c = fresh_refused c.open-opened.ensures _ c.number_of-number.ensures c.if-number-ne0.true

pub returns-then-not-store : goal.returns-then-not-store
unfolding number
returns-then-not-store c =
    fresh_short c.open-opened.ensures _ (sym c.number_of-number.ensures ∙ c.if-number-ne0.false) _ _ c.store.ensures c.if-not-store.true

pub returns : goal.returns
returns c =
    fresh_made c.open-opened.ensures _ (sym c.number_of-number.ensures ∙ c.if-number-ne0.false) _ _ c.store.auto.words c.store.ensures
    c.if-not-store.false
