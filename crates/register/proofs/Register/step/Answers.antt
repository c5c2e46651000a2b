-- `register::Register::step` meets its contract: a closing up has the front of the numbers, a call is applied, and no other kind is a call. Assumes nothing.
use mathlib.Core.Path.{◌≡◌, ◌∙◌}
use Prim.Native.Nat.{◌%◌}
use lib.ListN.{length, take}
use lib.Seq.{length-take-le}
use borrow.Author.Tests.{eq-eqb, ne_eqb}
use Rattle.book.specs.Causes.{number}
use Rattle.register.specs.History.{word_call}
use Rattle.register.specs.EntryLaws.{entry_call, entry-none}
use Rattle.register.specs.DraftLaws.{draft_kind}
use Rattle.register.proofs.ReplayLaws.{entry_closes, called, uncalled}
use Rattle.register.proofs.Register.step.Goals as goal

pub returns-then-word-eq-CLOSE_KIND : goal.returns-then-word-eq-CLOSE_KIND
unfolding word_call
returns-then-word-eq-CLOSE_KIND c =
    let a = c.args in
    let m = c.room_for-room in
    let o = c.close_up in
    let k : length o.new.numbers ≡ length (take m.result a.numbers.now) = o.auto.numbers in
    rw (eq-eqb _ _ c.if-word-eq-CLOSE_KIND.true)
    (entry_closes a.self (a.word % 1099511627776) m.result a.numbers.now o.new.numbers o.result m.ensures
    (k ∙ length-take-le m.result a.numbers.now m.ensures.within) o.ensures)

pub returns-in-Call : goal.returns-in-Call
unfolding word_call
returns-in-Call c =
    rw (ne_eqb _ _ c.if-word-eq-CLOSE_KIND.false)
    (called _ _ _ _ (entry_call (c.entry_at-entry.ensures ∙ draft_kind _) c.in-Call.is) c.apply.ensures)

pub returns-in-NoCall : goal.returns-in-NoCall
unfolding word_call number
returns-in-NoCall c =
    rw (ne_eqb _ _ c.if-word-eq-CLOSE_KIND.false)
    (uncalled _ _ (entry-none (c.entry_at-entry.ensures ∙ draft_kind _) c.in-NoCall.is))
