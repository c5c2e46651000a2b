-- `register::Register::store` copies the numbers and the four arrays one behind another, after the tests. Assumes nothing.
use Rattle.register.specs.Inner.{AsLong}
use Rattle.register.proofs.StepLaws.{inside}
use Rattle.register.proofs.KeepLaws.{stored}
use borrow.Author.Rules.{rules}
use Rattle.register.proofs.Register.store.Goals as goal
use Rattle.register.proofs.Register.store.Goals.{Start}

as_long : (c : Start) → AsLong c.args.self.links c.args.self.marks c.args.self.ring c.args.self.totals
as_long c = (search rules, search rules, search rules, search rules)

pub returns : goal.returns
returns c =
    stored c.args.self (inside c.args.self c.ranged.result c.ranged.ensures c.if-not-ranged.false) (c.marked.ensures.sure c.if-not-marked.false)
    (as_long ((goal.at.returns c).Start)) c.args.words.now c.copy_u32.new.to
    c.copy_u32-2.new.to c.copy_u32-3.new.to c.copy_u32-4.new.to
    c.copy_u32-5.new.to c.if-words-lt-STATE_WORDS.false c.copy_u32.ensures c.copy_u32-2.ensures
    c.copy_u32-3.ensures c.copy_u32-4.ensures c.copy_u32-5.ensures
