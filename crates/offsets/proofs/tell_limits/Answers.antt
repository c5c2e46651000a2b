-- By the number, the flag and the lengths. Assumes nothing.
use Rattle.std.proofs.Common.{refl, ◌*◌}
use Rattle.book.specs.Causes.{short_work, short_list, number}
use Rattle.offsets.specs.Answers.{Limits, CannotHold, Refused}
use Rattle.offsets.specs.Inner.{cannot_hold, scant, short, told}
use Rattle.offsets.proofs.PlanLaws.{hand_refused}
use Rattle.offsets.proofs.tell_limits.Goals as goal

pub returns-then-cause-ne0 : goal.returns-then-cause-ne0
returns-then-cause-ne0 c = hand_refused c.args.cause c.args.n c.args.on c.args.work.now c.args.list.now c.if-cause-ne0.true c.told_refusal.ensures

pub returns-then-on : goal.returns-then-on
returns-then-on c = (CannotHold, (cannot_hold c.if-cause-ne0.false c.if-on.true refl, refl))

pub returns-then-work-k : goal.returns-then-work-k
unfolding number
returns-then-work-k c = (Refused (number short_work), (scant c.if-cause-ne0.false c.if-work-k.true refl, c.told_refusal-then-work-k.ensures))

pub returns-then-list-k : goal.returns-then-list-k
unfolding number
returns-then-list-k c = (Refused (number short_list), (short c.if-cause-ne0.false c.if-on.false c.if-list-k.true refl, c.told_refusal-then-list-k.ensures))

pub returns : goal.returns
returns c = (Limits (c.args.n * 2), (told c.if-cause-ne0.false c.if-on.false c.if-list-k.false c.tell.ensures.0 c.tell.ensures.1, refl))
