-- Each way out by a law of `StartLaws`. Assumes nothing.
use Rattle.offsets.proofs.StartLaws.{at_zero, at_most, at_least, at_far}
use Rattle.offsets.proofs.first_number.Goals as goal

pub returns-then-i-n : goal.returns-then-i-n
returns-then-i-n c = at_zero c.args.n c.args.base c.args.i c.if-i-n.true

pub returns-then-i-n-2 : goal.returns-then-i-n-2
returns-then-i-n-2 c = at_most c.args.n c.args.base c.args.i c.if-i-n.false c.if-i-n-2.true

pub returns-then-i-n-3 : goal.returns-then-i-n-3
returns-then-i-n-3 c = at_least c.args.n c.args.base c.args.i c.if-i-n.false c.if-i-n-2.false c.if-i-n-3.true

pub returns : goal.returns
returns c = at_far c.args.n c.args.base c.args.i c.if-i-n.false c.if-i-n-2.false c.if-i-n-3.false
