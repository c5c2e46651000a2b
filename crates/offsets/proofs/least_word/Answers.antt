-- Each way out by a law of `TellLaws`. Assumes nothing.
use Rattle.std.proofs.Common.{arith}
use Rattle.offsets.proofs.TellLaws.{least_low, least_high, least_below, least_above, least_narrowed}
use Rattle.offsets.proofs.least_word.Goals as goal

pub returns-then-a-lt-LOW : goal.returns-then-a-lt-LOW
returns-then-a-lt-LOW c = λ _. least_low c.args.n c.args.x c.args.d.now (omega arith) c.if-a-lt-LOW.true

pub returns-then-a-ge-FAR : goal.returns-then-a-ge-FAR
returns-then-a-ge-FAR c = λ _. least_high c.args.n c.args.x c.args.d.now (omega arith) c.if-a-ge-FAR.true

pub returns-then-b-lt-LOW : goal.returns-then-b-lt-LOW
returns-then-b-lt-LOW c = least_below c.args.n c.args.x c.args.d.now (omega arith) c.if-a-lt-LOW.false c.if-a-ge-FAR.false (omega arith) c.if-b-lt-LOW.true

pub returns-then-b-ge-FAR : goal.returns-then-b-ge-FAR
returns-then-b-ge-FAR c = least_above c.args.n c.args.x c.args.d.now (omega arith) c.if-a-lt-LOW.false c.if-a-ge-FAR.false (omega arith) c.if-b-ge-FAR.true

pub returns : goal.returns
returns c = least_narrowed c.args.n c.args.x c.args.d.now (omega arith) c.if-a-lt-LOW.false c.if-a-ge-FAR.false
    (omega arith) c.if-b-lt-LOW.false c.if-b-ge-FAR.false c.narrow.result c.narrow.ensures
