-- Each way out by a law of `TellLaws`. Assumes nothing.
use Rattle.std.proofs.Common.{arith}
use Rattle.offsets.proofs.TellLaws.{most_low, most_high, most_narrowed}
use Rattle.offsets.proofs.most_word.Goals as goal

pub returns-then-a-lt-LOW : goal.returns-then-a-lt-LOW
returns-then-a-lt-LOW c = λ _. most_low c.args.n c.args.x c.args.d.now (omega arith) c.if-a-lt-LOW.true

pub returns-then-a-ge-FAR : goal.returns-then-a-ge-FAR
returns-then-a-ge-FAR c = λ _. most_high c.args.n c.args.x c.args.d.now (omega arith) c.if-a-ge-FAR.true

pub returns : goal.returns
returns c = most_narrowed c.args.n c.args.x c.args.d.now (omega arith) c.if-a-lt-LOW.false c.if-a-ge-FAR.false c.narrow.result c.narrow.ensures
