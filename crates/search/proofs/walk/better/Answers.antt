-- Each way out is a case of `Better`.
use Rattle.std.proofs.Common.{arith}
use Rattle.search.specs.Steps.{no_states, not-less, less}
use Rattle.search.proofs.walk.better.Goals as goal

pub returns-then-other-eq0 : goal.returns-then-other-eq0
returns-then-other-eq0 c = no_states c.if-other-eq0.true

pub returns-then-best-other : goal.returns-then-best-other
returns-then-best-other c = not-less c.if-best-other.true

pub returns : goal.returns
returns c = less (omega arith) c.if-best-other.false
