-- With a ) at the place reached the group is read, else nothing is.
use Rattle.std.proofs.Common.{sym, ◌∙◌}
use Rattle.reader.proofs.StepLaws.{none_closed, closes, not_closed}
use Rattle.reader.proofs.closed.Goals as goal

pub returns-in_default : goal.returns-in_default
returns-in_default c = none_closed c.in_default.is

pub returns-then-peek-eq41 : goal.returns-then-peek-eq41
returns-then-peek-eq41 c = closes c.in-Got.is (sym c.peek.ensures ∙ c.if-peek-eq41.true)

pub returns-else-peek-eq41 : goal.returns-else-peek-eq41
returns-else-peek-eq41 c = not_closed c.in-Got.is (λ e. c.if-peek-eq41.false (c.peek.ensures ∙ e))
