-- The operator's number after both codes.
use Rattle.reader.proofs.JoinLaws.{joins, joins_no_next}
use Rattle.reader.proofs.combined.Goals as goal

pub returns-in_default-next : goal.returns-in_default-next
returns-in_default-next c = joins_no_next _ _ _ c.in-Got.is c.in_default-next.is

pub returns : goal.returns
returns c = rw (c.push-end.ensures.0, c.push-end.ensures.1, c.larger.ensures) (joins _ _ c.in-Got.is c.in-Got-next.is)
