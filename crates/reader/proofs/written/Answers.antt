-- The symbol's number, where there is one.
use Rattle.reader.proofs.StepLaws.{writes, writes_none}
use Rattle.reader.proofs.written.Goals as goal

pub returns-in_default : goal.returns-in_default
returns-in_default c = writes_none c.in_default.is

pub returns : goal.returns
returns c = rw (c.push-end.ensures.0, c.push-end.ensures.1, c.letters_number.ensures) (writes c.in-Read.is)
