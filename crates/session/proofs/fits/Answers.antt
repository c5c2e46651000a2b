-- shape by shape: its test is that of the definition. Assumes nothing.
use Rattle.session.specs.Program.{fits}
use Rattle.session.proofs.fits.Goals as goal

pub returns-in-Empty : goal.returns-in-Empty
unfolding fits
returns-in-Empty c = rw c.in-Empty.is

pub returns-in-Record : goal.returns-in-Record
unfolding fits
returns-in-Record c = rw c.in-Record.is

pub returns-in-Link : goal.returns-in-Link
unfolding fits
returns-in-Link c = rw c.in-Link.is

pub returns-in-Size : goal.returns-in-Size
unfolding fits
returns-in-Size c = rw c.in-Size.is

pub returns-in-Label : goal.returns-in-Label
unfolding fits
returns-in-Label c = rw c.in-Label.is

pub returns-in-Expression : goal.returns-in-Expression
unfolding fits
returns-in-Expression c = rw c.in-Expression.is

pub returns-in-Ends : goal.returns-in-Ends
unfolding fits
returns-in-Ends c = rw c.in-Ends.is

pub returns-in-Unknown : goal.returns-in-Unknown
unfolding fits
returns-in-Unknown c = rw c.in-Unknown.is
