-- `lines_of`: no pair takes a head alone; of some pairs both quotients are rounded up. Assumes nothing.
use native.Mathlib.Omega.{arith}
use Rattle.pages.specs.Lines.{lines_of}
use Rattle.pages.proofs.printing.lines_of.Goals as goal

pub returns-then-pairs-eq0 : goal.returns-then-pairs-eq0
unfolding lines_of
returns-then-pairs-eq0 c = omega (arith, c.if-pairs-eq0.true)

pub returns : goal.returns
unfolding lines_of
returns c = omega (arith, c.if-pairs-eq0.false)
