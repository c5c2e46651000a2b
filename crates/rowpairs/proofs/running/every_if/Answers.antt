-- A digit is read. Assumes nothing.
use Rattle.rowpairs.proofs.LetterLaws.{every_true, every_false}
use Rattle.rowpairs.proofs.running.every_if.Goals as goal

pub returns-then-set-label-eq1 : goal.returns-then-set-label-eq1
returns-then-set-label-eq1 c = every_true c.args.set c.args.label c.if-set-label-eq1.true

pub returns : goal.returns
returns c = every_false c.args.set c.args.label c.if-set-label-eq1.false
