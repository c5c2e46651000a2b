-- The test is that of the definition.
use Rattle.std.proofs.Common.{eq-eqb, ne_eqb}
use Rattle.report.specs.Report.{sense_sign}
use Rattle.report.proofs.sense_sign.Goals as goal

pub returns-then-s-eq0 : goal.returns-then-s-eq0
unfolding sense_sign
returns-then-s-eq0 c = rw (eq-eqb _ _ c.if-s-eq0.true)

pub returns-else-s-eq0 : goal.returns-else-s-eq0
unfolding sense_sign
returns-else-s-eq0 c = rw (ne_eqb _ _ c.if-s-eq0.false)
