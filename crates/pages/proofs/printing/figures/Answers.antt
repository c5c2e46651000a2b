-- `figures` takes one figure off at a time. The loop's invariant: those counted and those of the rest are one more than those of the number. The
-- measure is the rest. It rests on `length_decimal_more`. Assumes nothing.
use native.Mathlib.Omega.{arith}
use Rattle.report.proofs.ReportLaws.{length_decimal, length_decimal_small, length_decimal_more}
use Rattle.pages.proofs.printing.figures.Goals as goal

pub overflow_add-count : goal.overflow_add-count
overflow_add-count c = omega (arith, length_decimal 19 c.args.k (omega arith), c.loop-rest.invariant)

pub loop-rest-preserved : goal.loop-rest-preserved
loop-rest-preserved c = omega (arith, c.loop-rest.invariant, length_decimal_more c.loop-rest.rest c.loop-rest-test.true)

pub returns : goal.returns
returns c = omega (arith, c.loop-rest.invariant, length_decimal_small c.loop-rest.rest c.loop-rest-test.false)
