-- A turn is one line more (`lined_more`).
use Rattle.std.proofs.Common.{length, arith}
use Rattle.report.specs.Report.{bytes, chain_text}
use Rattle.report.proofs.ReportLaws.{lined_none, lined_more, lined_all, length_counted_most, length_step_line}
use Rattle.answers.specs.WrittenLaws.{wrote_then}
use Rattle.report.proofs.put_chain.Goals as goal

pub put_counted-end-requires : goal.put_counted-end-requires
unfolding bytes
put_counted-end-requires c = omega (arith, length_counted_most (bytes "chain ") (length c.args.words.now) (omega arith))

pub loop-i-init : goal.loop-i-init
unfolding bytes
loop-i-init c = lined_none (omega (arith, c.put_counted-end.ensures.place, length_counted_most (bytes "chain ") (length c.args.words.now) (omega arith)))

pub loop-i-preserved : goal.loop-i-preserved
loop-i-preserved c = lined_more c.loop-i.invariant c.loop-i-test.true (omega arith) (length_step_line _) c.put_step-end.ensures

pub returns : goal.returns
unfolding bytes chain_text
returns c = wrote_then c.put_counted-end.ensures (lined_all c.loop-i.invariant c.loop-i-test.false)
