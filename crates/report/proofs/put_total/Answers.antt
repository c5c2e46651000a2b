-- A line of the word and the number.
use Rattle.std.proofs.Common.{arith}
use Rattle.report.specs.Report.{bytes, total_text}
use Rattle.report.proofs.ReportLaws.{length_counted_most}
use Rattle.report.proofs.put_total.Goals as goal

pub put_counted-requires : goal.put_counted-requires
unfolding bytes
put_counted-requires c = omega (arith, length_counted_most (bytes "total ") c.args.t (omega arith))

pub returns : goal.returns
unfolding bytes total_text
returns c = c.put_counted.ensures
