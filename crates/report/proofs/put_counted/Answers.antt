-- The name, the number's figures and a newline, one after the other (`wrote_then`).
use Rattle.std.proofs.Common.{arith}
use Rattle.report.specs.Report.{counted}
use Rattle.report.proofs.ReportLaws.{length_counted}
use Rattle.answers.specs.WrittenLaws.{wrote_then}
use Rattle.report.proofs.put_counted.Goals as goal

pub put_text-next-requires : goal.put_text-next-requires
put_text-next-requires c = omega (arith, length_counted c.args.name.now c.args.k)

pub put_decimal-end-requires : goal.put_decimal-end-requires
put_decimal-end-requires c = omega (arith, length_counted c.args.name.now c.args.k, c.put_text-next.ensures.place)

pub put_byte-requires : goal.put_byte-requires
put_byte-requires c = omega (arith, length_counted c.args.name.now c.args.k, c.put_text-next.ensures.place, c.put_decimal-end.ensures.place)

pub returns : goal.returns
unfolding counted
returns c = wrote_then (wrote_then c.put_text-next.ensures c.put_decimal-end.ensures) c.put_byte.ensures
