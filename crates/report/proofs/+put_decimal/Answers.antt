-- The figures are those of the tenth part, and then the last one (`decimal_more`).
use Rattle.std.proofs.Common.{arith}
use Rattle.report.proofs.ReportLaws.{decimal_small, decimal_more, length_decimal_small, length_decimal_more}
use Rattle.answers.specs.WrittenLaws.{wrote_then}
use Rattle.report.proofs.+put_decimal.Goals as goal

pub put_byte-requires : goal.put_byte-requires
put_byte-requires t c = omega (arith, length_decimal_small c.args.n c.if-n-lt10.true)

pub returns-then-n-lt10 : goal.returns-then-n-lt10
returns-then-n-lt10 t c = rw (decimal_small c.args.n c.if-n-lt10.true) c.put_byte.ensures

pub put_decimal-next-requires : goal.put_decimal-next-requires
put_decimal-next-requires t c = (omega (arith, c.if-n-lt10.false), omega (arith, length_decimal_more c.args.n c.if-n-lt10.false))

pub put_byte-requires-2 : goal.put_byte-requires-2
put_byte-requires-2 t c = omega (arith, length_decimal_more c.args.n c.if-n-lt10.false, c.put_decimal-next.ensures.place)

pub returns : goal.returns
returns t c = rw (decimal_more c.args.n c.if-n-lt10.false) (wrote_then c.put_decimal-next.ensures c.put_byte-2.ensures)
