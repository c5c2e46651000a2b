-- The figures of from, and then a line of a space and to (`pair-line`).
use Rattle.std.proofs.Common.{[], ◌∷◌, ◌/◌, ◌%◌, arith}
use Rattle.report.specs.Report.{space}
use Rattle.report.proofs.ReportLaws.{length_decimal, length_counted, pair-line}
use Rattle.answers.specs.WrittenLaws.{wrote_as, wrote_then}
use Rattle.report.proofs.put_pair.Goals as goal

pub put_decimal-next-requires : goal.put_decimal-next-requires
put_decimal-next-requires c = omega (arith, length_decimal 6 (c.args.w / 1024) (omega arith))

pub put_counted-requires : goal.put_counted-requires
put_counted-requires c =
    let f = length_decimal 6 (c.args.w / 1024) (omega arith) in
    let t = length_decimal 3 (c.args.w % 1024) (omega arith) in
    omega (arith, f, t, length_counted (space ∷ []) (c.args.w % 1024), c.put_decimal-next.ensures.place)

pub returns : goal.returns
returns c = wrote_as (pair-line c.args.w) (wrote_then c.put_decimal-next.ensures c.put_counted.ensures)
