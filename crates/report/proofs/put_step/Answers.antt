-- Letter and sign with spaces are the name of a line whose number is the record.
use Rattle.std.proofs.Common.{[], ◌∷◌, ◌%◌, arith}
use Rattle.report.specs.Report.{space, counted, step_line}
use Rattle.report.proofs.ReportLaws.{length_decimal, length_counted}
use Rattle.report.proofs.put_step.Goals as goal

pub put_counted-requires : goal.put_counted-requires
put_counted-requires c =
    let t = length_decimal 3 (c.args.w % 1024) (omega arith) in
    omega (arith, t, length_counted (c.label_letter.result ∷ space ∷ c.sense_sign.result ∷ space ∷ []) (c.args.w % 1024))

pub returns : goal.returns
unfolding counted step_line
returns c = rw (← c.label_letter.ensures, ← c.sense_sign.ensures) c.put_counted.ensures
