-- ok for 0, and else the refusal (`refused-text`).
use Rattle.std.proofs.Common.{sym}
use Rattle.report.specs.Report.{answer_text}
use Rattle.report.proofs.ReportLaws.{refused-text}
use Rattle.answers.specs.WrittenLaws.{wrote_as}
use Rattle.report.proofs.put_answer.Goals as goal

pub returns-then-k-eq0 : goal.returns-then-k-eq0
unfolding answer_text
returns-then-k-eq0 c = rw c.if-k-eq0.true c.put_ok.ensures

pub returns : goal.returns
returns c = wrote_as (sym (refused-text c.args.k c.if-k-eq0.false)) c.put_refused.ensures
