-- The bytes are those of the text.
use Rattle.report.specs.Report.{bytes, ok_text}
use Rattle.report.proofs.put_ok.Goals as goal

pub returns : goal.returns
unfolding bytes ok_text
returns c = c.put_text.ensures
