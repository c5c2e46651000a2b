-- The bytes are those of the text.
use Rattle.report.specs.Report.{bytes, none_text}
use Rattle.report.proofs.put_none.Goals as goal

pub returns : goal.returns
unfolding bytes none_text
returns c = c.put_text.ensures
