-- The test is that of the definition.
use Rattle.std.proofs.Common.{lt-ltb, le-ltb}
use Rattle.report.specs.Report.{label_letter}
use Rattle.report.proofs.label_letter.Goals as goal

pub returns-then-k-lt-LABELS : goal.returns-then-k-lt-LABELS
unfolding label_letter
returns-then-k-lt-LABELS c = rw (lt-ltb _ _ c.if-k-lt-LABELS.true)

pub returns-else-k-lt-LABELS : goal.returns-else-k-lt-LABELS
unfolding label_letter
returns-else-k-lt-LABELS c = rw (le-ltb _ _ c.if-k-lt-LABELS.false)
