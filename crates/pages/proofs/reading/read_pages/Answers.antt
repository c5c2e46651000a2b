-- `read_pages`: the text's number, or the pages read. Assumes nothing.
use mathlib.Core.Path.{sym, ◌∙◌}
use Rattle.pages.proofs.AnswerLaws.{reads_refused, reads_accepted}
use Rattle.pages.proofs.reading.read_pages.Goals as goal

pub returns-in-Refused : goal.returns-in-Refused
returns-in-Refused c =
    reads_refused c.args.text.now c.args.pages.now c.args.list.now _ (sym c.read-reading.ensures.answered ∙ c.in-Refused.is)

pub returns-in-Accepted : goal.returns-in-Accepted
returns-in-Accepted c =
    reads_accepted c.args.text.now c.args.pages.now c.args.list.now (sym c.read-reading.ensures.answered ∙ c.in-Accepted.is) c.read_accepted.ensures
